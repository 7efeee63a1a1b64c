-- One turn of a transfer. A turn of LDCR drives the lowest bit and goes on with the rest; a turn of STCR adds the bit that it read, at
-- the weight that it has reached, to the bits below it.
use Rattle.std.specs.Prelude.{if◌then◌else◌}
use Prim.Native.Nat.{ℕ, suc, ◌+◌, ◌*◌, ◌/◌, ◌%◌, ◌^◌, ◌<◌, ◌≤◌}
use mathlib.Core.Path.{◌≡◌}
use mathlib.Core.Bool.{Bool, true, false}
use mathlib.Core.List.{List}
use native.Mathlib.Omega.{arith}
use native.Mathlib.Numerals.{add-one}
use native.Mathlib.Nat.{div-one, pow-suc, mul-add, mul_assoc, one-mul, zero-add}
use lib.Dec.{eqb}
use lib.Pow.{pow_mono, pow-lt}
use mir.Val.{bool_byte}
use Rattle.bits.specs.Bits.{bit, one_if}
use Rattle.psi.specs.declared.CruBit.{CruBit}
use Rattle.psi.specs.Cru.{beyond}
use Rattle.alu.specs.Shifts.{amount}
use Rattle.machine.specs.declared.State.{State}
use Rattle.machine.specs.State.{at}
use Rattle.machine.specs.Micro.{sensed, driven}
use Rattle.machine.specs.Perform.{Performed, perform, performed}
use Rattle.machine.specs.Groups.{drive_bits, sense_bits}
use Rattle.machine.proofs.Bind.{perform_bind, perform_done}

pub lowest : (x : ℕ) → bit 0 x ≡ eqb (x % 2) 1
unfolding bit
lowest x = rw div-one

pub drive_turn :
    (v k : ℕ) (b : CruBit) (x : ℕ) (s t : State) (m : List ℕ)
    → perform v (driven b (eqb (x % 2) 1)) (at s m) ≡ performed tt (at t m)
    → perform v (drive_bits (suc k) b x) (at s m) ≡ perform v (drive_bits k (beyond b 1) (x / 2)) (at t m)
unfolding drive_bits
drive_turn v k b x s t m e = rw (lowest x, perform_bind, e)

-- the bits found so far, below those that are yet to come
abbrev pub gathered : ℕ → ℕ → Performed ℕ → Performed ℕ
gathered a n p = performed (a + 2 ^ n * p.value) p.machine

pub gathered_none : (p : Performed ℕ) → gathered 0 0 p ≡ p
gathered_none p = rw (one-mul, zero-add)

-- a bit at its weight fits a word
weighed : (n : ℕ) (x : Bool) → n < 16 → bool_byte x * 2 ^ n % 2 ^ 16 ≡ bool_byte x * 2 ^ n
weighed n false h = omega arith
weighed n true h = let p : 2 ^ n < 65536 = pow-lt h in omega arith

pub weighed_below : (n a : ℕ) (x : Bool) → n < 16 → a < 2 ^ n → a + bool_byte x * 2 ^ n % 2 ^ 16 < 2 ^ (n + 1)
weighed_below n a false h l = rw (weighed n false h, add-one, pow-suc) (omega arith)
weighed_below n a true h l = rw (weighed n true h, add-one, pow-suc) (omega arith)

pub below_word : (n a : ℕ) → n ≤ 16 → a < 2 ^ n → a < 65536
below_word n a h l = let p : 2 ^ n ≤ 65536 = pow_mono h in omega arith

number_turn : (n a r : ℕ) (x : Bool) → n < 16 → a + 2 ^ n * (one_if x + 2 * r) ≡ a + bool_byte x * 2 ^ n % 2 ^ 16 + 2 ^ (n + 1) * r
number_turn n a r false h = rw (weighed n false h, add-one, pow-suc, mul-add, mul_assoc) (omega arith)
number_turn n a r true h = rw (weighed n true h, add-one, pow-suc, mul-add, mul_assoc) (omega arith)

pub sense_turn :
    (v k n a : ℕ) (x : Bool) (b : CruBit) (s t : State) (m : List ℕ)
    → n < 16
    → perform v (sensed b) (at s m) ≡ performed x (at t m)
    → gathered a n (perform v (sense_bits (suc k) b) (at s m))
    ≡ gathered (a + bool_byte x * 2 ^ n % 2 ^ 16) (n + 1) (perform v (sense_bits k (beyond b 1)) (at t m))
unfolding sense_bits
sense_turn v k n a x b s t m h e = rw (perform_bind, e, perform_bind, perform_done, number_turn n a _ x h)

-- a transfer has at most 16 bits
pub amount_fits : (n : ℕ) → amount n ≤ 16
unfolding amount
amount_fits n = by_test (eqb (n % 16) 0)
  where
    by_test : (b : Bool) → (if b then 16 else (n % 16)) ≤ 16
    by_test true = omega arith
    by_test false = omega arith
