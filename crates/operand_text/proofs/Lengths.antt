-- How long operands are as text: a register of k + 1 digits has one byte more, and an indexed operand ten.
use Rattle.std.specs.Prelude.{if◌then◌else◌}
use Prim.Native.Nat.{ℕ, suc, ◌+◌, ◌-◌, ◌^◌, ◌<◌, ◌≤◌}
use mathlib.Core.Path.{◌≡◌}
use mathlib.Core.Bool.{Bool, true, false}
use mathlib.Core.List.{List}
use native.Mathlib.Omega.{arith}
use lib.Dec.{eqb, ltb}
use lib.ListN.{length, length-append}
use Rattle.isa.specs.declared.Operand.{Operand}
use Rattle.text.specs.Texts.{ascii}
use Rattle.text.proofs.Laws.{hex_length, decimal_length}
use Rattle.operand_text.specs.Kinds.{register, word, index, general, displacement}

pub register_length : (k r : ℕ) → r < 10 ^ suc k → length (register r) ≤ 2 + k
unfolding register ascii
register_length k r h = omega (arith, decimal_length k r h)

pub word_length : (w : ℕ) → length (word w) ≡ 5
unfolding word ascii
word_length w = rw (hex_length w)

-- either way, a text that is no longer
if_length : (b : Bool) (p q : List ℕ) (n : ℕ) → length p ≤ n → length q ≤ n → length (if b then p else q) ≤ n
if_length true p q n h k = h
if_length false p q n h k = k

pub index_length : (k r : ℕ) → r < 10 ^ suc k → length (index r) ≤ 4 + k
unfolding index ascii
index_length k r h = if_length (eqb r 0) _ _ (4 + k) (omega arith) (rw (length-append) (omega (arith, register_length k r h)))

pub general_length : (k : ℕ) (o : Operand) (w : ℕ) → o.register < 10 ^ suc k → length (general o w) ≤ 10 + k
unfolding general ascii
general_length k o w h =
    let r = register_length k o.register h in
    if_length (eqb o.mode 0) _ _ (10 + k) (omega (arith, r))
    (if_length (eqb o.mode 1) _ _ (10 + k) (omega (arith, r))
    (if_length (eqb o.mode 2) _ _ (10 + k)
    (rw (length-append) (omega (arith, word_length w, index_length k o.register h)))
    (rw (length-append) (omega (arith, r)))))

pub displacement_length : (d : ℕ) → d < 256 → length (displacement d) ≤ 4
unfolding displacement ascii
displacement_length d h =
    if_length (ltb d 0x80) _ _ 4 (omega (arith, decimal_length 2 d (omega arith))) (omega (arith, decimal_length 2 (0x100 - d) (omega arith)))
