-- An operation that joins two numbers' binary digits, lowest first, is `joined` at as many bits as the numbers have: both
-- take the lowest pair of digits and go on with the halves. So does `bit`, which therefore sees the pair of digits at its
-- place. A truth value's number is the digit it stands for.
use Prim.Native.Nat.{ℕ, zero, suc, ◌+◌, ◌-◌, ◌*◌, ◌/◌, ◌%◌, ◌^◌, ◌<◌, min, max}
use mathlib.Core.Path.{◌≡◌, refl, sym, ap, ◌∙◌}
use mathlib.Core.Bool.{Bool, true, false, not, ◌&&◌, ◌||◌}
use native.Mathlib.Omega.{arith}
use native.Mathlib.Nat.{div-one}
use lib.Dec.{eqb}
use lib.Arith.{lt-one}
use lib.Bits.{bit_and, bit_or, bit_xor, differ, and_step, or_step, xor_step, and_le_l}
use Rattle.bits.specs.Bits.{one_if, bit}
use Rattle.bits.specs.Logic.{joined, without}
use Rattle.bits.specs.Laws.{AndBit, WithoutBit}
use Rattle.bits.proofs.Laws.{one_if_below, one_if_set, bit_half}

digit : (d : ℕ) → d < 2 → one_if (eqb d 1) ≡ d
digit zero h = refl
digit (suc zero) h = refl
digit (suc (suc d)) h = absurd (omega arith)

-- the lowest bit, as a number
lowest : (a : ℕ) → one_if (bit 0 a) ≡ a % 2
unfolding bit
lowest a = rw div-one (digit (a % 2) (omega arith))

-- an operation that joins two numbers digit by digit: f on truth values, g on digits
record Digitwise (f : Bool → Bool → Bool) (g op : ℕ → ℕ → ℕ) : Type 0 where
  agree : (p q : Bool) → g (one_if p) (one_if q) ≡ one_if (f p q)
  none : op 0 0 ≡ 0
  step : (a b : ℕ) → op a b ≡ op (a / 2) (b / 2) * 2 + g (a % 2) (b % 2)

module _ {f : Bool → Bool → Bool} {g op : ℕ → ℕ → ℕ} (d : Digitwise f g op) where
  -- the result by its lowest bit
  by_bit : (a b : ℕ) → op a b ≡ op (a / 2) (b / 2) * 2 + one_if (f (bit 0 a) (bit 0 b))
  by_bit a b = rw (← d.agree, lowest a, lowest b) (d.step a b)

  joined_is : (k a b : ℕ) → a < 2 ^ k → b < 2 ^ k → joined f k a b ≡ op a b
  unfolding joined
  joined_is zero a b ha hb = rw (lt-one ha, lt-one hb) (sym d.none)
  joined_is (suc k) a b ha hb = rw (by_bit a b, joined_is k (a / 2) (b / 2) (omega arith) (omega arith))

  -- a bit of the result is what f makes of the numbers' bits
  bit_of : (n a b : ℕ) → bit n (op a b) ≡ f (bit n a) (bit n b)
  bit_of zero a b =
      let made : Bool = f (bit 0 a) (bit 0 b) in
      let e : op a b % 2 ≡ one_if made = omega (arith, by_bit a b, one_if_below made) in
      sym (one_if_set (bit 0 (op a b))) ∙ ap (λ (x : ℕ). eqb x 1) (lowest (op a b) ∙ e) ∙ one_if_set made
  bit_of (suc n) a b =
      let half : op a b / 2 ≡ op (a / 2) (b / 2) = omega (arith, by_bit a b, one_if_below (f (bit 0 a) (bit 0 b))) in
      rw (bit_half n (op a b), half, bit_half n a, bit_half n b) (bit_of n (a / 2) (b / 2))

-- what holds of the four pairs of truth values holds of every pair
each_pair : (P : Bool → Bool → Type 0) → P true true → P true false → P false true → P false false → (p q : Bool) → P p q
each_pair P tt tf ft ff true true = tt
each_pair P tt tf ft ff true false = tf
each_pair P tt tf ft ff false true = ft
each_pair P tt tf ft ff false false = ff

and_digits : Digitwise (λ x y. x && y) min bit_and
and_digits =
    record {
      agree = each_pair (λ p q. min (one_if p) (one_if q) ≡ one_if (p && q)) refl refl refl refl;
      none = refl;
      step = and_step;
    }

or_digits : Digitwise (λ x y. x || y) max bit_or
or_digits =
    record {
      agree = each_pair (λ p q. max (one_if p) (one_if q) ≡ one_if (p || q)) refl refl refl refl;
      none = refl;
      step = or_step;
    }

xor_digits : Digitwise (λ x y. (x && not y) || (not x && y)) differ bit_xor
xor_digits =
    record {
      agree = each_pair (λ p q. differ (one_if p) (one_if q) ≡ one_if ((p && not q) || (not p && q))) refl refl refl refl;
      none = refl;
      step = xor_step;
    }

without_digits : Digitwise (λ x y. x && not y) (λ x y. x - min x y) (λ a b. a - bit_and a b)
without_digits =
    record {
      agree = each_pair (λ p q. one_if p - min (one_if p) (one_if q) ≡ one_if (p && not q)) refl refl refl refl;
      none = refl;
      step = λ a b. omega (arith, and_step a b, and_le_l (a / 2) (b / 2));
    }

-- the operations, on as many bits as they are asked for
pub both_is : (k a b : ℕ) → a < 2 ^ k → b < 2 ^ k → joined (λ x y. x && y) k a b ≡ bit_and a b
both_is = joined_is and_digits

pub either_is : (k a b : ℕ) → a < 2 ^ k → b < 2 ^ k → joined (λ x y. x || y) k a b ≡ bit_or a b
either_is = joined_is or_digits

pub exclusive_is : (k a b : ℕ) → a < 2 ^ k → b < 2 ^ k → joined (λ x y. (x && not y) || (not x && y)) k a b ≡ bit_xor a b
exclusive_is = joined_is xor_digits

pub without_is : (k a b : ℕ) → a < 2 ^ k → b < 2 ^ k → joined (λ x y. x && not y) k a b ≡ a - bit_and a b
without_is = joined_is without_digits

-- bit by bit
pub and_bit : AndBit
and_bit = bit_of and_digits

pub without_bit : WithoutBit
without_bit = bit_of without_digits

-- the ones of a word and of another turned round are those that the other does not have
not_and : (k a b : ℕ) → a < 2 ^ k → b < 2 ^ k → bit_and a (2 ^ k - 1 - b) ≡ a - bit_and a b
not_and zero a b ha hb = rw (lt-one ha) (omega (arith, and_le_l 0 b))
not_and (suc k) a b ha hb =
    let half : (2 ^ suc k - 1 - b) / 2 ≡ 2 ^ k - 1 - b / 2 = omega arith in
    let whole = rw half at (and_step a (2 ^ suc k - 1 - b)) in
    omega (arith, whole, not_and k (a / 2) (b / 2) (omega arith) (omega arith), and_step a b, and_le_l (a / 2) (b / 2))

pub without_inverted : (a b : ℕ) → a < 65536 → b < 65536 → bit_and a (65535 - b) ≡ without a b
unfolding without
without_inverted a b ha hb = not_and 16 a b ha hb ∙ sym (without_is 16 a b ha hb)
