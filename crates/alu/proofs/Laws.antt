-- Bounds that hold at either width: a width has at most 65536 values, and a raised number is one of them.
use Rattle.std.proofs.Common.{◌≡◌, ℕ, ◌+◌, ◌*◌, ◌/◌, ◌%◌, ◌^◌, ◌<◌, ◌≤◌, leb, sym, ◌∙◌, lt_of_le_of_lt, le_of_lt, mod-lt, div-lt_iff_lt-mul, mul-le-mul_left, mul-lt-mul_of_pos_right, arith, pow_pos, pow-add, eq-eqb, ne_eqb, le-leb}
use native.Mathlib.Decide.{dec_lt}
use borrow.Author.Tests.{lt-leb}
use Rattle.bits.specs.Bits.{bit}
use Rattle.memory.specs.declared.Width.{Width}
use Rattle.memory.specs.declared.Width.TheVariants.{Byte, Word}
use Rattle.memory.specs.Memory.{modulus}
use Rattle.alu.specs.Status.{half}
use Rattle.alu.specs.Raised.{raised}

pub modulus_bounds : (w : Width) → (0 < modulus w) × (modulus w ≤ 65536)
modulus_bounds Byte = omega arith
modulus_bounds Word = omega arith

pub raised_below : (w : Width) (a : ℕ) → raised w a < 65536
unfolding raised
raised_below w a = omega (arith, modulus_bounds w, mod-lt (a + half w) (modulus_bounds w).0)

-- reducing to a word first loses nothing, at either width
pub reduced_twice : (w : Width) (x : ℕ) → x % 65536 % modulus w ≡ x % modulus w
reduced_twice Byte x = omega arith
reduced_twice Word x = omega arith

-- the product of two numbers of k bits has at most twice as many
pub product_below : (k : ℕ) {a b : ℕ} → a < 2 ^ k → b < 2 ^ k → a * b < 2 ^ (k + k)
product_below k {a} {b} ha hb = rw (pow-add 2 k k) (lt_of_le_of_lt (mul-le-mul_left a (le_of_lt hb)) (mul-lt-mul_of_pos_right ha (pow_pos k)))

-- a divisor above the high word leaves a quotient of one word
pub quotient_below : (d high low : ℕ) → high < d → low < 65536 → (high * 65536 + low) / d < 65536
quotient_below d high low h l =
    let room : high * 65536 + low < 65536 * d = omega arith in
    let some : 0 < d = omega arith in
    (div-lt_iff_lt-mul some).1 room

-- a number is below another or not
pub either_side : {A : Type 0} (a b : ℕ) → (a < b → A) → (b ≤ a → A) → A
either_side {A} a b below beyond = choose (dec_lt a b)
  where
    choose : Dec (a < b) → A
    choose (yes h) = below h
    choose (no h) = beyond (omega arith)

-- the sign of a word is its highest bit
pub sign_bit : (v : ℕ) → v < 65536 → bit 15 v ≡ leb 32768 v
unfolding bit
sign_bit v h =
    either_side v 32768 (λ l. ne_eqb (v / 32768 % 2) 1 (omega arith) ∙ sym (lt-leb 32768 v l))
    (λ g. eq-eqb (v / 32768 % 2) 1 (omega arith) ∙ sym (le-leb 32768 v g))
