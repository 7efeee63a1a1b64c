-- Sums and differences over a width; carry and overflow are facts about whole numbers.
use Rattle.std.specs.Prelude.{ℕ, ◌+◌, ◌-◌, ◌%◌, Bool, false, ◌||◌, ℤ, pos, ◌+ℤ◌, ◌-ℤ◌, neg_ℤ, ◌==◌, int_le, int_lt, nat_le, if◌then◌else◌}
use Rattle.bits.specs.Bits.{bit}
use Rattle.memory.specs.declared.Width.{Width}
use Rattle.memory.specs.declared.Width.TheVariants.{Word}
use Rattle.memory.specs.Memory.{modulus}
use Rattle.alu.specs.declared.Outcome.{Outcome}
use Rattle.alu.specs.Status.{half, signed, compared, judged, carried}

-- whether a whole number is none of a width's signed numbers, which go from -half to half - 1
unfoldable pub outside : Width → ℤ → Bool
outside w z = int_lt z (neg_ℤ (pos (half w))) || int_le (pos (half w)) z

-- OV of a sum and of a difference: the sum or the difference of the signed numbers lies outside the width.
unfoldable pub sum_overflows : Width → ℕ → ℕ → Bool
sum_overflows w a b = outside w (signed w a +ℤ signed w b)

unfoldable pub difference_overflows : Width → ℕ → ℕ → Bool
difference_overflows w d s = outside w (signed w d -ℤ signed w s)

-- a + b: C is the carry out of the width.
unfoldable pub sum : Width → ℕ → ℕ → ℕ → Outcome
sum w a b st =
    record { value = result; st = carried (nat_le (modulus w) (a + b)) (sum_overflows w a b) (judged w result st) }
  where
    result : ℕ
    result = (a + b) % modulus w

-- d - s: C is 1 exactly if d ≥ s, unsigned.
unfoldable pub difference : Width → ℕ → ℕ → ℕ → Outcome
difference w d s st =
    record { value = result; st = carried (nat_le s d) (difference_overflows w d s) (judged w result st) }
  where
    result : ℕ
    result = (d + (65536 - s)) % modulus w

-- NEG is 0 less the operand: so C exactly if the operand is 0, OV exactly if it is 8000h.
unfoldable pub negated : ℕ → ℕ → Outcome
negated v st = difference Word 0 v st

-- ABS judges the operand, clears C, and sets OV exactly if it is 8000h.
unfoldable pub absolute : ℕ → ℕ → Outcome
absolute v st =
    record {
      value = if bit 15 v then (65536 - v) % 65536 else v;
      st = carried false (v == 0x8000) (compared Word v 0 st);
    }
