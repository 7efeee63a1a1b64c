-- How the code compares signed numbers without negative ones: each is raised by half the width's values, and the order stays.
use Rattle.std.specs.Prelude.{◌≡◌, ℕ, ◌+◌, ◌%◌, ◌||◌, int_lt, nat_le, nat_lt}
use Rattle.std.proofs.Math.IntN.{sub_ℕ}
use Rattle.memory.specs.declared.Width.{Width}
use Rattle.memory.specs.Memory.{modulus}
use Rattle.alu.specs.Status.{half, signed}
use Rattle.alu.specs.Sums.{sum_overflows, difference_overflows}

unfoldable pub raised : Width → ℕ → ℕ
raised w a = (a + half w) % modulus w

-- it is the signed number plus half the values
abbrev pub RaisedIsSigned : Type 0
RaisedIsSigned = (w : Width) (a : ℕ) → signed w a ≡ sub_ℕ (raised w a) (half w)

-- so the order is the signed order
abbrev pub RaisedOrder : Type 0
RaisedOrder = (w : Width) (a b : ℕ) → int_lt (signed w a) (signed w b) ≡ nat_lt (raised w a) (raised w b)

-- and a sum of two, which has all the values too much, or a difference of two, shows whether it lies outside
abbrev pub RaisedSum : Type 0
RaisedSum =
    (w : Width) (a b : ℕ)
    → sum_overflows w a b
    ≡ nat_lt (raised w a + raised w b) (half w) || nat_le (modulus w + half w) (raised w a + raised w b)

abbrev pub RaisedDifference : Type 0
RaisedDifference =
    (w : Width) (d s : ℕ)
    → difference_overflows w d s
    ≡ nat_lt (raised w d + half w) (raised w s) || nat_le (raised w s + half w) (raised w d)
