-- Products and quotients of unsigned words.
use Rattle.std.specs.Prelude.{ℕ, ◌+◌, ◌*◌, ◌/◌, ◌%◌, nat_le, if◌then◌else◌}
use Rattle.alu.specs.declared.Pair.{Pair}

-- the 32 bits of a product, as two words
unfoldable pub product : ℕ → ℕ → Pair
product a b = record { high = a * b / 65536; low = a * b % 65536 }

-- A pair of words by a divisor: quotient, then remainder. Where the divisor is at most the high word the quotient does
-- not fit, and the pair stays.
unfoldable pub divided : ℕ → Pair → Pair
divided d p =
    if nat_le d p.high
    then p
    else record { high = (p.high * 65536 + p.low) / d; low = (p.high * 65536 + p.low) % d }
