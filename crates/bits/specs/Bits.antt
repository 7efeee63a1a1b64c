-- Bits of a word, counted from the lowest: bit n has the weight 2^n.
use Rattle.std.specs.Prelude.{ℕ, ◌+◌, ◌-◌, ◌*◌, ◌/◌, ◌%◌, ◌^◌, Bool, true, false, eqb, ltb, if◌then◌else◌}

-- the number of a truth value: 1 or 0
abbrev pub one_if : Bool → ℕ
one_if true = 1
one_if false = 0

-- whether the bit of weight 2^n is set
unfoldable pub bit : ℕ → ℕ → Bool
bit n w = eqb (w / 2 ^ n % 2) 1

-- w with the bit of weight 2^n made b: what lies above it, the bit, what lies below it
unfoldable pub put : ℕ → Bool → ℕ → ℕ
put n b w = (w / 2 ^ n / 2 * 2 + one_if b) * 2 ^ n + w % 2 ^ n

-- a signed byte, as what it adds where numbers wrap at n: from 80h on it is 100h less
unfoldable pub signed_byte : ℕ → ℕ → ℕ
signed_byte n d = if ltb d 0x80 then d else (d + (n - 0x100))
