-- What putting a bit and joining words do, bit by bit.
use Rattle.std.specs.Prelude.{ℕ, ◌-◌, ◌<◌, ◌^◌, ◌≡◌, Bool, not, ◌&&◌}
use Rattle.std.specs.Int.Bits.{bit_and}
use Rattle.bits.specs.Bits.{bit, put}

-- the bit that was put reads back
abbrev pub PutRead : Type 0
PutRead = (n : ℕ) (b : Bool) (w : ℕ) → bit n (put n b w) ≡ b

-- every other bit is what it was
abbrev pub PutOthers : Type 0
PutOthers = (m n : ℕ) (b : Bool) (w : ℕ) → (m ≡ n → ⊥) → bit m (put n b w) ≡ bit m w

-- a number of j bits stays one
abbrev pub PutFits : Type 0
PutFits = (j n : ℕ) (b : Bool) (w : ℕ) → n < j → w < 2 ^ j → put n b w < 2 ^ j

-- a bit of `a & b` is set where both have it
abbrev pub AndBit : Type 0
AndBit = (n a b : ℕ) → bit n (bit_and a b) ≡ (bit n a && bit n b)

-- a bit of `a - (a & b)` is set where a has it and b does not
abbrev pub WithoutBit : Type 0
WithoutBit = (n a b : ℕ) → bit n (a - bit_and a b) ≡ (bit n a && not (bit n b))
