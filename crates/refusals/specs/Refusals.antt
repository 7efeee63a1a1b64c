-- The refusals' numbers, and how a call's outcome shows them.
use Rattle.std.specs.Prelude.{ℕ, Result, Ok, Err}
use Rattle.refusals.specs.declared.Refusal.{Refusal}
use Rattle.refusals.specs.declared.Refusal.TheVariants.{MemorySize, State, Records, ImageSize, Check, BlockNumber, Format, Content, TextBuffer}

-- Document 01's table of refusals, and document 02's 11.
unfoldable pub number : Refusal → ℕ
number MemorySize = 1
number State = 2
number Records = 3
number ImageSize = 5
number (Check b) = 6
number (BlockNumber b) = 7
number Format = 8
number Content = 9
number TextBuffer = 11

-- the block that refusals 6 and 7 name, else 0
unfoldable pub block : Refusal → ℕ
block MemorySize = 0
block State = 0
block Records = 0
block ImageSize = 0
block (Check b) = b
block (BlockNumber b) = b
block Format = 0
block Content = 0
block TextBuffer = 0

-- the number of a call's outcome: 0 where it was not refused
unfoldable pub number_of : {A : Type 0} → Result A Refusal → ℕ
number_of (Ok a) = 0
number_of (Err r) = number r

-- the block of a call's outcome
unfoldable pub block_of : {A : Type 0} → Result A Refusal → ℕ
block_of (Ok a) = 0
block_of (Err r) = block r
