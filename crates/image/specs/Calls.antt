-- The two calls: when they refuse, what they answer, and what the lent bytes are afterwards.
use Rattle.std.specs.Prelude.{ℕ, zero, suc, ◌+◌, Bool, not, ◌&&◌, ◌||◌, List, length, eqb, if◌then◌else◌, Result, Ok, Err}
use Rattle.refusals.specs.declared.Refusal.{Refusal}
use Rattle.refusals.specs.Refusals.{number, block, number_of, block_of}
use Rattle.memory.specs.Memory.{size}
use Rattle.machine.specs.declared.State.{State}
use Rattle.machine.specs.declared.Refused.{Refused}
use Rattle.machine.specs.State.{blank, well_formed}
use Rattle.image_blocks.specs.Image as Image

-- a refusal's number, 0 for none, and the block that it names
pub record Fault : Type 0 where
  pub number : ℕ
  pub block : ℕ

-- reading's answer: the number of the table of refusals, the block that a refusal names, and the state
pub record ReadAnswer : Type 0 where
  pub number : ℕ
  pub block : ℕ
  pub state : State

-- writing's answer: the number and the state
pub record WriteAnswer : Type 0 where
  pub number : ℕ
  pub state : State

-- What a call gives, in these terms. The numbers of refusals differ, and a refusal that names a block is among reading's and an image's
-- alone, where the block stands too; so each determines what its call gives.

abbrev pub fault_of : {A : Type 0} → Result A Refusal → Fault
fault_of r = record { number = number_of r; block = block_of r }

unfoldable pub read_answer : Result State Refused → ReadAnswer
read_answer (Ok s) = record { number = 0; block = 0; state = s }
read_answer (Err e) = record { number = number e.refusal; block = block e.refusal; state = e.state }

unfoldable pub write_answer : Result State Refused → WriteAnswer
write_answer (Ok s) = record { number = 0; state = s }
write_answer (Err e) = record { number = number e.refusal; state = e.state }

-- a refusal that names no block
abbrev pub fault : ℕ → Fault
fault n = record { number = n; block = 0 }

-- the first fault of k blocks from number i on, judged block by block
unfoldable pub first_fault : List ℕ → ℕ → ℕ → Fault
first_fault img zero i = fault 0
first_fault img (suc k) i =
    if eqb (Image.block_fault img i) 0 then first_fault img k (i + 1)
    else record { number = Image.block_fault img i; block = i }

-- the editions that are read: 1 and 2
abbrev pub known_edition : ℕ → Bool
known_edition n = eqb n Image.first_edition || eqb n Image.edition

-- what block 0 says, once all blocks are in order
unfoldable pub content_fault : List ℕ → ℕ
content_fault img =
    if not (eqb (Image.field_of img 0) Image.format && known_edition (Image.field_of img 1)) then 8
    else if not (well_formed (Image.state_of img) && Image.zeros (Image.filler_of img)) then 9
    else 0

-- An image by itself: 5 its size, 6 and 7 block by block, 8 format word or edition, 9 fields or filler.
unfoldable pub image_fault : List ℕ → Fault
image_fault img =
    if not (eqb (length img) Image.image_size) then fault 5
    else if not (eqb (first_fault img Image.block_count 0).number 0) then first_fault img Image.block_count 0
    else fault (content_fault img)

-- Reading: 1 memory's size, then what the image itself calls for.
unfoldable pub read_fault : List ℕ → List ℕ → Fault
read_fault img m = if not (eqb (length m) size) then fault 1 else image_fault img

pub record ReadResult : Type 0 where
  pub answer : ReadAnswer
  pub memory : List ℕ

-- An accepted image gives its state and fills memory; a refusal returns the blank state and stores nothing.
unfoldable pub read : List ℕ → List ℕ → ReadResult
read img m =
    if eqb (read_fault img m).number 0
    then record { answer = record { number = 0; block = 0; state = Image.state_of img }; memory = Image.memory_of img }
    else record { answer = record { number = (read_fault img m).number; block = (read_fault img m).block; state = blank }; memory = m }

-- what a refused read gives
abbrev pub unread : Refusal → Refused
unread r = record { refusal = r; state = blank }

-- Writing: 1 memory's size, 5 the buffer's, 2 the state.
unfoldable pub write_fault : State → List ℕ → List ℕ → ℕ
write_fault s m img =
    if not (eqb (length m) size) then 1
    else if not (eqb (length img) Image.image_size) then 5
    else if not (well_formed s) then 2
    else 0

pub record WriteResult : Type 0 where
  pub answer : WriteAnswer
  pub image : List ℕ

-- The state comes back as given; a refusal stores nothing.
unfoldable pub write : State → List ℕ → List ℕ → WriteResult
write s m img =
    record {
      answer = record { number = write_fault s m img; state = s };
      image = if eqb (write_fault s m img) 0 then Image.image s m else img;
    }
