-- What is claimed of the two calls together.
use Rattle.std.specs.Prelude.{ℕ, ◌+◌, ◌*◌, ◌%◌, ◌<◌, ◌≡◌, true, List, ◌++◌, length, take, drop}
use Rattle.memory.specs.Memory.{size, Bytes}
use Rattle.machine.specs.declared.State.{State}
use Rattle.machine.specs.State.{no_rom, well_formed}
use Rattle.machine.specs.Laws.{Words}
use Rattle.image_blocks.specs.Image as Image
use Rattle.image_blocks.specs.Blocks.{put_word}
use Rattle.image.specs.Calls.{known_edition, read, write, read_fault}

-- Reading a written image gives back the state and the memory.
abbrev pub ReadsWhatWasWritten : Type 0
ReadsWhatWasWritten =
    (s : State) (m buffer other : List ℕ)
    → Words s → well_formed s ≡ true → length m ≡ size → Bytes m
    → length buffer ≡ Image.image_size → length other ≡ size
    → read (write s m buffer).image other
    ≡ record { answer = record { number = 0; block = 0; state = s }; memory = m }

-- an image with another block 0: edition 2 and no read-only part, and the check word made anew. Field n of a block begins at byte 2n + 2:
-- the edition at 4.
unfoldable pub renewed : List ℕ → List ℕ
renewed img =
    Image.checked (take Image.check_at (put_word (put_word (Image.block_of img 0) 4 Image.edition) (2 * Image.rom_field + 2) no_rom))
    ++ drop Image.block_size img

-- what writing the state and the memory of an accepted image gives, into a buffer of an image's size
abbrev pub Writes : List ℕ → List ℕ → List ℕ → Type 0
Writes img m after =
    (buffer : List ℕ) → length buffer ≡ Image.image_size
    → write (read img m).answer.state (read img m).memory buffer
    ≡ record { answer = record { number = 0; state = (read img m).answer.state }; image = after }

-- Writing what was read of an accepted image of edition 2 gives back the image's bytes (demand 2, with Q-7).
abbrev pub WritesWhatWasRead : Type 0
WritesWhatWasRead =
    (img m : List ℕ)
    → Bytes img → (read img m).answer.number ≡ 0 → Image.field_of img 1 ≡ Image.edition
    → Writes img m img

-- Of an accepted image of edition 1 it gives all bytes back but the edition, the read-only address and the check word of block 0.
abbrev pub RenewsTheFirstEdition : Type 0
RenewsTheFirstEdition =
    (img m : List ℕ)
    → Bytes img → (read img m).answer.number ≡ 0 → Image.field_of img 1 ≡ Image.first_edition
    → Writes img m (renewed img)

-- Every accepted image is of the one edition or of the other.
abbrev pub AcceptedEditions : Type 0
AcceptedEditions = (img m : List ℕ) → (read img m).answer.number ≡ 0 → known_edition (Image.field_of img 1) ≡ true

-- A read is accepted exactly if the table names no refusal.
abbrev pub AcceptedExactly : Type 0
AcceptedExactly = (img m : List ℕ) → (read img m).answer.number ≡ (read_fault img m).number

-- a block in order: its words sum to 65535, and its number is its place
pub record SoundBlock (img : List ℕ) (i : ℕ) : Type 0 where
  pub sum : Image.words_sum (Image.block_of img i) % 65536 ≡ 65535
  pub number : Image.word_at (Image.block_of img i) 0 ≡ i

-- The block that refusals 6 and 7 name: its check is wrong, or its check is right and its number wrong; every lower one is in order.
pub record Lowest (img : List ℕ) (number block : ℕ) : Type 0 where
  pub there : block < Image.block_count
  pub check_wrong : number ≡ 6 → Image.words_sum (Image.block_of img block) % 65536 ≡ 65535 → ⊥
  pub check_right : number ≡ 7 → Image.words_sum (Image.block_of img block) % 65536 ≡ 65535
  pub number_wrong : number ≡ 7 → Image.word_at (Image.block_of img block) 0 ≡ block → ⊥
  pub lower : (i : ℕ) → i < block → SoundBlock img i

abbrev pub NamesTheLowest : Type 0
NamesTheLowest =
    (img m : List ℕ)
    → 5 < (read img m).answer.number → (read img m).answer.number < 8
    → Lowest img (read img m).answer.number (read img m).answer.block
