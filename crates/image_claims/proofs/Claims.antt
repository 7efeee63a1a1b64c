-- The claims: what is written is read back, what is read is written back, of edition 1 with block 0 made anew, a read's number is the table's,
-- and its block the lowest bad one.
use Prim.Native.Nat.{ℕ, ◌<◌}
use native.Mathlib.Omega.{arith}
use mathlib.Core.Path.{◌≡◌, sym, ◌∙◌}
use mathlib.Core.Bool.{true}
use mathlib.Core.List.{List, ◌++◌}
use native.Mathlib.Nat.{zero-add}
use borrow.Author.Tests.{eq-eqb}
use lib.ListN.{length, take, drop, take-append-drop}
use Rattle.memory.specs.Memory.{size, Bytes}
use Rattle.machine.specs.declared.State.{State}
use Rattle.machine.specs.State.{no_rom, well_formed}
use Rattle.image_blocks.specs.Image as Image
use Rattle.image_blocks.specs.Blocks.{put_word}
use Rattle.image.specs.Calls.{read, read_fault, first_fault, write, write_fault}
use Rattle.image_claims.specs.Claims.{ReadsWhatWasWritten, renewed, Writes, WritesWhatWasRead, RenewsTheFirstEdition, AcceptedEditions, AcceptedExactly, SoundBlock, NamesTheLowest}
use Rattle.image_blocks.proofs.Parts.{memory_length}
use Rattle.image_claims.proofs.Written.{read_written}
use Rattle.image.proofs.Accepted.{Accepted, accepted}
use Rattle.image.proofs.Answers.{reads, reads_not, read_number}
use Rattle.image_claims.proofs.Accepted.{right, each_right, Sound, sound}
use Rattle.image_claims.proofs.Read.{second_back, first_back, image_back}
use Rattle.image_claims.proofs.Lowest.{Low, low, judged, wrong_check, right_check, wrong_number}

-- a well-formed state, a memory and a buffer of the right sizes are written
pub writes :
    (s : State) (m buffer : List ℕ) → well_formed s ≡ true → length m ≡ size → length buffer ≡ Image.image_size
    → write s m buffer ≡ record { answer = record { number = 0; state = s }; image = Image.image s m }
unfolding write write_fault
writes s m buffer f h b = rw (eq-eqb (length m) size h, eq-eqb (length buffer) Image.image_size b, f)

pub reads_what_was_written : ReadsWhatWasWritten
reads_what_was_written s m buffer other w f h _ b o = rw (writes s m buffer f h b) (read_written s m other w f h o)

pub accepted_exactly : AcceptedExactly
accepted_exactly = read_number

pub accepted_editions : AcceptedEditions
accepted_editions img m h = (sound img (accepted img m (sym (accepted_exactly img m) ∙ h)).image_right.content_right).edition

-- what was read of an accepted image is written as the image, with block 0 made anew
module _ (img m : List ℕ) (bytes : Bytes img) (zero-read : (read img m).answer.number ≡ 0) where
  none : (read_fault img m).number ≡ 0
  none = sym (accepted_exactly img m) ∙ zero-read

  known : Accepted img m
  known = accepted img m none

  in_order : Sound img
  in_order = sound img known.image_right.content_right

  each : (i : ℕ) → i < 34 → SoundBlock img i
  each i l = right img i (rw (zero-add i) at (each_right img 34 0 i known.image_right.blocks_right l))

  rewritten : (first : List ℕ) → Image.block (Image.state_of img) (Image.memory_of img) 0 ≡ first → Writes img m (first ++ drop 512 img)
  rewritten first e buffer b =
      rw (
        reads img m none,
        writes (Image.state_of img) (Image.memory_of img) buffer in_order.formed (memory_length img known.image_right.image_sized) b,
        image_back img known.image_right.image_sized bytes in_order each,
        e,
      )

pub writes_what_was_read : WritesWhatWasRead
unfolding Image.block_of
writes_what_was_read img m bytes z e =
    let k = known img m bytes z in
    rw (take-append-drop 512 img) at
    (rewritten img m bytes z (Image.block_of img 0)
    (second_back img k.image_right.image_sized bytes (Image.memory_of img) (in_order img m bytes z) (each img m bytes z 0 (omega arith)) e))

pub renews_the_first_edition : RenewsTheFirstEdition
unfolding renewed
renews_the_first_edition img m bytes z e =
    rewritten img m bytes z (Image.checked (take 510 (put_word (put_word (Image.block_of img 0) 4 Image.edition) 30 no_rom)))
    (first_back img (known img m bytes z).image_right.image_sized bytes (Image.memory_of img) (in_order img m bytes z) (each img m bytes z 0 (omega arith)) e)

pub names_the_lowest : NamesTheLowest
names_the_lowest img m above below =
    let number : (read img m).answer.number ≡ (read_fault img m).number = accepted_exactly img m in
    let block : (read img m).answer.block ≡ (read_fault img m).block = rw (reads_not img m (λ e. omega arith)) in
    let first : read_fault img m ≡ first_fault img Image.block_count 0 = judged img m (omega arith) (omega arith) in
    let found : Low img Image.block_count 0 (first_fault img Image.block_count 0) = low img Image.block_count 0 (rw first at (let e : 0 < (read_fault img m).number = omega arith in e)) in
    rw (number, block, first)
    (record {
      there = found.to;
      check_wrong = λ e. wrong_check img _ (found.bad ∙ e);
      check_right = λ e. right_check img _ (found.bad ∙ e);
      number_wrong = λ e. wrong_number img _ (found.bad ∙ e);
      lower = λ i l. right img i (found.lower i (omega arith) l);
    })
