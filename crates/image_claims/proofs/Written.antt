-- What is written: each block of the image, and what it holds, is found again in it.
use Prim.Native.Nat.{ℕ, zero, suc, ◌+◌, ◌-◌, ◌*◌, ◌%◌, ◌<◌}
use mathlib.Core.Path.{◌≡◌, refl, sym, ap, ◌∙◌}
use mathlib.Core.Bool.{true, false}
use mathlib.Core.List.{List, ◌∷◌, ◌++◌}
use native.Mathlib.Omega.{arith}
use native.Mathlib.Numerals.{add-one}
use native.Mathlib.Nat.{mod-eq_of_lt}
use borrow.Author.Tests.{eq-eqb}
use lib.ListN.{length, get_or, take, drop, replicate}
use lib.Seq.{take_at, drop_at, take_all}
use Rattle.memory.specs.Memory.{size}
use Rattle.machine.specs.declared.State.{State}
use Rattle.machine.specs.State.{well_formed}
use Rattle.machine.specs.Laws.{Words}
use Rattle.machine.proofs.Laws.{form}
use Rattle.image_blocks.specs.Image.{image_size, format, edition, content, words_bytes, fields, word_bytes, word_at, padded, checked, words_sum, zeros, block, image, block_of, content_of, contents_of, memory_of, field_of, is_first, psi_of, rom_of, state_of, fields_in, filler_of}
use Rattle.image_blocks.specs.Image.{block_fault}
use Rattle.image.specs.Calls.{fault, first_fault, content_fault, image_fault, read_fault, read}
use Rattle.image_blocks.proofs.Lists.{length_padded}
use Rattle.image_blocks.proofs.Parts.{contents_joined, zeros_append}
use Rattle.image_blocks.proofs.Written.{content_length, image_length, image_block}
use Rattle.image_claims.proofs.Lists.{padded_part, joined_same, joined_shift, joined_parts}
use Rattle.image_claims.proofs.Words.{checked_sum, word_among}

-- Each block of the image is in order.

block_found : (s : State) (m : List ℕ) (i : ℕ) → i < 34 → block_of (image s m) i ≡ block s m i
unfolding block_of
block_found s m i h = image_block s m i h

block_sum : (s : State) (m : List ℕ) (i : ℕ) → words_sum (block s m i) % 65536 ≡ 65535
unfolding block
block_sum s m i = checked_sum 255 (word_bytes i ++ content s m i) (ap (λ (n : ℕ). suc (suc n)) (content_length s m i))

block_number : (s : State) (m : List ℕ) (i : ℕ) → i < 34 → word_at (block s m i) 0 ≡ i
unfolding word_at block checked
block_number s m i h = omega arith

pub block_right : (s : State) (m : List ℕ) (i : ℕ) → i < 34 → block_fault (image s m) i ≡ 0
unfolding block_fault
block_right s m i h =
    rw (block_found s m i h, eq-eqb (words_sum (block s m i) % 65536) 65535 (block_sum s m i), eq-eqb (word_at (block s m i) 0) i (block_number s m i h))

-- What is found in it is what was written.

pub content_found : (s : State) (m : List ℕ) (i : ℕ) → i < 34 → content_of (image s m) i ≡ content s m i
unfolding content_of block checked
content_found s m i h =
    rw (block_found s m i h)
    (take_at (content s m i) (word_bytes (65535 - words_sum (word_bytes i ++ content s m i) % 65536)) 508 (content_length s m i))

-- the contents of the blocks from 1 on are the memory, and then zeros
pub contents_found : (s : State) (m : List ℕ) → length m ≡ size → contents_of (image s m) 33 1 ≡ padded 16764 m
unfolding content
contents_found s m h =
    contents_joined (image s m) 33 1
    ∙ joined_shift (content_of (image s m)) 33 0
    ∙ joined_same (λ j. content_of (image s m) (j + 1)) (λ j. take 508 (drop (508 * j) (padded 16764 m))) 33 0
    (λ j l b.
    content_found s m (j + 1) (omega arith)
    ∙ ap (content s m) (add-one j)
    ∙ sym (padded_part 16764 (508 * j) 508 m (omega arith) (omega arith)))
    ∙ joined_parts 508 (padded 16764 m) 33 0
    ∙ take_all 16764 (padded 16764 m) (rw (length_padded 16764 m (omega arith)) (omega arith))

pub memory_found : (s : State) (m : List ℕ) → length m ≡ size → memory_of (image s m) ≡ m
unfolding memory_of padded
memory_found s m h = rw (contents_found s m h) (take_at m (replicate (16764 - length m) 0) 16384 h)

-- field n of block 0
field_found : (s : State) (m : List ℕ) (n : ℕ) → n < 15 → field_of (image s m) n ≡ get_or (format ∷ edition ∷ fields s) n 0 % 65536
unfolding field_of content padded fields
field_found s m n h =
    rw (content_found s m 0 (omega arith))
    (word_among (format ∷ edition ∷ fields s) (replicate (508 - length (words_bytes (format ∷ edition ∷ fields s))) 0) n h)

zeros_replicate : (n : ℕ) → zeros (replicate n 0) ≡ true
unfolding zeros
zeros_replicate zero = refl
zeros_replicate (suc n) = zeros_replicate n

-- it is of edition 2
edition_found : (s : State) (m : List ℕ) → is_first (image s m) ≡ false
unfolding is_first fields
edition_found s m = rw (field_found s m 1 (omega arith))

filler_found : (s : State) (m : List ℕ) → length m ≡ size → zeros (filler_of (image s m)) ≡ true
unfolding filler_of fields_in content padded words_bytes fields zeros
filler_found s m h =
    rw (edition_found s m, content_found s m 0 (omega arith), contents_found s m h, drop_at m (replicate (16764 - length m) 0) 16384 h)
    (zeros_append (replicate 478 0) (replicate (16764 - length m) 0) ∙ zeros_replicate (16764 - length m))

-- a well-formed state's read-only address fits its word
state_found : (s : State) (m : List ℕ) → Words s → well_formed s ≡ true → state_of (image s m) ≡ s
unfolding state_of psi_of rom_of fields
state_found s m w f =
    rw (
      edition_found s m,
      field_found s m 2 (omega arith),
      field_found s m 3 (omega arith),
      field_found s m 4 (omega arith),
      field_found s m 5 (omega arith),
      field_found s m 6 (omega arith),
      field_found s m 7 (omega arith),
      field_found s m 8 (omega arith),
      field_found s m 9 (omega arith),
      field_found s m 10 (omega arith),
      field_found s m 11 (omega arith),
      field_found s m 12 (omega arith),
      field_found s m 13 (omega arith),
      field_found s m 14 (omega arith),
      mod-eq_of_lt w.wp,
      mod-eq_of_lt w.pc,
      mod-eq_of_lt w.st,
      mod-eq_of_lt w.flags,
      mod-eq_of_lt w.psi.mask,
      mod-eq_of_lt w.psi.direction,
      mod-eq_of_lt w.psi.latch,
      mod-eq_of_lt w.psi.load,
      mod-eq_of_lt w.psi.decrementer,
      mod-eq_of_lt w.psi.reading,
      mod-eq_of_lt w.psi.phase,
      mod-eq_of_lt w.psi.pending,
      mod-eq_of_lt (let e : s.rom < 65536 = omega (arith, (form s f).first.bound) in e),
    )

-- The image is accepted, and gives back the state and the memory.

-- k blocks in order have no fault
blocks_right : (img : List ℕ) (k i : ℕ) → ((j : ℕ) → j < i + k → block_fault img j ≡ 0) → first_fault img k i ≡ fault 0
unfolding first_fault
blocks_right img zero i h = refl
blocks_right img (suc k) i h =
    rw (eq-eqb (block_fault img i) 0 (h i (omega arith))) (blocks_right img k (i + 1) (λ j l. h j (omega arith)))

content_right : (s : State) (m : List ℕ) → Words s → well_formed s ≡ true → length m ≡ size → content_fault (image s m) ≡ 0
unfolding content_fault fields
content_right s m w f h =
    rw (field_found s m 0 (omega arith), field_found s m 1 (omega arith), state_found s m w f, f, filler_found s m h)

nothing_found :
    (s : State) (m other : List ℕ) → Words s → well_formed s ≡ true → length m ≡ size → length other ≡ size → read_fault (image s m) other ≡ fault 0
unfolding read_fault image_fault
nothing_found s m other w f h o =
    rw (
      eq-eqb (length other) size o,
      eq-eqb (length (image s m)) image_size (image_length s m),
      blocks_right (image s m) 34 0 (λ j l. block_right s m j (omega arith)),
      content_right s m w f h,
    )

pub read_written :
    (s : State) (m other : List ℕ) → Words s → well_formed s ≡ true → length m ≡ size → length other ≡ size
    → read (image s m) other ≡ record { answer = record { number = 0; block = 0; state = s }; memory = m }
unfolding read
read_written s m other w f h o = rw (nothing_found s m other w f h o, state_found s m w f, memory_found s m h)
