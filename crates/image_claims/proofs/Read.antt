-- What was read: a block in order is its number, its content and the one check word that fits, so the blocks that would be written of the
-- state and the memory that were read are the image's own; of edition 1 all but block 0.
use Prim.Native.Nat.{ℕ, zero, suc, ◌+◌, ◌-◌, ◌*◌, ◌%◌, ◌<◌, ◌≤◌}
use mathlib.Core.Path.{◌≡◌, refl, sym, ap, ap₂, ◌∙◌}
use mathlib.Core.Bool.{true}
use mathlib.Core.List.{List, [], ◌∷◌, ◌++◌}
use native.Mathlib.Omega.{arith}
use native.Mathlib.Numerals.{add-one}
use borrow.Author.Tests.{eq-eqb, ne_eqb, eqb-true}
use lib.Dec.{eqb}
use lib.ListN.{length, get_or, take, drop, replicate, length-take, length-drop, take-append-drop}
use lib.Seq.{take_all, drop-drop, length-take-le}
use Rattle.bits.proofs.Laws.{conjuncts}
use Rattle.memory.specs.Memory.{Bytes}
use Rattle.machine.specs.declared.State.{State}
use Rattle.machine.specs.State.{no_rom}
use Rattle.image_blocks.specs.Image.{image_size, psi_of, rom_of, first_edition, edition, is_first, fields_in, content, words_bytes, fields, word_bytes, word_at, padded, checked, words_sum, zeros, block, image, block_of, content_of, contents_of, memory_of, field_of, state_of, filler_of}
use Rattle.image_blocks.specs.Blocks.{put_word}
use Rattle.image_claims.specs.Claims.{SoundBlock}
use Rattle.image_claims.proofs.Lists.{padded_part, joined_same, joined_parts}
use Rattle.image_claims.proofs.Words.{check_word, words_from, words_back}
use Rattle.image_blocks.proofs.Parts.{block_at, content_at, fields_most, content_of_length, contents_length, contents_part, memory_length, zeros_append}
use Rattle.image_blocks.proofs.Written.{blocks_joined}
use Rattle.image_claims.proofs.Accepted.{right, Sound}

-- zeros are all alike
zeros_are : (l : List ℕ) → zeros l ≡ true → l ≡ replicate (length l) 0
unfolding zeros
zeros_are [] h = refl
zeros_are (x ∷ l) h =
    let b = conjuncts (eqb x 0) (zeros l) h in
    ap₂ ◌∷◌ (eqb-true x 0 b.0) (zeros_are l b.1)

-- a list whose rest is zeros is its front, padded
zeros_after : (n k : ℕ) (l : List ℕ) → length l ≡ n → k ≤ n → zeros (drop k l) ≡ true → padded n (take k l) ≡ l
unfolding padded
zeros_after n k l h f z =
    let front : length (take k l) ≡ k = length-take-le k l (omega arith) in
    let rest : replicate (n - length (take k l)) 0 ≡ drop k l =
    rw (let e : n - length (take k l) ≡ length (drop k l) = rw length-drop (omega arith) in e) (sym (zeros_are (drop k l) z)) in
    ap (λ (r : List ℕ). take k l ++ r) rest ∙ take-append-drop k l

zeros_drop : (n : ℕ) (l : List ℕ) → zeros l ≡ true → zeros (drop n l) ≡ true
unfolding zeros
zeros_drop zero l h = h
zeros_drop (suc n) [] h = h
zeros_drop (suc n) (x ∷ l) h = zeros_drop n l (conjuncts (eqb x 0) (zeros l) h).1

-- block 0's number and this content's fields with another edition and address, and then zeros
abbrev header : List ℕ → ℕ → ℕ → List ℕ
header c e first = word_bytes 0 ++ padded 508 (words_bytes (word_at c 0 ∷ e ∷ (words_from c 12 2 ++ (first ∷ []))))

-- edition and address put over those that are there: the words' places are known, so both sides compute
header_over :
    (c : List ℕ) (e first e2 first2 check : ℕ)
    → take 510 (put_word (put_word (header c e first ++ word_bytes check) 4 e2) 30 first2) ≡ header c e2 first2
unfolding put_word padded words_bytes
header_over c e first e2 first2 check = refl

module _ (img : List ℕ) (sized : length img ≡ image_size) (bytes : Bytes img) where
  block_of_length : (i : ℕ) → i < 34 → length (block_of img i) ≡ 512
  unfolding block_of
  block_of_length i l = simp (length-take, length-drop) (omega arith)

  block_byte : (i j : ℕ) → j < 512 → get_or (block_of img i) j 0 < 256
  block_byte i j l = rw (block_at img i j l) (bytes (512 * i + j))

  -- a block in order is its number, its content, and the check word
  block_apart : (i : ℕ) → i < 34 → SoundBlock img i → block_of img i ≡ checked (word_bytes i ++ content_of img i)
  unfolding content_of words_bytes word_at
  block_apart i l r =
      let b = block_of img i in
      let long : length b ≡ 512 = block_of_length i l in
      let byte : (j : ℕ) → j < length b → get_or b j 0 < 256 = λ j m. block_byte i j (omega arith) in
      let first : take 2 b ≡ word_bytes i = sym (words_back b 1 0 byte (omega arith)) ∙ ap word_bytes r.number in
      let last : drop 508 (drop 2 b) ≡ word_bytes (word_at b 510) =
      drop-drop 508 2 b ∙ sym (take_all 2 (drop 510 b) (rw length-drop (omega arith))) ∙ sym (words_back b 1 255 byte (omega arith)) in
      let apart : b ≡ (word_bytes i ++ content_of img i) ++ word_bytes (word_at b 510) =
      sym (take-append-drop 2 b) ∙ ap₂ ◌++◌ first (sym (take-append-drop 508 (drop 2 b)) ∙ ap (λ (t : List ℕ). take 508 (drop 2 b) ++ t) last) in
      apart
      ∙ check_word 255 (word_bytes i ++ content_of img i) (word_at b 510)
      (ap (λ (n : ℕ). suc (suc n)) (content_of_length img i sized l))
      (omega (arith, byte 510 (omega arith), byte 511 (omega arith)))
      (sym (ap (λ (t : List ℕ). words_sum t % 65536) apart) ∙ r.sum)

  -- The blocks that would be written: of block 0 the fields but the edition and the read-only address are those that were read.

  -- the filler after the longer edition's fields is zeros in either
  filler_parts : Sound img → (zeros (drop 30 (content_of img 0)) ≡ true) × (zeros (drop 16384 (contents_of img 33 1)) ≡ true)
  unfolding filler_of
  filler_parts k =
      let n : ℕ = 2 * fields_in img in
      let rest = drop n (content_of img 0) in
      let end = drop 16384 (contents_of img 33 1) in
      let parts = conjuncts (zeros rest) (zeros end) (sym (zeros_append rest end) ∙ k.filler) in
      let late : drop (30 - n) rest ≡ drop 30 (content_of img 0) =
      rw (drop-drop (30 - n) n (content_of img 0), let e : n + (30 - n) ≡ 30 = omega (arith, fields_most img) in e) in
      (rw late at (zeros_drop (30 - n) rest parts.0), parts.1)

  header_read : Sound img → word_bytes 0 ++ content_of img 0 ≡ header (content_of img 0) (field_of img 1) (field_of img 14)
  unfolding field_of
  header_read k =
      let c = content_of img 0 in
      let long : length c ≡ 508 = content_of_length img 0 sized (omega arith) in
      let byte : (j : ℕ) → j < length c → get_or c j 0 < 256 = λ j b. rw (content_at img 0 j (omega arith)) (bytes (512 * 0 + (2 + j))) in
      ap (λ (l : List ℕ). word_bytes 0 ++ l)
      (sym (zeros_after 508 30 c long (omega arith) (filler_parts k).0) ∙ ap (padded 508) (sym (words_back c 15 0 byte (omega arith))))

  header_back : (m : List ℕ) → Sound img → word_bytes 0 ++ content (state_of img) m 0 ≡ header (content_of img 0) edition (rom_of img)
  unfolding content fields state_of psi_of field_of
  header_back m k = ap (λ (n : ℕ). word_bytes 0 ++ padded 508 (words_bytes (n ∷ edition ∷ fields (state_of img)))) (sym k.format)

  -- block 0 of edition 2 comes back
  pub second_back : (m : List ℕ) → Sound img → SoundBlock img 0 → field_of img 1 ≡ edition → block (state_of img) m 0 ≡ block_of img 0
  unfolding block rom_of is_first
  second_back m k r e =
      ap checked
      (header_back m k
      ∙ rw (ne_eqb (field_of img 1) first_edition (omega arith), ← e) (sym (header_read k)))
      ∙ sym (block_apart 0 (omega arith) r)

  -- block 0 of edition 1 gets another edition, the address and another check word
  pub first_back :
      (m : List ℕ) → Sound img → SoundBlock img 0 → field_of img 1 ≡ first_edition
      → block (state_of img) m 0 ≡ checked (take 510 (put_word (put_word (block_of img 0) 4 edition) 30 no_rom))
  unfolding block rom_of is_first checked
  first_back m k r e =
      let c = content_of img 0 in
      let check : ℕ = 65535 - words_sum (word_bytes 0 ++ c) % 65536 in
      let read : block_of img 0 ≡ header c (field_of img 1) (field_of img 14) ++ word_bytes check =
      block_apart 0 (omega arith) r ∙ ap (λ (l : List ℕ). l ++ word_bytes check) (header_read k) in
      let body : word_bytes 0 ++ content (state_of img) m 0 ≡ take 510 (put_word (put_word (block_of img 0) 4 edition) 30 no_rom) =
      header_back m k
      ∙ rw (eq-eqb (field_of img 1) first_edition e, read) (sym (header_over c (field_of img 1) (field_of img 14) edition no_rom check)) in
      ap checked body

  memory_back : zeros (drop 16384 (contents_of img 33 1)) ≡ true → padded 16764 (memory_of img) ≡ contents_of img 33 1
  unfolding memory_of
  memory_back z = zeros_after 16764 16384 (contents_of img 33 1) (contents_length img sized) (omega arith) z

  page_back :
      (s : State) (i : ℕ) → i < 33 → zeros (drop 16384 (contents_of img 33 1)) ≡ true
      → content s (memory_of img) (suc i) ≡ content_of img (suc i)
  unfolding content
  page_back s i l z =
      sym (padded_part 16764 (508 * i) 508 (memory_of img) (omega (arith, memory_length img sized)) (omega arith))
      ∙ ap (λ (t : List ℕ). take 508 (drop (508 * i) t)) (memory_back z)
      ∙ contents_part img i sized l
      ∙ ap (content_of img) (add-one i)

  page_block_back : Sound img → (i : ℕ) → i < 33 → SoundBlock img (suc i) → block (state_of img) (memory_of img) (suc i) ≡ block_of img (suc i)
  unfolding block
  page_block_back k i l r =
      ap (λ (c : List ℕ). checked (word_bytes (suc i) ++ c)) (page_back (state_of img) i l (filler_parts k).1)
      ∙ sym (block_apart (suc i) (omega arith) r)

  -- after block 0 an image in order is what would be written of the state and the memory that it holds
  pub image_back :
      Sound img → ((i : ℕ) → i < 34 → SoundBlock img i)
      → image (state_of img) (memory_of img) ≡ block (state_of img) (memory_of img) 0 ++ drop 512 img
  unfolding image block_of
  image_back k right =
      let made = block (state_of img) (memory_of img) in
      let same : (i : ℕ) → 1 ≤ i → i < 1 + 33 → made i ≡ block_of img i = λ i p l.
      rw (let e : i ≡ suc (i - 1) = omega arith in e) (page_block_back k (i - 1) (omega arith) (right (suc (i - 1)) (omega arith))) in
      blocks_joined (state_of img) (memory_of img) 34 0
      ∙ ap (λ (l : List ℕ). made 0 ++ l)
      (joined_same made (block_of img) 33 1 same
      ∙ joined_parts 512 img 33 1
      ∙ take_all 16896 (drop 512 img) (rw (length-drop 512 img) (omega arith)))
