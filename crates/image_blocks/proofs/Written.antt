-- What is written: the lengths of a block's parts, and that each block is found again in the image.
use Rattle.std.proofs.Common.{◌≡◌, ℕ, zero, suc, ◌+◌, ◌*◌, ◌<◌, List, ◌++◌, length, take, drop, refl, ap, ◌∙◌, zero-add, arith, length-append, length-take, take_at}
use Rattle.machine.specs.declared.State.{State}
use Rattle.image_blocks.specs.Image.{image_size, content, words_bytes, fields, word_bytes, checked, block, blocks, image}
use Rattle.image_blocks.specs.Blocks.{unchecked}
use Rattle.image_blocks.proofs.Lists.{length_padded, joined, joined_length, joined_part}

pub content_length : (s : State) (m : List ℕ) (i : ℕ) → length (content s m i) ≡ 508
unfolding content words_bytes fields
content_length s m zero = length_padded 508 _ (omega arith)
content_length s m (suc i) = length_padded 508 (take 508 (drop (508 * i) m)) (rw (length-take 508 (drop (508 * i) m)) (omega arith))

-- a block's number and content, with the zeros that the check word goes over
pub unchecked_body : (s : State) (m : List ℕ) (i : ℕ) → take 510 (unchecked s m i) ≡ word_bytes i ++ content s m i
unfolding unchecked
unchecked_body s m i =
    take_at (word_bytes i ++ content s m i) (word_bytes 0) 510 (length-append (word_bytes i) (content s m i) ∙ ap (λ (n : ℕ). 2 + n) (content_length s m i))

pub block_length : (s : State) (m : List ℕ) (i : ℕ) → length (block s m i) ≡ 512
unfolding block checked
block_length s m i = simp (length-append, content_length)

pub blocks_joined : (s : State) (m : List ℕ) (k i : ℕ) → blocks s m k i ≡ joined (block s m) k i
unfolding blocks
blocks_joined s m zero i = refl
blocks_joined s m (suc k) i = ap (λ (l : List ℕ). block s m i ++ l) (blocks_joined s m k (i + 1))

pub image_length : (s : State) (m : List ℕ) → length (image s m) ≡ image_size
unfolding image
image_length s m = rw (blocks_joined s m 34 0) (joined_length 512 (block s m) 34 0 (λ j l. block_length s m j))

-- each block is found again
pub image_block : (s : State) (m : List ℕ) (i : ℕ) → i < 34 → take 512 (drop (512 * i) (image s m)) ≡ block s m i
unfolding image
image_block s m i h =
    rw (blocks_joined s m 34 0, joined_part 512 (block s m) 34 0 i (λ j l. block_length s m j) h, zero-add i)
