-- Where the bytes of an image's parts lie in it, and where the memory's bytes lie in its blocks.
use Rattle.std.specs.Prelude.{if◌then◌else◌}
use Rattle.std.proofs.Common.{◌≡◌, ℕ, zero, suc, ◌+◌, ◌-◌, ◌*◌, ◌<◌, ◌≤◌, min, Bool, true, false, ◌&&◌, eqb, List, [], ◌∷◌, ◌++◌, length, get_or, take, drop, replicate, sym, refl, ap, ◌∙◌, ap₂, append-nil, add-zero, arith, length-drop, drop_of_length-le, length-take, length-take-le, get_or-drop, get_or-take, take-take, drop-drop}
use mathlib.Core.Bool.{and_assoc}
use lib.Seq.{sets-eq, drop-append-add}
use Rattle.image_blocks.specs.Image.{image_size, block_of, content_of, contents_of, memory_of, rom_field, field_count, field_of, is_first, fields_in, filler_of, zeros, word_at, word_bytes, padded}
use Rattle.image_blocks.specs.Blocks.{put_word}
use Rattle.memory.proofs.Zeros.{drop_replicate}
use Rattle.image_blocks.proofs.Lists.{drop_take, take_there, joined, joined_part, joined_length, joined_last}

-- a word put at the end of a block
pub put_last : (b : List ℕ) (x : ℕ) → length b ≡ 512 → put_word b 510 x ≡ take 510 b ++ word_bytes x
unfolding put_word
put_last b x h = sets-eq (word_bytes x) b 510 (omega arith) ∙ rw (drop_of_length-le b (let e : length b ≤ 512 = omega arith in e)) (append-nil (take 510 b ++ word_bytes x))

-- what a page takes of the memory, and the zeros that its block still has
pub page_content :
    (m : List ℕ) (i : ℕ) → length m ≡ 16384
    → take (min (508 * (i + 1)) 16384 - 508 * i) (drop (508 * i) m) ++ drop (length (take (min (508 * (i + 1)) 16384 - 508 * i) (drop (508 * i) m))) (replicate 508 0)
    ≡ padded 508 (take 508 (drop (508 * i) m))
unfolding padded
page_content m i h =
    let there : min (508 * (i + 1)) 16384 - 508 * i ≡ min 508 (length (drop (508 * i) m)) = rw (length-drop (508 * i) m) (omega arith) in
    rw (there, take_there 508 (drop (508 * i) m), drop_replicate)

-- the bytes of a block

pub block_at : (img : List ℕ) (i j : ℕ) → j < 512 → get_or (block_of img i) j 0 ≡ get_or img (512 * i + j) 0
unfolding block_of
block_at img i j h = get_or-take 512 (drop (512 * i) img) j 0 h ∙ get_or-drop (512 * i) img j 0

pub block_word : (img : List ℕ) (i : ℕ) → word_at (block_of img i) 0 ≡ get_or img (512 * i) 0 * 256 + get_or img (512 * i + 1) 0
unfolding word_at
block_word img i = rw (block_at img i 0 (omega arith), block_at img i 1 (omega arith), add-zero (512 * i))

pub content_at : (img : List ℕ) (i j : ℕ) → j < 508 → get_or (content_of img i) j 0 ≡ get_or img (512 * i + (2 + j)) 0
unfolding content_of
content_at img i j h =
    get_or-take 508 (drop 2 (block_of img i)) j 0 h ∙ get_or-drop 2 (block_of img i) j 0 ∙ block_at img i (2 + j) (omega arith)

pub field_at : (img : List ℕ) (n : ℕ) → n < 254 → field_of img n ≡ get_or img (2 * n + 2) 0 * 256 + get_or img (2 * n + 2 + 1) 0
unfolding field_of word_at
field_at img n h =
    rw (
      content_at img 0 (2 * n) (omega arith),
      content_at img 0 (2 * n + 1) (omega arith),
      let e : 512 * 0 + (2 + 2 * n) ≡ 2 * n + 2 = omega arith in e,
      let e : 512 * 0 + (2 + (2 * n + 1)) ≡ 2 * n + 2 + 1 = omega arith in e,
    )

-- the contents of the blocks

pub content_lies : (img : List ℕ) (i : ℕ) → content_of img i ≡ take 508 (drop (512 * i + 2) img)
unfolding content_of block_of
content_lies img i =
    ap (take 508) (drop_take 2 512 (drop (512 * i) img) ∙ ap (take 510) (drop-drop 2 (512 * i) img))
    ∙ take-take 508 510 (drop (512 * i + 2) img) (omega arith)

pub content_of_length : (img : List ℕ) (i : ℕ) → length img ≡ image_size → i < 34 → length (content_of img i) ≡ 508
content_of_length img i h l = rw (content_lies img i) (simp (length-take, length-drop) (omega arith))

pub contents_joined : (img : List ℕ) (k i : ℕ) → contents_of img k i ≡ joined (content_of img) k i
unfolding contents_of
contents_joined img zero i = refl
contents_joined img (suc k) i = ap (λ (l : List ℕ). content_of img i ++ l) (contents_joined img k (i + 1))

pub contents_part :
    (img : List ℕ) (i : ℕ) → length img ≡ image_size → i < 33 → take 508 (drop (508 * i) (contents_of img 33 1)) ≡ content_of img (i + 1)
contents_part img i h l =
    rw (contents_joined img 33 1, joined_part 508 (content_of img) 33 1 i (λ p m. content_of_length img p h (omega arith)) l)
    (ap (content_of img) (omega arith))

pub contents_length : (img : List ℕ) → length img ≡ image_size → length (contents_of img 33 1) ≡ 16764
contents_length img h =
    rw (contents_joined img 33 1) (joined_length 508 (content_of img) 33 1 (λ p m. content_of_length img p h (omega arith)))

pub memory_length : (img : List ℕ) → length img ≡ image_size → length (memory_of img) ≡ 16384
unfolding memory_of
memory_length img h = length-take-le 16384 (contents_of img 33 1) (omega (arith, contents_length img h))

-- what a block carries of the memory lies behind its number
memory_part :
    (img : List ℕ) (i k : ℕ) → length img ≡ image_size → i < 33 → k ≤ 508 → 508 * i + k ≤ 16384
    → take k (drop (508 * i) (memory_of img)) ≡ take k (drop (512 * (i + 1) + 2) img)
unfolding memory_of
memory_part img i k h l b f =
    let all = contents_of img 33 1 in
    ap (take k) (drop_take (508 * i) 16384 all)
    ∙ take-take k (16384 - 508 * i) (drop (508 * i) all) (omega arith)
    ∙ sym (take-take k 508 (drop (508 * i) all) b)
    ∙ ap (take k) (contents_part img i h l ∙ content_lies img (i + 1))
    ∙ take-take k 508 (drop (512 * (i + 1) + 2) img) b

-- what block i + 1 carries of the memory lies between these two bytes of the image
pub page_lies :
    (img : List ℕ) (i n : ℕ) → length img ≡ image_size → i < 33 → n ≡ min 508 (16384 - 508 * i)
    → take n (drop (512 * (i + 1) + 2) img) ≡ take 508 (drop (508 * i) (memory_of img))
page_lies img i n h l e =
    let rest = drop (508 * i) (memory_of img) in
    let there : n ≡ min 508 (length rest) = rw (length-drop (508 * i) (memory_of img), memory_length img h) e in
    sym (memory_part img i n h l (omega arith) (omega arith)) ∙ rw there (take_there 508 rest)

-- either edition's fields leave room in block 0
pub fields_most : (img : List ℕ) → fields_in img ≤ field_count
unfolding fields_in
fields_most img = by_edition (is_first img)
  where
    by_edition : (b : Bool) → (if b then rom_field else field_count) ≤ field_count
    by_edition true = omega arith
    by_edition false = omega arith

pub filler_lies :
    (img : List ℕ) → length img ≡ image_size
    → filler_of img ≡ take (508 - 2 * fields_in img) (drop (2 + 2 * fields_in img) img) ++ take 380 (drop 17026 img)
unfolding filler_of
filler_lies img h =
    ap₂ ◌++◌
    (ap (drop (2 * fields_in img)) (content_lies img 0)
    ∙ drop_take (2 * fields_in img) 508 (drop 2 img)
    ∙ ap (take (508 - 2 * fields_in img)) (drop-drop (2 * fields_in img) 2 img))
    (ap (drop 16384) (contents_joined img 33 1 ∙ joined_last (content_of img) 32 1)
    ∙ ap (λ (n : ℕ). drop n (joined (content_of img) 32 1 ++ content_of img 33)) (ap (λ (n : ℕ). n + 128) (sym (joined_length 508 (content_of img) 32 1 (λ p m. content_of_length img p h (omega arith)))))
    ∙ drop-append-add (joined (content_of img) 32 1) (content_of img 33) 128
    ∙ ap (drop 128) (content_lies img 33)
    ∙ drop_take 128 508 (drop 16898 img)
    ∙ ap (take 380) (drop-drop 128 16898 img))

pub zeros_append : (a b : List ℕ) → zeros (a ++ b) ≡ (zeros a && zeros b)
unfolding zeros
zeros_append [] b = refl
zeros_append (x ∷ a) b = rw (zeros_append a b) (sym (and_assoc (eqb x 0) (zeros a) (zeros b)))
