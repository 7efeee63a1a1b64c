-- Zeros after a list, and a list cut into equal parts.
use Prim.Native.Nat.{ℕ, zero, suc, min, ◌+◌, ◌-◌, ◌*◌, ◌<◌, ◌≤◌}
use mathlib.Core.Path.{◌≡◌, refl, sym, ap, ◌∙◌}
use mathlib.Core.List.{List, ◌++◌}
use native.Mathlib.Omega.{arith}
use native.Mathlib.Nat.{mul-zero}
use lib.ListN.{length, get_or, take, drop, length-take, length-drop}
use lib.Seq.{take-add, drop-drop, get_or-take, get_or-drop, ext_get_or}
use Rattle.memory.proofs.Zeros.{getD_then_zeros}
use Rattle.image_blocks.specs.Image.{padded}
use Rattle.image_blocks.proofs.Lists.{length_padded, joined}

pub getD_padded : (n : ℕ) (l : List ℕ) (i : ℕ) → get_or (padded n l) i 0 ≡ get_or l i 0
unfolding padded
getD_padded n l i = getD_then_zeros l (n - length l) i

length_part : (k a : ℕ) (l : List ℕ) → length (take k (drop a l)) ≡ min k (length l - a)
length_part k a l = simp (length-take, length-drop)

-- a part of a padded list is the part, padded
pub padded_part : (n a k : ℕ) (l : List ℕ) → length l ≤ n → a + k ≤ n → take k (drop a (padded n l)) ≡ padded k (take k (drop a l))
padded_part n a k l h f =
    let long : length (take k (drop a (padded n l))) ≡ k = rw (length_part k a (padded n l), length_padded n l h) (omega arith) in
    let short : length (take k (drop a l)) ≤ k = rw (length_part k a l) (omega arith) in
    ext_get_or 0 (take k (drop a (padded n l))) (padded k (take k (drop a l)))
    (long ∙ sym (length_padded k (take k (drop a l)) short))
    (λ i j. let below : i < k = omega arith in
    rw (
      getD_padded k (take k (drop a l)) i,
      get_or-take k (drop a (padded n l)) i 0 below,
      get_or-drop a (padded n l) i 0,
      getD_padded n l (a + i),
      get_or-take k (drop a l) i 0 below,
      get_or-drop a l i 0,
    ))

-- lists put together of equal parts

pub joined_same : (f g : ℕ → List ℕ) (k i : ℕ) → ((j : ℕ) → i ≤ j → j < i + k → f j ≡ g j) → joined f k i ≡ joined g k i
joined_same f g zero i h = refl
joined_same f g (suc k) i h = rw (h i (omega arith) (omega arith), joined_same f g k (i + 1) (λ j l m. h j (omega arith) (omega arith)))

pub joined_shift : (f : ℕ → List ℕ) (k i : ℕ) → joined f k (i + 1) ≡ joined (λ j. f (j + 1)) k i
joined_shift f zero i = refl
joined_shift f (suc k) i = ap (λ (l : List ℕ). f (i + 1) ++ l) (joined_shift f k (i + 1))

-- a list is its parts put together
pub joined_parts : (n : ℕ) (l : List ℕ) (k i : ℕ) → joined (λ j. take n (drop (n * j) l)) k i ≡ take (n * k) (drop (n * i) l)
joined_parts n l zero i = rw (mul-zero n)
joined_parts n l (suc k) i =
    rw (
      joined_parts n l k (i + 1),
      let e : n * suc k ≡ n + n * k = omega arith in e,
      take-add n (n * k) (drop (n * i) l),
      drop-drop n (n * i) l,
      let e : n * (i + 1) ≡ n * i + n = omega arith in e,
    )
