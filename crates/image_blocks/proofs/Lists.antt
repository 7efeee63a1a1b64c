-- Parts of lists, and lists put together of equal parts.
use Rattle.std.proofs.Common.{◌≡◌, ℕ, zero, suc, ◌+◌, ◌-◌, ◌*◌, ◌<◌, ◌≤◌, min, List, [], ◌∷◌, ◌++◌, length, take, drop, sym, ap, ◌∙◌, append_assoc, append-nil, add-zero, mul-zero, arith, length-append, length-take-le, take_all, drop-drop, take_at, take-add, drop_at}
use lib.ListN.{length-replicate}
use borrow.Rule.Slice.PartMut.{put_mid}
use lib.Seq.{take-nil, drop-append-add}
use Rattle.image_blocks.specs.Image.{padded}

pub drop_take : (a n : ℕ) (l : List ℕ) → drop a (take n l) ≡ take (n - a) (drop a l)
drop_take zero n l = rw (let e : n - zero ≡ n = omega arith in e)
drop_take (suc a) zero l = rw (let e : zero - suc a ≡ zero = omega arith in e)
drop_take (suc a) (suc n) [] = sym (take-nil (suc n - suc a))
drop_take (suc a) (suc n) (x ∷ l) = rw (let e : suc n - suc a ≡ n - a = omega arith in e) (drop_take a n l)

pub take_min : (m n : ℕ) (l : List ℕ) → take m (take n l) ≡ take (min m n) l
take_min zero n l = rw (let e : min zero n ≡ zero = omega arith in e)
take_min (suc m) zero l = rw (let e : min (suc m) zero ≡ zero = omega arith in e)
take_min (suc m) (suc n) [] = sym (take-nil (min (suc m) (suc n)))
take_min (suc m) (suc n) (x ∷ l) = rw (let e : min (suc m) (suc n) ≡ suc (min m n) = omega arith in e) (ap (◌∷◌ x) (take_min m n l))

-- no more can be taken than there is
pub take_there : (k : ℕ) (l : List ℕ) → take (min k (length l)) l ≡ take k l
take_there k l = sym (take_min k (length l) l) ∙ ap (take k) (take_all (length l) l (omega arith))

pub length_padded : (n : ℕ) (l : List ℕ) → length l ≤ n → length (padded n l) ≡ n
unfolding padded
length_padded n l h = simp (length-append, length-replicate) (omega arith)

-- lists put together of equal parts

-- the lists that f gives for k numbers from i on, one after the other
abbrev pub joined : (ℕ → List ℕ) → ℕ → ℕ → List ℕ
joined f zero i = []
joined f (suc k) i = f i ++ joined f k (i + 1)

pub joined_last : (f : ℕ → List ℕ) (k i : ℕ) → joined f (suc k) i ≡ joined f k i ++ f (i + k)
joined_last f zero i = rw (add-zero i) (append-nil (f i))
joined_last f (suc k) i =
    rw (let e : i + suc k ≡ i + 1 + k = omega arith in e, append_assoc (f i) (joined f k (i + 1)) (f (i + 1 + k)))
    (ap (λ (l : List ℕ). f i ++ l) (joined_last f k (i + 1)))

pub joined_length : (n : ℕ) (f : ℕ → List ℕ) (k i : ℕ) → ((j : ℕ) → j < i + k → length (f j) ≡ n) → length (joined f k i) ≡ n * k
joined_length n f zero i h = sym (mul-zero n)
joined_length n f (suc k) i h =
    length-append (f i) (joined f k (i + 1)) ∙ omega (arith, h i (omega arith), joined_length n f k (i + 1) (λ j l. h j (omega arith)))

-- each part is found again
pub joined_part :
    (n : ℕ) (f : ℕ → List ℕ) (k i j : ℕ) → ((p : ℕ) → p < i + k → length (f p) ≡ n) → j < k → take n (drop (n * j) (joined f k i)) ≡ f (i + j)
joined_part n f zero i j h l = absurd (omega arith)
joined_part n f (suc k) i zero h l = rw (mul-zero n, add-zero i) (take_at (f i) (joined f k (i + 1)) n (h i (omega arith)))
joined_part n f (suc k) i (suc j) h l =
    let past : n * suc j ≡ length (f i) + n * j = omega (arith, h i (omega arith)) in
    rw (past, drop-append-add (f i) (joined f k (i + 1)) (n * j), let e : i + suc j ≡ i + 1 + j = omega arith in e)
    (joined_part n f k (i + 1) j (λ p m. h p (omega arith)) (omega arith))

-- a list that is copied part by part over another: the part from `from` up to `to` is copied next
pub grown :
    (all old l p q : List ℕ) (from to : ℕ) → length all ≡ length old → from ≤ to → to ≤ length old
    → l ≡ take from all ++ drop from old → p ≡ take (to - from) (drop from all)
    → q ≡ p
    → put_mid from (to - from) l q ≡ take to all ++ drop to old
grown all old l p q from to same order fits so_far part whole =
    let front : length (take from all) ≡ from = length-take-le from all (omega arith) in
    let before : take from l ≡ take from all = ap (take from) so_far ∙ take_at (take from all) (drop from old) from front in
    let after : drop from l ≡ drop from old = ap (drop from) so_far ∙ drop_at (take from all) (drop from old) from front in
    let rest : drop (to - from) (drop from l) ≡ drop to old =
    rw (after, drop-drop (to - from) from old, let e : from + (to - from) ≡ to = omega arith in e) in
    rw (before, whole, rest, ← append_assoc (take from all) p (drop to old), part, ← take-add from (to - from) all, let e : from + (to - from) ≡ to = omega arith in e)
