-- Differences of lists put together of parts, and of lists that agree.
use Prim.Native.Nat.{ℕ, suc, ◌+◌, ◌<◌, ◌≤◌}
use mathlib.Core.Path.{◌≡◌, refl, sym, ap, ◌∙◌}
use mathlib.Core.Bool.{false, not}
use mathlib.Core.List.{List, [], ◌∷◌, ◌++◌}
use native.Mathlib.Omega.{arith}
use native.Mathlib.Numerals.{add-one}
use lib.ListN.{length, get_or, take, drop, replicate}
use lib.Seq.{take-suc, take-add, length-take-le}
use borrow.Author.Tests.{eq-eqb}
use lib.Dec.{eqb}
use Rattle.differing_runs.specs.Runs.{differences}

pub differences_append :
    (a b c d : List ℕ) → length a ≡ length b → differences (a ++ c) (b ++ d) ≡ differences a b ++ differences c d
unfolding differences
differences_append [] [] c d h = refl
differences_append [] (y ∷ b) c d h = absurd (omega arith)
differences_append (x ∷ a) [] c d h = absurd (omega arith)
differences_append (x ∷ a) (y ∷ b) c d h = ap (◌∷◌ (not (eqb x y))) (differences_append a b c d (omega arith))

pub differences_length : (a b : List ℕ) → length a ≡ length b → length (differences a b) ≡ length a
unfolding differences
differences_length [] [] h = refl
differences_length [] (y ∷ b) h = refl
differences_length (x ∷ a) [] h = absurd (omega arith)
differences_length (x ∷ a) (y ∷ b) h = ap suc (differences_length a b (omega arith))

-- the next m bytes after n
pub next_part :
    (a b : List ℕ) (n m : ℕ) → length a ≡ length b → n ≤ length a
    → differences (take (n + m) a) (take (n + m) b) ≡ differences (take n a) (take n b) ++ differences (take m (drop n a)) (take m (drop n b))
next_part a b n m h l =
    rw (take-add n m a, take-add n m b)
    (differences_append (take n a) (take n b) (take m (drop n a)) (take m (drop n b)) (length-take-le n a l ∙ sym (length-take-le n b (omega arith))))

-- one byte more
pub one_more :
    (a b : List ℕ) (i : ℕ) → length a ≡ length b → i < length a
    → differences (take (i + 1) a) (take (i + 1) b) ≡ differences (take i a) (take i b) ++ (not (eqb (get_or a i 0) (get_or b i 0)) ∷ [])
unfolding differences
one_more a b i h l =
    rw (add-one i, take-suc a i 0 l, take-suc b i 0 (omega arith))
    (differences_append (take i a) (take i b) (get_or a i 0 ∷ []) (get_or b i 0 ∷ [])
    (length-take-le i a (omega arith) ∙ sym (length-take-le i b (omega arith))))

-- no byte differs from itself
pub none_differs : (a : List ℕ) → differences a a ≡ replicate (length a) false
unfolding differences
none_differs [] = refl
none_differs (x ∷ a) = rw (eq-eqb x x refl) (ap (◌∷◌ false) (none_differs a))
