-- The numbers of an array that have to fit 16 bits, one by one.
use Rattle.std.proofs.Common.{◌≡◌, ◌<◌, ℕ, zero, suc, true, ◌&&◌, ltb, List, [], ◌∷◌, get_or, take, drop, refl, get_or-take, arith}
use borrow.Author.Tests.{ltb-true}
use Rattle.bits.proofs.Laws.{conjuncts}
use Rattle.state_array.specs.Arrays.{all_fit, fits}

step : (w : List ℕ) (i k : ℕ) → all_fit (take (suc k) (drop i w)) ≡ (ltb (get_or w i 0) 65536 && all_fit (take k (drop (suc i) w)))
unfolding all_fit
step [] zero zero = refl
step [] zero (suc k) = refl
step [] (suc i) zero = refl
step [] (suc i) (suc k) = refl
step (x ∷ w) zero k = refl
step (x ∷ w) (suc i) k = step w i k

pub each :
    (w : List ℕ)
    → fits w
    ≡ (ltb (get_or w 0 0) 65536 && (ltb (get_or w 1 0) 65536 && (ltb (get_or w 2 0) 65536 && (ltb (get_or w 3 0) 65536
    && (ltb (get_or w 4 0) 65536 && (ltb (get_or w 5 0) 65536 && (ltb (get_or w 6 0) 65536 && (ltb (get_or w 7 0) 65536
    && (ltb (get_or w 8 0) 65536 && (ltb (get_or w 9 0) 65536 && (ltb (get_or w 10 0) 65536 && (ltb (get_or w 11 0) 65536 && true))))))))))))
unfolding fits all_fit
each w = rw (step w 0 11, step w 1 10, step w 2 9, step w 3 8, step w 4 7, step w 5 6, step w 6 5, step w 7 4, step w 8 3, step w 9 2, step w 10 1, step w 11 0)

-- an array whose numbers fit their fields: all but the last do

all_below : (w : List ℕ) (i : ℕ) → all_fit w ≡ true → get_or w i 0 < 65536
unfolding all_fit
all_below [] i h = omega arith
all_below (x ∷ w) zero h = ltb-true x 65536 (conjuncts (ltb x 65536) (all_fit w) h).0
all_below (x ∷ w) (suc i) h = all_below w i (conjuncts (ltb x 65536) (all_fit w) h).1

pub fit_at : (w : List ℕ) (i : ℕ) → i < 12 → fits w ≡ true → get_or w i 0 < 65536
unfolding fits
fit_at w i l h = rw (get_or-take 12 w i 0 l) at (all_below (take 12 w) i h)
