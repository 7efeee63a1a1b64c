-- The list is two places a run and then zeros, so place 2k is the start and place 2k + 1 the length of run k, and past the last run's
-- places all are 0.
use Prim.Native.Nat.{ℕ, zero, suc, min, ◌+◌, ◌-◌, ◌*◌, ◌<◌}
use mathlib.Core.Path.{◌≡◌, refl, ap, ◌∙◌}
use mathlib.Core.List.{List, [], ◌∷◌}
use native.Mathlib.Omega.{arith}
use lib.ListN.{length, get_or, take, length-append, length-take, length-replicate, get_or-eq_default}
use lib.Seq.{get_or-take}
use Rattle.memory.proofs.Zeros.{getD_then_zeros}
use Rattle.differing_runs.specs.Runs.{Stretch, listed, numbers, places}
use Rattle.differing_runs.proofs.Laws.{numbers_length}
use Rattle.differing_runs_claims.specs.Claims.{Listed}

numbers_at :
    (rs : List Stretch) (k : ℕ) (r : Stretch) → k < length rs
    → get_or rs k r ≡ record { start = get_or (numbers rs) (2 * k) 0; length = get_or (numbers rs) (2 * k + 1) 0 }
unfolding numbers
numbers_at [] k r h = absurd (omega arith)
numbers_at (x ∷ rs) zero r h = refl
numbers_at (x ∷ rs) (suc k) r h =
    rw (let e : 2 * suc k ≡ suc (suc (2 * k)) = omega arith in e, let e : suc (suc (2 * k)) + 1 ≡ suc (suc (2 * k + 1)) = omega arith in e)
    (numbers_at rs k r (omega arith))

place : (rs : List Stretch) (i : ℕ) → get_or (places rs) i 0 ≡ get_or (numbers (take listed rs)) i 0
unfolding places
place rs i = getD_then_zeros (numbers (take listed rs)) (2 * (listed - length rs)) i

kept : (rs : List Stretch) → length (numbers (take listed rs)) ≡ 2 * min listed (length rs)
kept rs = numbers_length (take listed rs) ∙ ap (λ (n : ℕ). 2 * n) (length-take listed rs)

places_length : (rs : List Stretch) → length (places rs) ≡ 2 * listed
unfolding places
places_length rs = simp (length-append, length-replicate) (omega (arith, kept rs))

pub listing : (rs : List Stretch) → Listed rs
listing rs =
    record {
      size = places_length rs;
      run =
          λ k r h l.
          rw (place rs (2 * k), place rs (2 * k + 1), ← get_or-take listed rs k r l)
          (numbers_at (take listed rs) k r (rw (length-take listed rs) (omega arith)));
      spare = λ i h. place rs i ∙ get_or-eq_default (numbers (take listed rs)) 0 (omega (arith, kept rs));
    }
