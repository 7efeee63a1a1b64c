-- Whether two numbers are equal does not depend on which comes first; so neither do the word of fields and the differing bytes.
use Prim.Native.Nat.{ℕ, zero, suc, ◌+◌}
use mathlib.Core.Path.{◌≡◌, refl, sym, ◌∙◌}
use mathlib.Core.Logic.{by_cases}
use mathlib.Core.List.{List, [], ◌∷◌}
use native.Mathlib.Decide.{ℕ_discrete}
use borrow.Author.Tests.{ne_eqb}
use lib.Dec.{eqb}
use Rattle.differing_runs.specs.Runs.{differences}
use Rattle.comparison.specs.Compare.{field, fields_from}

eqb_exchanged : (x y : ℕ) → eqb y x ≡ eqb x y
eqb_exchanged x y = by_cases (ℕ_discrete x y) (λ e. rw e) (λ n. ne_eqb y x (λ e. n (sym e)) ∙ sym (ne_eqb x y n))

pub fields_exchanged : (a b : List ℕ) (n k : ℕ) → fields_from b a n k ≡ fields_from a b n k
unfolding fields_from
fields_exchanged a b zero k = refl
fields_exchanged a b (suc n) k = rw (eqb_exchanged (field a k) (field b k), fields_exchanged a b n (k + 1))

pub differences_exchanged : (a b : List ℕ) → differences b a ≡ differences a b
unfolding differences
differences_exchanged [] [] = refl
differences_exchanged [] (y ∷ b) = refl
differences_exchanged (x ∷ a) [] = refl
differences_exchanged (x ∷ a) (y ∷ b) = rw (eqb_exchanged x y, differences_exchanged a b)
