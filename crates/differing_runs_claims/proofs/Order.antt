-- Two rising lists with the same members are equal: the first of each is the lowest of its members, so the two first are one, and the others
-- of each are the others of the other.
use Prim.Native.Nat.{zero, suc, ◌<◌}
use mathlib.Core.Path.{◌≡◌, refl, sym, ap, ap₂, subst, ◌∙◌}
use mathlib.Core.Logic.{◌⊎◌, inl, inr, ⊎_elim}
use mathlib.Core.List.{List, [], ◌∷◌}
use native.Mathlib.Omega.{arith}
use Rattle.differing_runs.specs.Runs.{Stretch}
use Rattle.differing_runs_claims.specs.Claims.{Among, Rising}

first_or_other : (x : Stretch) (l : List Stretch) (r : Stretch) → Among (x ∷ l) r → (x ≡ r) ⊎ Among l r
first_or_other x l r (zero, h, e) = inl e
first_or_other x l r (suc k, h, e) = inr (k, omega arith, e)

-- the others start later than the first
later : (x : Stretch) (l : List Stretch) (r : Stretch) → Rising (x ∷ l) → Among l r → x.start < r.start
later x l r up (k, h, e) = subst (λ (s : Stretch). x.start < s.start) e (up 0 (suc k) (omega arith) (omega arith))

same_first : (x y : Stretch) (a b : List Stretch) → Rising (x ∷ a) → Rising (y ∷ b) → Among (x ∷ a) y → Among (y ∷ b) x → x ≡ y
same_first x y a b up-a up-b y-in x-in =
    ⊎_elim (λ e. e)
    (λ p. ⊎_elim (λ e. sym e) (λ q. absurd (omega (arith, later x a y up-a p, later y b x up-b q))) (first_or_other y b x x-in))
    (first_or_other x a y y-in)

-- with the same first, what is among the others of one list is among the others of the other
others :
    (x y : Stretch) (a b : List Stretch) → x ≡ y → Rising (x ∷ a) → ((r : Stretch) → Among (x ∷ a) r → Among (y ∷ b) r)
    → (r : Stretch) → Among a r → Among b r
others x y a b same up within r (k, h, e) =
    ⊎_elim
    (λ f. absurd (omega (arith, later x a r up (k, h, e), ap (λ (s : Stretch). s.start) (same ∙ f))))
    (λ p. p)
    (first_or_other y b r (within r (suc k, omega arith, e)))

pub one_list :
    (a b : List Stretch) → Rising a → Rising b → ((r : Stretch) → Among a r → Among b r) → ((r : Stretch) → Among b r → Among a r) → a ≡ b
one_list [] [] up-a up-b to back = refl
one_list [] (y ∷ b) up-a up-b to back = absurd (omega (arith, (back y (0, omega arith, refl)).1))
one_list (x ∷ a) [] up-a up-b to back = absurd (omega (arith, (to x (0, omega arith, refl)).1))
one_list (x ∷ a) (y ∷ b) up-a up-b to back =
    let same : x ≡ y = same_first x y a b up-a up-b (back y (0, omega arith, refl)) (to x (0, omega arith, refl)) in
    ap₂ ◌∷◌ same
    (one_list a b
    (λ j k l h. up-a (suc j) (suc k) (omega arith) (omega arith))
    (λ j k l h. up-b (suc j) (suc k) (omega arith) (omega arith))
    (others x y a b same up-a to)
    (others y x b a (sym same) up-b back))
