-- What holds of each element of a list, by induction on the list.
use mathlib.Core.List.{List, [], ◌∷◌, ◌++◌}
use Rattle.book_claim.specs.Claim.{Each}

pub each_map : {A : Type 0} {P Q : A → Type 0} → ((x : A) → P x → Q x) → (xs : List A) → Each P xs → Each Q xs
unfolding Each
each_map f [] p = tt
each_map f (x ∷ xs) p = (f x p.0, each_map f xs p.1)

pub each_zip :
    {A : Type 0} {P Q R : A → Type 0} → ((x : A) → P x → Q x → R x) → (xs : List A) → Each P xs → Each Q xs → Each R xs
unfolding Each
each_zip f [] p q = tt
each_zip f (x ∷ xs) p q = (f x p.0 q.0, each_zip f xs p.1 q.1)

pub each_split : {A : Type 0} (P : A → Type 0) (xs ys : List A) → Each P (xs ++ ys) → Each P xs × Each P ys
unfolding Each
each_split P [] ys p = (tt, p)
each_split P (x ∷ xs) ys p =
    let q = each_split P xs ys p.1 in
    ((p.0, q.0), q.1)

pub each_append : {A : Type 0} (P : A → Type 0) (xs ys : List A) → Each P xs → Each P ys → Each P (xs ++ ys)
unfolding Each
each_append P [] ys p q = q
each_append P (x ∷ xs) ys p q = (p.0, each_append P xs ys p.1 q)
