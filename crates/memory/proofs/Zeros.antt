-- Zeros: of n of them, n - k are left once k are dropped; after a list they change none of its numbers, since a number past the end counts as 0.
use Prim.Native.Nat.{ℕ, zero, suc, ◌-◌}
use mathlib.Core.Path.{◌≡◌, refl}
use mathlib.Core.List.{List, [], ◌∷◌, ◌++◌}
use native.Mathlib.Omega.{arith}
use lib.ListN.{get_or, drop, replicate}

pub drop_replicate : (k n : ℕ) → drop {A = ℕ} k (replicate n 0) ≡ replicate (n - k) 0
drop_replicate zero n = rw (let e : n - zero ≡ n = omega arith in e)
drop_replicate (suc k) zero = rw (let e : zero - suc k ≡ zero = omega arith in e)
drop_replicate (suc k) (suc n) = rw (let e : suc n - suc k ≡ n - k = omega arith in e) (drop_replicate k n)

getD_zeros : (n i : ℕ) → ◌≡◌ {A = ℕ} (get_or (replicate n 0) i 0) 0
getD_zeros zero i = refl
getD_zeros (suc n) zero = refl
getD_zeros (suc n) (suc i) = getD_zeros n i

pub getD_then_zeros : (l : List ℕ) (n i : ℕ) → get_or (l ++ replicate n 0) i 0 ≡ get_or l i 0
getD_then_zeros [] n i = getD_zeros n i
getD_then_zeros (x ∷ l) n zero = refl
getD_then_zeros (x ∷ l) n (suc i) = getD_then_zeros l n i
