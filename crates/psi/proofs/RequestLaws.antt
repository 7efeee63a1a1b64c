-- The search either stops at its first request or goes on with one fewer, from the next; what it says of the rest, with what
-- is known of the first, says it of all.
use Prim.Native.Nat.{ℕ, zero, suc, ◌+◌, ◌<◌, ◌≤◌}
use mathlib.Core.Path.{◌≡◌, refl, subst}
use mathlib.Core.Bool.{Bool, true, false}
use native.Mathlib.Omega.{arith}
use native.Mathlib.Decide.{dec_lt}
use Rattle.psi.specs.declared.Psi.{Psi}
use Rattle.psi.specs.Pins.{requested, lowest, request}
use Rattle.psi.specs.RequestLaws.{RequestMeaning}

module _ (s : Psi) (v : ℕ) where
  -- what r says of the k requests from n on
  record Of (k n r : ℕ) : Type 0 where
    none : r ≡ 0 → (m : ℕ) → n ≤ m → m < n + k → requested s v m ≡ false
    found : 0 < r → (r < n + k) × (requested s v r ≡ true) × ((m : ℕ) → n ≤ m → m < r → requested s v m ≡ false)

  -- one more request in front that is not requested
  in_front :
      (n b : ℕ) → requested s v n ≡ false → ((m : ℕ) → n + 1 ≤ m → m < b → requested s v m ≡ false) →
      (m : ℕ) → n ≤ m → m < b → requested s v m ≡ false
  in_front n b e rest m lo hi =
      elim (dec_lt n m) [
        | yes l ↦ rest m (omega arith) hi
        | no g ↦ subst (λ (i : ℕ). requested s v i ≡ false) (let q : n ≡ m = omega arith in q) e
      ]

  beyond : (k n r : ℕ) → requested s v n ≡ false → Of k (n + 1) r → Of (suc k) n r
  beyond k n r e o =
      record {
        none = λ z m lo hi. in_front n (n + suc k) e (λ i l h. o.none z i l (omega arith)) m lo hi;
        found = λ pos. let f = o.found pos in (omega (arith, f.0), f.1, in_front n r e f.2);
      }

  here : (k n : ℕ) → 0 < n → requested s v n ≡ true → Of (suc k) n n
  here k n pos e =
      record {
        none = λ z m lo hi. absurd (omega arith);
        found = λ h. (omega arith, e, λ m lo hi. absurd (omega arith));
      }

  turned :
      (b : Bool) (k n : ℕ) → 0 < n → requested s v n ≡ b → Of k (n + 1) (lowest s v k (n + 1)) →
      Of (suc k) n (lowest s v (suc k) n)
  unfolding lowest
  turned true k n pos e o = rw e (here k n pos e)
  turned false k n pos e o = rw e (beyond k n _ e o)

  of_lowest : (k n : ℕ) → 0 < n → Of k n (lowest s v k n)
  unfolding lowest
  of_lowest zero n pos = record { none = λ z m lo hi. absurd (omega arith); found = λ h. absurd (omega arith) }
  of_lowest (suc k) n pos = turned (requested s v n) k n pos refl (of_lowest k (n + 1) (omega arith))

pub request_meaning : RequestMeaning
unfolding request
request_meaning s v =
    let o = of_lowest s v 15 1 (omega arith) in
    record {
      none = o.none;
      found = o.found;
    }
