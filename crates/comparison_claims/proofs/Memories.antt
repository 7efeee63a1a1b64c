-- Two memories of one length are equal exactly if no byte differs, and no byte differs exactly if there is no run, since the runs cover the
-- differing bytes and nothing else.
use Prim.Native.Nat.{ℕ, ◌<◌, ◌≤◌}
use mathlib.Core.Path.{◌≡◌, refl, sym, ap, ◌∙◌}
use mathlib.Core.Logic.{◌↔◌}
use mathlib.Core.Bool.{Bool, true, false, not, false≢true}
use mathlib.Core.List.{List}
use native.Mathlib.Omega.{arith}
use borrow.Author.Tests.{eq-eqb, ne_eqb, eqb-true, not-false}
use lib.ListN.{length, get_or}
use lib.Seq.{ext_get_or}
use Rattle.differing_runs.specs.Runs.{Stretch, differences, runs_of}
use Rattle.differing_runs_claims.specs.Claims.{differs, end, run, IsRun}
use Rattle.differing_runs_claims.proofs.Claims.{byte_by_byte, maximal_stretches, covers_exactly}

-- without a run no byte differs
none_differs : (d : List Bool) (i : ℕ) → length (runs_of d) ≡ 0 → differs d i ≡ false
none_differs d i none = by_test (differs d i) refl
  where
    by_test : (t : Bool) → differs d i ≡ t → t ≡ false
    by_test true e = let (r, (k, h, f), l, u) = (covers_exactly d i).0 e in absurd (omega arith)
    by_test false e = refl

-- the first run begins with a byte that differs
first_differs : (d : List Bool) → 0 < length (runs_of d) → differs d (run d 0).start ≡ true
first_differs d l =
    let m = (maximal_stretches d (run d 0)).0 (0, l, refl) in
    m.differing (run d 0).start (omega arith) (omega (arith, m.some))

no_run : (d : List Bool) → ((i : ℕ) → differs d i ≡ false) → length (runs_of d) ≡ 0
no_run d none =
    let empty : ¬ (0 < length (runs_of d)) = λ l. false≢true (sym (none (run d 0).start) ∙ first_differs d l) in
    omega arith

pub memories : (a b : List ℕ) → length a ≡ length b → (length (runs_of (differences a b)) ≡ 0) ↔ (a ≡ b)
memories a b h = (
  λ none. ext_get_or 0 a b h (λ i l. eqb-true _ _ (not-false _ (sym (byte_by_byte a b i h) ∙ none_differs (differences a b) i none))),
  λ e. no_run (differences a b) (λ i. byte_by_byte a b i h ∙ ap not (eq-eqb _ _ (ap (λ (l : List ℕ). get_or l i 0) e))),
)

-- a byte that differs lies in a run, and no other
pub covered :
    (a b : List ℕ) (i : ℕ) → length a ≡ length b
    → (get_or a i 0 ≡ get_or b i 0 → ⊥) ↔ ((r : Stretch) × IsRun (differences a b) r × (r.start ≤ i) × (i < end r))
covered a b i h = (
  λ n. (covers_exactly (differences a b) i).0 (byte_by_byte a b i h ∙ ap not (ne_eqb _ _ n)),
  λ p e. false≢true (sym (byte_by_byte a b i h ∙ ap not (eq-eqb _ _ e)) ∙ (covers_exactly (differences a b) i).1 p),
)
