-- A run begins exactly where a byte differs and the byte before it does not; `extent` reaches to the first byte that agrees. So a run is a
-- maximal stretch, a maximal stretch is the run that begins at its start, and walking back from a byte that differs leads to its run's start.
use Prim.Native.Nat.{ℕ, zero, suc, ◌+◌, ◌-◌, ◌*◌, ◌<◌, ◌≤◌}
use mathlib.Core.Path.{◌≡◌, refl, sym, subst, ◌∙◌}
use mathlib.Core.Logic.{◌↔◌}
use mathlib.Core.Bool.{Bool, true, false, true≢false, false≢true}
use mathlib.Core.List.{List, [], ◌∷◌}
use native.Mathlib.Omega.{arith}
use native.Mathlib.Nat.{zero-add, add-zero}
use native.Mathlib.Numerals.{add-one}
use lib.ListN.{length, drop}
use lib.Seq.{get_or-drop}
use Rattle.bits.specs.Bits.{one_if}
use Rattle.bits.proofs.Laws.{one_if_below}
use Rattle.differing_runs.specs.Runs.{Stretch, extent, runs_from}
use Rattle.differing_runs_claims.specs.Claims.{differs, end, Maximal, stretch, Among, IsRun}

-- Bytes differ up to the extent, and there one agrees.

inside : (ds : List Bool) (i : ℕ) → i < extent ds → differs ds i ≡ true
unfolding extent
inside [] i h = absurd (omega arith)
inside (false ∷ ds) i h = absurd (omega arith)
inside (true ∷ ds) zero h = refl
inside (true ∷ ds) (suc i) h = inside ds i (omega arith)

past : (ds : List Bool) → differs ds (extent ds) ≡ false
unfolding extent
past [] = refl
past (false ∷ ds) = refl
past (true ∷ ds) = past ds

-- no other number is such
extent_is : (ds : List Bool) (n : ℕ) → ((i : ℕ) → i < n → differs ds i ≡ true) → differs ds n ≡ false → extent ds ≡ n
extent_is ds n all agrees =
    let high : ¬ (n < extent ds) = λ l. false≢true (sym agrees ∙ inside ds n l) in
    let low : ¬ (extent ds < n) = λ l. false≢true (sym (past ds) ∙ all (extent ds) l) in
    omega arith

-- a run begins at byte i: it differs, and the byte before it does not
abbrev Begins : Bool → List Bool → ℕ → Type 0
Begins before ds i = (differs ds i ≡ true) × (differs (before ∷ ds) i ≡ false)

-- that run, where the bytes lie from an address on
abbrev beginning : ℕ → List Bool → ℕ → Stretch
beginning at ds i = record { start = at + i; length = extent (drop i ds) }

one_later : (at : ℕ) (d : Bool) (ds : List Bool) (i : ℕ) → beginning at (d ∷ ds) (suc i) ≡ beginning (at + 1) ds i
one_later at d ds i = rw (let e : at + suc i ≡ at + 1 + i = omega arith in e)

-- The runs from an address on are the stretches that begin at one of the bytes.

abbrev Begun : Bool → ℕ → List Bool → Stretch → Type 0
Begun before at ds r = (i : ℕ) × Begins before ds i × (r ≡ beginning at ds i)

begun_later : (before : Bool) (at : ℕ) (d : Bool) (ds : List Bool) (r : Stretch) → Begun d (at + 1) ds r → Begun before at (d ∷ ds) r
begun_later before at d ds r (i, b, e) = (suc i, b, e ∙ sym (one_later at d ds i))

begun : (before : Bool) (at : ℕ) (ds : List Bool) (r : Stretch) → Among (runs_from before at ds) r → Begun before at ds r
unfolding runs_from
begun before at [] r (k, h, e) = absurd (omega arith)
begun before at (false ∷ ds) r p = begun_later before at false ds r (begun false (at + 1) ds r p)
begun true at (true ∷ ds) r p = begun_later true at true ds r (begun true (at + 1) ds r p)
begun false at (true ∷ ds) r (zero, h, e) = (zero, (refl, refl), sym e ∙ rw (add-zero at))
begun false at (true ∷ ds) r (suc k, h, e) = begun_later false at true ds r (begun true (at + 1) ds r (k, omega arith, e))

there : (before : Bool) (at : ℕ) (ds : List Bool) (r : Stretch) → Begun before at ds r → Among (runs_from before at ds) r
unfolding runs_from
there before at [] r (i, b, e) = absurd (false≢true b.0)
there before at (false ∷ ds) r (zero, b, e) = absurd (false≢true b.0)
there before at (false ∷ ds) r (suc i, b, e) = there false (at + 1) ds r (i, b, e ∙ one_later at false ds i)
there true at (true ∷ ds) r (zero, b, e) = absurd (true≢false b.1)
there true at (true ∷ ds) r (suc i, b, e) = there true (at + 1) ds r (i, b, e ∙ one_later at true ds i)
there false at (true ∷ ds) r (zero, b, e) = (zero, omega arith, sym (e ∙ rw (add-zero at)))
there false at (true ∷ ds) r (suc i, b, e) =
    let (k, h, f) = there true (at + 1) ds r (i, b, e ∙ one_later at true ds i) in
    (suc k, omega arith, f)

-- A run is maximal.

from : (d : List Bool) (i j : ℕ) → differs (drop i d) j ≡ differs d (i + j)
from d i j = get_or-drop i d j false

maximal : (d : List Bool) (i : ℕ) → Begins false d i → Maximal d (record { start = i; length = extent (drop i d) })
maximal d i b =
    let here : differs (drop i d) 0 ≡ true = from d i 0 ∙ rw (add-zero i) b.0 in
    let some : ¬ (extent (drop i d) ≡ 0) = λ e. false≢true (sym (past (drop i d)) ∙ rw e here) in
    record {
      some = omega arith;
      differing =
          λ j l h.
          rw (let e : j ≡ i + (j - i) = omega arith in e) (sym (from d i (j - i)) ∙ inside (drop i d) (j - i) (omega arith));
      before = λ j e. subst (λ (n : ℕ). differs (false ∷ d) n ≡ false) (sym e ∙ add-one j) b.1;
      after = sym (from d i (extent (drop i d))) ∙ past (drop i d);
    }

-- A maximal stretch is the run that begins at its start.
begins : (d : List Bool) (r : Stretch) → Maximal d r → Begins false d r.start
begins d r m = (m.differing r.start (omega arith) (omega (arith, m.some)), agrees r.start refl)
  where
    agrees : (n : ℕ) → n ≡ r.start → differs (false ∷ d) n ≡ false
    agrees zero e = refl
    agrees (suc n) e = m.before n (add-one n ∙ e)

reaches : (d : List Bool) (r : Stretch) → Maximal d r → extent (drop r.start d) ≡ r.length
reaches d r m =
    extent_is (drop r.start d) r.length
    (λ i l. from d r.start i ∙ m.differing (r.start + i) (omega arith) (omega arith))
    (from d r.start r.length ∙ m.after)

pub run_is_maximal : (d : List Bool) (r : Stretch) → IsRun d r ↔ Maximal d r
run_is_maximal d r = (
  λ p.
      let (i, b, e) = begun false 0 d r p in
      rw (e, zero-add i) (maximal d i b),
  λ m. there false 0 d r (r.start, begins d r m, rw (zero-add r.start, reaches d r m)),
)

-- A byte that differs lies in a maximal stretch: in that of the byte before it, or in one that begins here.

abbrev Covered : List Bool → ℕ → Type 0
Covered d i = (r : Stretch) × Maximal d r × (r.start ≤ i) × (i < end r)

covered_anew : (d : List Bool) (i : ℕ) → Begins false d i → Covered d i
covered_anew d i b =
    let m = maximal d i b in
    (record { start = i; length = extent (drop i d) }, m, omega arith, omega (arith, m.some))

covered_next : (d : List Bool) (i : ℕ) → Covered d i → differs d (suc i) ≡ true → Covered d (suc i)
covered_next d i (r, m, l, u) h =
    let apart : ¬ (end r ≡ suc i) = λ e. true≢false (sym h ∙ subst (λ (n : ℕ). differs d n ≡ false) e m.after) in
    (r, m, omega arith, omega arith)

pub covered : (d : List Bool) (i : ℕ) → differs d i ≡ true → Covered d i
covered d zero h = covered_anew d zero (h, refl)
covered d (suc i) h = by_test (differs d i) refl (covered d i)
  where
    by_test : (t : Bool) → differs d i ≡ t → (differs d i ≡ true → Covered d i) → Covered d (suc i)
    by_test true e before = covered_next d i (before e) h
    by_test false e before = covered_anew d (suc i) (h, e)

-- A run that begins later begins after a byte that agrees.

beyond : (ds : List Bool) (i : ℕ) → Begins true ds i → extent ds < i
beyond ds zero b = absurd (true≢false b.1)
beyond ds (suc i) b =
    let out : ¬ (i < extent ds) = λ l. true≢false (sym (inside ds i l) ∙ b.1) in
    omega arith

pub apart :
    (before : Bool) (at : ℕ) (ds : List Bool) (j k : ℕ) → j < k → k < length (runs_from before at ds)
    → end (stretch (runs_from before at ds) j) < (stretch (runs_from before at ds) k).start
unfolding runs_from extent
apart before at [] j k l h = absurd (omega arith)
apart before at (false ∷ ds) j k l h = apart false (at + 1) ds j k l h
apart true at (true ∷ ds) j k l h = apart true (at + 1) ds j k l h
apart false at (true ∷ ds) j zero l h = absurd (omega arith)
apart false at (true ∷ ds) zero (suc k) l h =
    let (i, b, e) = begun true (at + 1) ds _ (k, omega arith, refl) in
    rw e (omega (arith, beyond ds i b))
apart false at (true ∷ ds) (suc j) (suc k) l h = apart true (at + 1) ds j k (omega arith) (omega arith)

-- A run takes a byte and the one before it, the first run perhaps only a byte.
pub halved : (before : Bool) (at : ℕ) (ds : List Bool) → 2 * length (runs_from before at ds) + one_if before ≤ length ds + 1
unfolding runs_from
halved before at [] = omega (arith, one_if_below before)
halved before at (false ∷ ds) = omega (arith, halved false (at + 1) ds, one_if_below before)
halved true at (true ∷ ds) = omega (arith, halved true (at + 1) ds)
halved false at (true ∷ ds) = omega (arith, halved true (at + 1) ds)
