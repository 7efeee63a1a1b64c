-- A run of a + b steps is by induction on a one of a steps and then one of b; a step keeps the memory's length and the state
-- well formed, so that the second run is refused exactly where the first is.
use Prim.Native.Nat.{ℕ, zero, suc, ◌+◌, ◌≤◌, ◌<◌}
use mathlib.Core.Path.{◌≡◌, refl, sym, ◌∙◌}
use mathlib.Core.Bool.{Bool, true, false}
use mathlib.Core.List.{List, [], ◌∷◌}
use native.Mathlib.Omega.{arith}
use native.Mathlib.Nat.{zero-add, suc-add}
use borrow.Author.Tests.{eqb-true, eqb-false, eq-eqb, ne_eqb, le-ltb}
use native.Mathlib.Decide.{dec_lt}
use lib.Dec.{eqb}
use lib.ListN.{length, drop, length-drop}
use Rattle.memory.specs.Memory.{size}
use Rattle.psi.proofs.Cases.{either_way}
use Rattle.machine.specs.declared.State.{State}
use Rattle.machine.specs.State.{Machine, at, well_formed}
use Rattle.machine.specs.Step.{step}
use Rattle.machine.specs.Answer.{answer, latest}
use Rattle.machine.specs.Run.{Ran, at_once, one_more, runs, run_refusal, RunResult, run}
use Rattle.run_rules.proofs.Laws.{both, both_none, both_more, missed_at_most, stopped, goes_on, accepted}
use Rattle.machine.proofs.Laws.{form, keeps_the_length}
use Rattle.machine.proofs.Flags.{keeps_well_formed}
use Rattle.claims.specs.Runs.{followed, RunsInParts, RefusedRuns, AcceptedExactly, StepsAtMost, StopsExactly, OddNeverStops}

-- what a machine needs for a run to be accepted, and a step keeps
pub record Fit (m : Machine) : Type 0 where
  pub sized : length m.memory ≡ size
  pub formed : well_formed m.state ≡ true

step_fit : (word : ℕ) (m : Machine) → Fit m → Fit (step word m).machine
unfolding step
step_fit word m f =
    record {
      sized = keeps_the_length _ _ _ ∙ f.sized;
      formed = keeps_well_formed word m f.formed;
    }

module _ (stop : ℕ) where
  -- why a run does no step more
  pub data Over : ℕ → List ℕ → Machine → Type 0 where
    enough : {rs : List ℕ} {m : Machine} → Over zero rs m
    used_up : {n : ℕ} {m : Machine} → Over n [] m
    at_stop : {n : ℕ} {rs : List ℕ} {m : Machine} → eqb m.state.pc stop ≡ true → Over n rs m

  -- so what holds of no step, and of one more step, holds of every run
  module _ (P : ℕ → List ℕ → Machine → Ran → Type 0)
      (none : (n : ℕ) (rs : List ℕ) (m : Machine) → Over n rs m → P n rs m (at_once m))
      (more :
      (n r : ℕ) (rs : List ℕ) (m : Machine) (x : Ran) → eqb m.state.pc stop ≡ false
      → P n rs (step r m).machine x → P (suc n) (r ∷ rs) m (one_more (answer r m) x)) where
    either : (b : Bool) (n r : ℕ) (rs : List ℕ) (m : Machine) → eqb m.state.pc stop ≡ b
        → P n rs (step r m).machine (runs stop n rs (step r m).machine) → P (suc n) (r ∷ rs) m (runs stop (suc n) (r ∷ rs) m)
    either true n r rs m e p = rw (stopped stop (suc n) (r ∷ rs) m e) (none _ _ m (at_stop e))
    either false n r rs m e p = rw (goes_on stop n r rs m e) (more n r rs m _ e p)

    pub every_run : (n : ℕ) (rs : List ℕ) (m : Machine) → P n rs m (runs stop n rs m)
    unfolding runs
    every_run zero rs m = none zero rs m enough
    every_run (suc n) [] m = none (suc n) [] m used_up
    every_run (suc n) (r ∷ rs) m = either (eqb m.state.pc stop) n r rs m refl (every_run n rs (step r m).machine)

  runs_fit : (n : ℕ) (rs : List ℕ) (m : Machine) → Fit m → Fit (runs stop n rs m).machine
  runs_fit = every_run (λ n rs m x. Fit m → Fit x.machine) (λ n rs m o f. f) (λ n r rs m x e h f. h (step_fit r m f))

  pub runs_at_most : (n : ℕ) (rs : List ℕ) (m : Machine)
      → ((runs stop n rs m).steps ≤ n) × ((runs stop n rs m).unassigned ≤ (runs stop n rs m).steps)
  runs_at_most =
      every_run (λ n rs m x. (x.steps ≤ n) × (x.unassigned ≤ x.steps)) (λ n rs m o. omega arith)
      (λ n r rs m x e h. omega (arith, missed_at_most (answer r m)))

module _ (stop : ℕ) where
  Apart : ℕ → List ℕ → Machine → Ran → Type 0
  Apart a rs m x =
      (b : ℕ) → a + b ≤ length rs → runs stop (a + b) rs m ≡ both x (runs stop b (drop x.steps rs) x.machine)

  apart_over : (a : ℕ) (rs : List ℕ) (m : Machine) → Over stop a rs m → Apart a rs m (at_once m)
  unfolding Apart
  apart_over zero rs m enough b h = rw (both_none, zero-add)
  apart_over a [] m used_up b h =
      let none : a + b ≡ 0 = omega arith in
      let nor : b ≡ 0 = omega arith in
      rw (both_none, none, nor)
  apart_over a rs m (at_stop e) b h = rw (both_none, stopped stop (a + b) rs m e, stopped stop b rs m e)

  apart_more : (a r : ℕ) (rs : List ℕ) (m : Machine) (x : Ran) → eqb m.state.pc stop ≡ false
      → Apart a rs (step r m).machine x → Apart (suc a) (r ∷ rs) m (one_more (answer r m) x)
  unfolding Apart
  apart_more a r rs m x e apart b h =
      rw (both_more, suc-add, goes_on stop (a + b) r rs m e, apart b (omega arith))

  runs_apart : (a : ℕ) (rs : List ℕ) (m : Machine) → Apart a rs m (runs stop a rs m)
  runs_apart = every_run stop Apart apart_over apart_more

-- a run that is refused, and one that is accepted
pub refused_runs : RefusedRuns
unfolding run
refused_runs m s records steps stop ne = rw (ne_eqb (run_refusal (length m) s (length records) steps) 0 ne)

unfoldable pub result : Ran → RunResult
result x =
    record {
      answer = record { number = 0; state = x.machine.state; steps = x.steps; unassigned = x.unassigned; last = x.last };
      memory = x.machine.memory;
    }

pub accepted_runs :
    (m : List ℕ) (s : State) (records : List ℕ) (steps stop : ℕ)
    → run_refusal (length m) s (length records) steps ≡ 0
    → run m s records steps stop ≡ result (runs stop steps records (at s m))
unfolding run result
accepted_runs m s records steps stop e = rw (eq-eqb (run_refusal (length m) s (length records) steps) 0 e)

pub accepted_exactly : AcceptedExactly
unfolding run
accepted_exactly m s records steps stop =
    either_way (λ (r : RunResult). r.answer.number ≡ run_refusal (length m) s (length records) steps) (eqb (run_refusal (length m) s (length records) steps) 0)
    (λ t. sym (eqb-true _ _ t)) (λ f. refl)

pub steps_at_most : StepsAtMost
unfolding run
steps_at_most m s records steps stop =
    either_way (λ (r : RunResult). (r.answer.steps ≤ steps) × (r.answer.unassigned ≤ r.answer.steps)) (eqb (run_refusal (length m) s (length records) steps) 0)
    (λ t. runs_at_most stop steps records _) (λ f. omega arith)

-- Where there are records enough, a machine is either fit, or every run of it is refused with one number.
data Start (m : Machine) : Type 0 where
  fit : Fit m → Start m
  unfit : (k : ℕ) → (k ≡ 0 → ⊥) → ((records : List ℕ) (steps : ℕ) → run_refusal (length m.memory) m.state (length records) steps ≡ k) → Start m

start : (m : Machine) → Start m
unfolding run_refusal
start m = judged (eqb (length m.memory) size) (well_formed m.state) refl refl
  where
    judged : (a b : Bool) → eqb (length m.memory) size ≡ a → well_formed m.state ≡ b → Start m
    judged true true p q = fit (record { sized = eqb-true _ _ p; formed = q })
    judged true false p q = unfit 2 (omega arith) (λ records steps. rw (p, q))
    judged false b p q = unfit 1 (omega arith) (λ records steps. rw p)

pub fit_accepted :
    (m : Machine) (records : List ℕ) (steps : ℕ) → Fit m → steps ≤ length records
    → run_refusal (length m.memory) m.state (length records) steps ≡ 0
unfolding run_refusal
fit_accepted m records steps f h = rw (eq-eqb _ _ f.sized, f.formed, le-ltb _ _ h)

module _ (m : Machine) (records : List ℕ) (a b stop : ℕ) (h : a + b ≤ length records) where
  InParts : Type 0
  InParts =
      run m.memory m.state records (a + b) stop ≡ followed (run m.memory m.state records a stop) records b stop

  in_parts_unfit : (k : ℕ) → (k ≡ 0 → ⊥) → ((rs : List ℕ) (steps : ℕ) → run_refusal (length m.memory) m.state (length rs) steps ≡ k) → InParts
  unfolding InParts latest
  in_parts_unfit k ne all =
      let refused : (rs : List ℕ) (n : ℕ) → run_refusal (length m.memory) m.state (length rs) n ≡ 0 → ⊥ = λ rs n e. ne (sym (all rs n) ∙ e) in
      rw (
        refused_runs m.memory m.state records (a + b) stop (refused records (a + b)),
        refused_runs m.memory m.state records a stop (refused records a),
        refused_runs m.memory m.state records b stop (refused records b),
        all records (a + b),
        all records b,
      )

  in_parts_fit : Fit m → InParts
  unfolding InParts result both Apart
  in_parts_fit f =
      let first = runs stop a records m in
      let enough : b ≤ length (drop first.steps records) =
      rw (length-drop first.steps records) (omega (arith, runs_at_most stop a records m)) in
      rw (
        accepted_runs m.memory m.state records (a + b) stop (fit_accepted m records (a + b) f h),
        accepted_runs m.memory m.state records a stop (fit_accepted m records a f (omega arith)),
        accepted_runs first.machine.memory first.machine.state (drop first.steps records) b stop
            (fit_accepted first.machine (drop first.steps records) b (runs_fit stop a records m f) enough),
        runs_apart stop a records m b h,
      )

pub runs_in_parts : RunsInParts
unfolding InParts
runs_in_parts m s records a b stop h =
    elim (start (at s m)) [
      | fit f ↦ in_parts_fit (at s m) records a b stop h f
      | unfit k ne all ↦ in_parts_unfit (at s m) records a b stop h k ne all
    ]

pub ready : (m : Machine) (records : List ℕ) (steps : ℕ) → run_refusal (length m.memory) m.state (length records) steps ≡ 0
    → Fit m × (steps ≤ length records)
ready m records steps e =
    let a = accepted _ _ _ _ e in
    (record { sized = a.sized; formed = a.formed }, a.enough)

module _ (stop : ℕ) where
  -- a run that ends before its steps are done ends at the stop address, and was at it never before
  Ended : ℕ → List ℕ → Machine → Ran → Type 0
  Ended n rs m x = n ≤ length rs → x.steps < n → x.machine.state.pc ≡ stop

  ended : (n : ℕ) (rs : List ℕ) (m : Machine) → Over stop n rs m → Ended n rs m (at_once m)
  unfolding Ended
  ended zero rs m enough h l = absurd (omega arith)
  ended n [] m used_up h l = absurd (omega arith)
  ended n rs m (at_stop e) h l = eqb-true _ _ e

  runs_ended : (n : ℕ) (rs : List ℕ) (m : Machine) → Ended n rs m (runs stop n rs m)
  unfolding Ended
  runs_ended = every_run stop Ended ended (λ n r rs m x e p h l. p (omega arith) (omega arith))

  NeverBefore : ℕ → List ℕ → Machine → Ran → Type 0
  NeverBefore n rs m x = (k : ℕ) → k < x.steps → (runs stop k rs m).machine.state.pc ≡ stop → ⊥

  never_more :
      (n r : ℕ) (rs : List ℕ) (m : Machine) (x : Ran) → eqb m.state.pc stop ≡ false
      → NeverBefore n rs (step r m).machine x → NeverBefore (suc n) (r ∷ rs) m (one_more (answer r m) x)
  unfolding NeverBefore runs
  never_more n r rs m x e p zero l q = eqb-false _ _ e q
  never_more n r rs m x e p (suc k) l q = p k (omega arith) (rw (goes_on stop k r rs m e) at q)

  runs_never : (n : ℕ) (rs : List ℕ) (m : Machine) → NeverBefore n rs m (runs stop n rs m)
  unfolding NeverBefore
  runs_never = every_run stop NeverBefore (λ n rs m o k l. absurd (omega arith)) never_more

pub stops_exactly : StopsExactly
unfolding Ended NeverBefore result
stops_exactly m s records steps stop e =
    let r = ready (at s m) records steps e in
    let d = runs_at_most stop steps records (at s m) in
    rw (accepted_runs m s records steps stop e) (
      runs_ended stop steps records (at s m) r.1,
      λ k l. rw (accepted_runs m s records k stop (fit_accepted (at s m) records k r.0 (omega arith)))
          (runs_never stop steps records (at s m) k l),
    )

pub odd_never_stops : OddNeverStops
unfolding result Ended
odd_never_stops m s records steps stop e odd =
    let r = ready (at s m) records steps e in
    let most = runs_at_most stop steps records (at s m) in
    let f = form _ (runs_fit stop steps records (at s m) r.0).formed in
    rw (accepted_runs m s records steps stop e)
    (elim (dec_lt (runs stop steps records (at s m)).steps steps) [
      | yes l ↦ absurd (omega (arith, runs_ended stop steps records (at s m) r.1 l, f.even.pc))
      | no g ↦ omega arith
    ])
