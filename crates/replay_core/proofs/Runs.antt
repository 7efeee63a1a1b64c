-- A run goes on from where some steps have led: each step takes one from the steps left and one record, adds to the counts, and is the last
-- so far.
use Rattle.std.specs.Prelude.{if◌then◌else◌, Ok, Err}
use Prim.Native.Nat.{ℕ, zero, suc, ◌+◌, ◌-◌, ◌<◌}
use mathlib.Core.Path.{◌≡◌, refl, ap}
use mathlib.Core.Bool.{Bool, true, false, not}
use mathlib.Core.List.{List, [], ◌∷◌}
use native.Mathlib.Omega.{arith}
use native.Mathlib.Numerals.{add-one}
use lib.ListN.{length, get_or, take, drop}
use lib.Seq.{drop-cons, length-take-le}
use lib.Dec.{eqb}
use borrow.Author.Tests.{eq-eqb, ne_eqb, eqb-true}
use Rattle.memory.specs.Memory.{size}
use Rattle.refusals.specs.declared.Refusal.{Refusal}
use Rattle.refusals.specs.Refusals.{number}
use Rattle.refusals.proofs.Laws.{never_0}
use Rattle.machine.specs.declared.Ran.{Ran as Did}
use Rattle.machine.specs.declared.State.{State}
use Rattle.machine.specs.declared.StepAnswer.{StepAnswer}
use Rattle.machine.specs.State.{Machine, at, blank}
use Rattle.replay_core.specs.Runs.{ended}
use Rattle.machine.specs.Perform.{performed, perform}
use Rattle.machine.specs.declared.Signal.TheVariants.{Reset as reset}
use Rattle.machine.specs.Step.{boundary, step}
use Rattle.machine.specs.Answer.{as_told, answered, answer, latest}
use Rattle.machine.specs.Run.{at_once, one_more, runs, run_refusal, run, Promised, power_up_refusal, power_up, run_answer, state_answer}
use Rattle.run_rules.proofs.Laws as Laws

-- elsewhere than at the stop address one step is done
pub goes_on : (stop steps done : ℕ) (rs : List ℕ) (m : Machine) → eqb m.state.pc stop ≡ false → done < steps → done < length rs
    → runs stop (steps - done) (drop done rs) m
    ≡ one_more (answered (get_or rs done 0) m).value (runs stop (steps - (done + 1)) (drop (done + 1) rs) (answered (get_or rs done 0) m).machine)
unfolding as_told answer
goes_on stop steps done rs m e h l =
    rw (let left : steps - done ≡ suc (steps - (done + 1)) = omega arith in left, drop-cons rs done 0 l, add-one done)
    (Laws.goes_on stop (steps - suc done) (get_or rs done 0) (drop (suc done) rs) m e)

-- the step that was done is the latest so far
pub latest_step : (b a : StepAnswer) (word : ℕ) (m n : Machine) → answered word m ≡ performed a n → latest b a ≡ a
unfolding answer
latest_step b a word m n e = rw (answer, e) at (Laws.latest_answer b word m)

-- power up without a refusal
passed : (x : Bool) → ◌≡◌ {A = ℕ} (if not x then 1 else 0) 0 → x ≡ true
passed true e = refl
passed false e = absurd (omega arith)

pub powers : (bytes : ℕ) → power_up_refusal bytes ≡ 0 → bytes ≡ size
unfolding power_up_refusal
powers bytes e = eqb-true _ _ (passed (eqb bytes size) e)

-- records beyond the steps asked for do not matter
pub first_records : (stop n : ℕ) (rs : List ℕ) (m : Machine) → runs stop n (take n rs) m ≡ runs stop n rs m
unfolding runs
first_records stop zero rs m = refl
first_records stop (suc n) [] m = refl
first_records stop (suc n) (r ∷ rs) m =
    ap (λ z. elim (eqb m.state.pc stop) [ true ↦ at_once m | false ↦ one_more (answer r m) z ]) (first_records stop n rs (step r m).machine)

-- an accepted run answers what its steps lead to
pub ran_to : (m : List ℕ) (s : State) (rs : List ℕ) (n stop : ℕ) (r : Did) (x : List ℕ)
    → run_refusal (length m) s (length rs) n ≡ 0 → runs stop (length (take n rs)) (take n rs) (at s m) ≡ ended r x
    → Promised m s rs n stop (run_answer (Ok r)) x
unfolding run run_answer
ran_to m s rs n stop r x e h =
    let all : length (take n rs) ≡ n = length-take-le n rs (Laws.accepted _ _ _ _ e).enough in
    rw (eq-eqb _ _ e, ← first_records stop n rs (at s m), rw all at h)

-- a refused run returns the state as given and changes nothing
pub refused_run : (m : List ℕ) (s : State) (rs : List ℕ) (n stop : ℕ) (r : Refusal)
    → number r ≡ run_refusal (length m) s (length rs) n → Promised m s rs n stop (run_answer (Err (record { refusal = r; state = s }))) m
unfolding run run_answer
refused_run m s rs n stop r e = rw (← e, ne_eqb (number r) 0 (never_0 r))

-- power up is the reset entry of the blank state
pub powered : (m : List ℕ) (s : State) (x : List ℕ)
    → power_up_refusal (length m) ≡ 0 → (perform 0 (boundary reset) (at blank m)).machine ≡ at s x
    → power_up m ≡ record { answer = state_answer (Ok s); memory = x }
unfolding power_up state_answer
powered m s x e h = rw (eq-eqb _ _ e, h)

-- a refused power up returns the blank state and changes nothing
pub refused_power_up : (m : List ℕ) (r : Refusal)
    → number r ≡ power_up_refusal (length m) → power_up m ≡ record { answer = state_answer (Err (record { refusal = r; state = blank })); memory = m }
unfolding power_up state_answer
refused_power_up m r e = rw (← e, ne_eqb (number r) 0 (never_0 r))
