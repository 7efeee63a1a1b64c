-- Laws of the run's definition that the code's proofs and the claims share: its clauses, cases of tables, and one run after another.
use Rattle.std.specs.Prelude.{if◌then◌else◌}
use Prim.Native.Nat.{ℕ, zero, suc, ◌+◌, ◌≤◌}
use mathlib.Core.Path.{◌≡◌, refl}
use mathlib.Core.Bool.{Bool, true, false, not}
use mathlib.Core.List.{List, [], ◌∷◌}
use native.Mathlib.Omega.{arith}
use native.Mathlib.Nat.{zero-add, suc-add, add_assoc}
use lib.Dec.{eqb, ltb}
use borrow.Author.Tests.{eqb-true, ltb-false}
use Rattle.memory.specs.Memory.{size}
use Rattle.machine.specs.declared.State.{State}
use Rattle.machine.specs.declared.Deed.TheVariants as deed
use Rattle.machine.specs.declared.StepAnswer.{StepAnswer}
use Rattle.machine.specs.declared.StepAnswer.TheVariants.{Nothing, Reset, Load, Level, Instruction, Idle, Unassigned}
use Rattle.machine.specs.State.{Machine, well_formed}
use Rattle.machine.specs.Step.{Kind, was_reset, was_load, was_idle, was_level, ran, step}
use Rattle.machine.specs.Answer.{told_word, told, as_told, answer, missed, latest}
use Rattle.machine.specs.Run.{Ran, at_once, one_more, runs, run_refusal}

-- a step meets at most one unassigned word
pub missed_at_most : (a : StepAnswer) → missed a ≤ 1
unfolding missed
missed_at_most Nothing = omega arith
missed_at_most Reset = omega arith
missed_at_most Load = omega arith
missed_at_most (Level k) = omega arith
missed_at_most Instruction = omega arith
missed_at_most Idle = omega arith
missed_at_most (Unassigned pc) = omega arith

-- the latest of answers: nothing before them does not matter, nor how they are grouped
latest_nothing : (a : StepAnswer) → latest Nothing a ≡ a
unfolding latest
latest_nothing Nothing = refl
latest_nothing Reset = refl
latest_nothing Load = refl
latest_nothing (Level k) = refl
latest_nothing Instruction = refl
latest_nothing Idle = refl
latest_nothing (Unassigned pc) = refl

latest_assoc : (a b c : StepAnswer) → latest (latest a b) c ≡ latest a (latest b c)
unfolding latest
latest_assoc a b Nothing = refl
latest_assoc a b Reset = refl
latest_assoc a b Load = refl
latest_assoc a b (Level k) = refl
latest_assoc a b Instruction = refl
latest_assoc a b Idle = refl
latest_assoc a b (Unassigned pc) = refl

-- a step that was done always answers something, so it is the latest
latest_told : (a : StepAnswer) (pc : ℕ) (k : Kind) → latest a (told pc k) ≡ told pc k
unfolding latest told told_word
latest_told a pc was_reset = refl
latest_told a pc was_load = refl
latest_told a pc was_idle = refl
latest_told a pc (was_level k) = refl
latest_told a pc (ran deed.Ordinary) = refl
latest_told a pc (ran deed.Unassigned) = refl
latest_told a pc (ran deed.Switched) = refl
latest_told a pc (ran deed.Returned) = refl

pub latest_answer : (a : StepAnswer) (word : ℕ) (m : Machine) → latest a (answer word m) ≡ answer word m
unfolding answer as_told
latest_answer a word m = latest_told a m.state.pc (step word m).value

-- a run and then another: counts are summed, the last step is the latest
unfoldable pub both : Ran → Ran → Ran
both x y =
    record {
      machine = y.machine;
      steps = x.steps + y.steps;
      unassigned = x.unassigned + y.unassigned;
      last = latest x.last y.last;
    }

pub both_none : (m : Machine) (y : Ran) → both (at_once m) y ≡ y
unfolding both
both_none m y = rw (latest_nothing) (simp zero-add)

-- a step before two runs is one before the first of them
pub both_more : (a : StepAnswer) (x y : Ran) → both (one_more a x) y ≡ one_more a (both x y)
unfolding both
both_more a x y = rw (add_assoc, suc-add, latest_assoc)

-- a step between two runs, the latest so far, may be counted with the first
pub both_later : (m : Machine) (d u : ℕ) (b a : StepAnswer) (y : Ran) → latest b a ≡ a
    → both (record { machine = m; steps = d; unassigned = u; last = b }) (one_more a y)
    ≡ both (record { machine = m; steps = d + 1; unassigned = u + missed a; last = a }) y
unfolding both
both_later m d u b a y e =
    rw (let more : d + suc y.steps ≡ d + 1 + y.steps = omega arith in more, ← add_assoc u (missed a) y.unassigned, ← latest_assoc b a y.last, e)

-- at the stop address nothing is done, nor where no steps are left
pub stopped : (stop n : ℕ) (rs : List ℕ) (m : Machine) → eqb m.state.pc stop ≡ true → runs stop n rs m ≡ at_once m
unfolding runs
stopped stop zero rs m e = refl
stopped stop (suc n) [] m e = refl
stopped stop (suc n) (r ∷ rs) m e = rw (e, runs)

pub none_left : (stop : ℕ) (rs : List ℕ) (m : Machine) → runs stop zero rs m ≡ at_once m
unfolding runs
none_left stop rs m = refl

-- elsewhere one step is done
pub goes_on : (stop n r : ℕ) (rs : List ℕ) (m : Machine) → eqb m.state.pc stop ≡ false
    → runs stop (suc n) (r ∷ rs) m ≡ one_more (answer r m) (runs stop n rs (step r m).machine)
unfolding runs
goes_on stop n r rs m e = rw (e, runs)

-- no refusal: each test went the other way
passed : (x y z : Bool) → ◌≡◌ {A = ℕ} (if not x then 1 else if not y then 2 else if z then 3 else 0) 0 → (x ≡ true) × (y ≡ true) × (z ≡ false)
passed true true true e = absurd (omega arith)
passed true true false e = (refl, refl, refl)
passed true false z e = absurd (omega arith)
passed false y z e = absurd (omega arith)

-- what an accepted run begins with
pub record Accepted (bytes : ℕ) (s : State) (records steps : ℕ) : Type 0 where
  pub sized : bytes ≡ size
  pub formed : well_formed s ≡ true
  pub enough : steps ≤ records

pub accepted : (bytes : ℕ) (s : State) (records steps : ℕ) → run_refusal bytes s records steps ≡ 0 → Accepted bytes s records steps
unfolding run_refusal
accepted bytes s records steps e =
    let p = passed (eqb bytes size) (well_formed s) (ltb records steps) e in
    record { sized = eqb-true _ _ p.0; formed = p.1; enough = ltb-false _ _ p.2 }
