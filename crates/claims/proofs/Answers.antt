-- What a word's instruction tells is a table, and X tells what the word that it leads to tells, by induction on the allowance. A step puts
-- this together with what is taken at its boundary. Of a run: by induction on its steps, the last one's answer is handed on.
use Rattle.std.specs.Prelude.{if◌then◌else◌}
use Prim.Native.Nat.{ℕ, zero, suc, ◌≤◌}
use mathlib.Core.Path.{◌≡◌, refl, ap, subst}
use mathlib.Core.Bool.{Bool, true, false}
use mathlib.Core.List.{List, ◌∷◌}
use native.Mathlib.Omega.{arith}
use native.Mathlib.Decide.{ℕ_discrete}
use lib.Dec.{eqb}
use lib.ListN.{length, get_or}
use Rattle.memory.specs.declared.Width.TheVariants.{Word}
use Rattle.memory.specs.Memory.{loaded}
use Rattle.psi.specs.Pins.{parted}
use Rattle.isa.specs.declared.Operand.{Operand}
use Rattle.isa.specs.declared.ControlOp.{ControlOp}
use Rattle.isa.specs.declared.ControlOp.TheVariants as control
use Rattle.isa.specs.declared.Instruction.{Instruction}
use Rattle.isa.specs.declared.Instruction.TheVariants as isa
use Rattle.isa.specs.Isa.{decoded}
use Rattle.machine.specs.declared.State.{State}
use Rattle.machine.specs.declared.Deed.{Deed}
use Rattle.machine.specs.declared.Deed.TheVariants as deed
use Rattle.machine.specs.declared.StepAnswer.{StepAnswer}
use Rattle.machine.specs.declared.StepAnswer.TheVariants.{Nothing, Reset, Load, Level, Instruction as instructed, Idle, Unassigned}
use Rattle.machine.specs.State.{Machine, at}
use Rattle.machine.specs.Micro.{Micro, set, fetched, load}
use Rattle.machine.specs.Perform.{perform}
use Rattle.machine.specs.Execute.{command_deed, instruction, again, execute, allowance}
use Rattle.machine.specs.Step.{Kind, was_reset, was_load, was_idle, was_level, ran, boundary, proceed, step}
use Rattle.machine.specs.Answer.{told_word, told, as_told, answer, latest, number}
use Rattle.machine.specs.Run.{Ran, one_more, runs, run_refusal, RunResult, run}
use Rattle.run_rules.proofs.Laws.{latest_answer, goes_on}
use Rattle.machine.proofs.Bind.{perform_bind, perform_done, perform_registers}
use Rattle.machine.proofs.Needed.{needed}
use Rattle.claims.specs.Interrupts.{at_step}
use Rattle.claims.specs.Words.{found}
use Rattle.claims.specs.Answers.{StepsAnswer, UnassignedTellsThePc, meets_by, meets, executing, IdleSteps, ExecutingSteps, IdleStepsAccess, ExecutingStepsAccess, LastStep, NothingExactly, LastLevelInRange}
use Rattle.claims.proofs.Interrupts.{step_is, step_accesses_are, levels_in_range}
use Rattle.claims.proofs.Runs.{every_run, runs_at_most, result, accepted_runs, refused_runs, fit_accepted, ready}

-- what the answer to an executed word is, by whether it met an unassigned one
abbrev by_meeting : ℕ → Bool → StepAnswer
by_meeting pc b = if b then Unassigned pc else instructed

commands : (pc : ℕ) (o : ControlOp) → told_word pc (command_deed o) ≡ instructed
unfolding told_word
commands pc control.Idle = refl
commands pc control.Rset = refl
commands pc control.Rtwp = refl
commands pc control.Ckon = refl
commands pc control.Ckof = refl
commands pc control.Lrex = refl

module _ (pc v : ℕ) where
  Tells : Micro Deed → Machine → Bool → Type 0
  Tells p m b = told_word pc (perform v p m).value ≡ by_meeting pc b

  by_instruction : (f : Operand → Micro Deed) (g : Operand → Bool) (m : Machine) → ((o : Operand) → Tells (f o) m (g o))
      → (i : Instruction) → Tells (instruction f i) m (meets_by g i)
  unfolding Tells instruction meets_by told_word
  by_instruction f g m h (isa.Dual o s d w) = rw (perform_bind, perform_done)
  by_instruction f g m h (isa.Register o s r) = rw (perform_bind, perform_done)
  by_instruction f g m h (isa.Xop s n) = rw (perform_bind, perform_done)
  by_instruction f g m h (isa.Transfer o s n) = rw (perform_bind, perform_done)
  by_instruction f g m h (isa.Bit o d) = rw (perform_bind, perform_done)
  by_instruction f g m h (isa.Jump o d) = rw (perform_bind, perform_done)
  by_instruction f g m h (isa.Shift o r n) = rw (perform_bind, perform_done)
  by_instruction f g m h (isa.Single o s) = rw (perform_bind, perform_done)
  by_instruction f g m h (isa.Blwp s) = rw (perform_bind, perform_done)
  by_instruction f g m h (isa.X o) = h o
  by_instruction f g m h (isa.Immediate o r) = rw (perform_bind, perform_done)
  by_instruction f g m h (isa.Stwp r) = rw (perform_bind, perform_done)
  by_instruction f g m h (isa.Stst r) = rw (perform_bind, perform_done)
  by_instruction f g m h isa.Lwpi = rw (perform_bind, perform_done)
  by_instruction f g m h isa.Limi = rw (perform_bind, perform_done)
  by_instruction f g m h (isa.Control o) = rw (perform_bind, perform_done) (commands pc o)
  by_instruction f g m h isa.Unassigned = rw (perform_done)

  executes : (k w : ℕ) (m : Machine) → Tells (execute k w) m (meets k v w m)
  unfolding Tells execute again meets load perform told_word
  executes zero w m = by_instruction (again zero) (λ o. true) m (λ o. refl) (decoded w)
  executes (suc k) w m =
      by_instruction (again (suc k)) _ m
      (λ o. rw perform_bind (executes k (found v m o).value (found v m o).machine))
      (decoded w)

-- the step that was done is the latest, so it answers something
pub steps_answer : StepsAnswer
unfolding latest number
steps_answer word m e =
    let one : ◌≡◌ {A = ℕ} 1 0 = ap number (rw e at (latest_answer Reset word m)) in
    absurd (omega arith)

-- the PC that goes with an answer of an unassigned word
BegunAt : ℕ → StepAnswer → Type 0
BegunAt pc Nothing = Unit
BegunAt pc Reset = Unit
BegunAt pc Load = Unit
BegunAt pc (Level k) = Unit
BegunAt pc instructed = Unit
BegunAt pc Idle = Unit
BegunAt pc (Unassigned p) = p ≡ pc

begun_at : (pc : ℕ) (k : Kind) → BegunAt pc (told pc k)
unfolding BegunAt told told_word
begun_at pc was_reset = tt
begun_at pc was_load = tt
begun_at pc was_idle = tt
begun_at pc (was_level k) = tt
begun_at pc (ran deed.Ordinary) = tt
begun_at pc (ran deed.Unassigned) = refl
begun_at pc (ran deed.Switched) = tt
begun_at pc (ran deed.Returned) = tt

pub unassigned_tells_the_pc : UnassignedTellsThePc
unfolding BegunAt answer as_told
unassigned_tells_the_pc word m pc e = subst (BegunAt m.state.pc) e (begun_at m.state.pc (step word m).value)

-- where nothing is taken at the boundary a step goes on
pub idle_steps : IdleSteps
unfolding at_step boundary proceed answer as_told told
idle_steps word m none i = rw (step_is, none, perform_bind, perform_registers, i, perform_done)

pub executing_steps : ExecutingSteps
unfolding at_step boundary proceed answer as_told told Tells fetched set perform
executing_steps word m none i =
    rw (step_is, none, perform_bind, perform_registers, i, perform_bind (parted word).levels, perform_bind (parted word).levels)
    (executes m.state.pc (parted word).levels allowance (loaded Word m.memory m.state.pc) (executing word m))

pub idle_steps_access : IdleStepsAccess
unfolding boundary
idle_steps_access word m none i = rw (step_accesses_are, none) (needed.idle_step _ _ i)

pub executing_steps_access : ExecutingStepsAccess
unfolding boundary
executing_steps_access word m none i = rw (step_accesses_are, none) (needed.executing_step _ _ i)

-- of a run: nothing without a step, and else the answer of its last one
module _ (stop : ℕ) where
  HandsOn : ℕ → List ℕ → Machine → Ran → Type 0
  HandsOn n rs m x =
      (x.steps ≡ 0 → x.last ≡ Nothing)
      × ((k : ℕ) → x.steps ≡ suc k → x.last ≡ answer (get_or rs k 0) (runs stop k rs m).machine)

  hands_on_more : (n r : ℕ) (rs : List ℕ) (m : Machine) (x : Ran) → eqb m.state.pc stop ≡ false
      → HandsOn n rs (step r m).machine x → HandsOn (suc n) (r ∷ rs) m (one_more (answer r m) x)
  unfolding HandsOn latest runs
  hands_on_more n r rs m x e h = (λ z. absurd (omega arith), by_place)
    where
      by_place : (k : ℕ) → suc x.steps ≡ suc k → latest (answer r m) x.last ≡ answer (get_or (r ∷ rs) k 0) (runs stop k (r ∷ rs) m).machine
      by_place zero q = rw (h.0 (omega arith))
      by_place (suc k) q =
          let later = h.1 k (omega arith) in
          rw (goes_on stop k r rs m e, later, latest_answer)

  runs_hand_on : (n : ℕ) (rs : List ℕ) (m : Machine) → HandsOn n rs m (runs stop n rs m)
  unfolding HandsOn
  runs_hand_on = every_run stop HandsOn (λ n rs m o. (λ z. refl, λ k q. absurd (omega arith))) hands_on_more

-- a run is refused, or its steps are the rules'
module _ (m : List ℕ) (s : State) (records : List ℕ) (steps stop : ℕ) where
  Handed : RunResult → Type 0
  Handed r =
      (r.answer.steps ≡ 0 → r.answer.last ≡ Nothing)
      × ((k : ℕ) → r.answer.steps ≡ suc k → r.answer.last ≡ answer (get_or records k 0) (at (run m s records k stop).answer.state (run m s records k stop).memory))

  handed : Handed (run m s records steps stop)
  unfolding Handed HandsOn result
  handed =
      elim (ℕ_discrete (run_refusal (length m) s (length records) steps) 0) [
        | yes e ↦
            let r = ready (at s m) records steps e in
            let d = runs_at_most stop steps records (at s m) in
            rw (accepted_runs m s records steps stop e) (
              (runs_hand_on stop steps records (at s m)).0,
              λ k q. rw (accepted_runs m s records k stop (fit_accepted (at s m) records k r.0 (omega arith)))
                  ((runs_hand_on stop steps records (at s m)).1 k q),
            )
        | no ne ↦ rw (refused_runs m s records steps stop ne) (λ z. refl, λ k q. absurd (omega arith))
      ]

pub last_step : LastStep
unfolding Handed
last_step m s records steps stop = (handed m s records steps stop).1

-- so what holds of no step, and of every step's answer, holds of the steps done and the last answer
every_last :
    (P : ℕ → StepAnswer → Type 0) → P 0 Nothing → ((k word : ℕ) (n : Machine) → P (suc k) (answer word n))
    → (m : List ℕ) (s : State) (records : List ℕ) (steps stop : ℕ)
    → P (run m s records steps stop).answer.steps (run m s records steps stop).answer.last
unfolding Handed
every_last P none some m s records steps stop = by_count (run m s records steps stop).answer.steps refl
  where
    by_count : (c : ℕ) → (run m s records steps stop).answer.steps ≡ c → P (run m s records steps stop).answer.steps (run m s records steps stop).answer.last
    by_count zero e = rw (e, (handed m s records steps stop).0 e) none
    by_count (suc k) e = rw (e, last_step m s records steps stop k e) (some k _ _)

pub nothing_exactly : NothingExactly
unfolding Handed
nothing_exactly m s records steps stop = (
  every_last (λ c a. a ≡ Nothing → c ≡ 0) (λ e. refl) (λ k word n e. absurd (steps_answer word n e)) m s records steps stop,
  (handed m s records steps stop).0,
)

pub last_level_in_range : LastLevelInRange
unfolding number
last_level_in_range m s records steps stop k =
    every_last (λ c a. a ≡ Level k → (1 ≤ k) × (k ≤ 4))
    (λ e.
    let three : ◌≡◌ {A = ℕ} 0 3 = ap number e in
    absurd (omega arith))
    (λ c word n e. levels_in_range word n k e) m s records steps stop
