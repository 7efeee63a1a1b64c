-- A run of steps, power up, and when the two calls refuse.
use Rattle.std.specs.Prelude.{◌≡◌, ℕ, zero, suc, ◌+◌, true, false, not, List, [], ◌∷◌, length, ◌==◌, nat_lt, if◌then◌else◌, Result, Ok, Err}
use Rattle.memory.specs.Memory.{size}
use Rattle.machine.specs.declared.State.{State}
use Rattle.machine.specs.declared.Ran.{Ran as Did}
use Rattle.machine.specs.declared.Refused.{Refused}
use Rattle.refusals.specs.Refusals as Refusals
use Rattle.machine.specs.State.{Machine, blank, well_formed}
use Rattle.machine.specs.Perform.{perform}
use Rattle.machine.specs.declared.StepAnswer.{StepAnswer}
use Rattle.machine.specs.declared.StepAnswer.TheVariants.{Nothing}
use Rattle.machine.specs.declared.Signal.TheVariants.{Reset as reset}
use Rattle.machine.specs.Step.{step, boundary}
use Rattle.machine.specs.Answer.{answer, missed, latest}

-- a machine, the steps done, how many of them met an unassigned word, and the answer of the last (Q-6)
pub record Ran : Type 0 where
  pub machine : Machine
  pub steps : ℕ
  pub unassigned : ℕ
  pub last : StepAnswer

abbrev pub at_once : Machine → Ran
at_once m = record { machine = m; steps = 0; unassigned = 0; last = Nothing }

-- a step with this answer, and then a run
abbrev pub one_more : StepAnswer → Ran → Ran
one_more a r =
    record {
      machine = r.machine;
      steps = suc r.steps;
      unassigned = missed a + r.unassigned;
      last = latest a r.last;
    }

-- n steps at most, each with the next record; none is begun at the stop address.
unfoldable pub runs : ℕ → ℕ → List ℕ → Machine → Ran
runs stop zero rs m = at_once m
runs stop (suc n) [] m = at_once m
runs stop (suc n) (r ∷ rs) m =
    elim (m.state.pc == stop) [
      | true ↦ at_once m
      | false ↦ one_more (answer r m) (runs stop n rs (step r m).machine)
    ]

-- The run's refusals in the order checked: memory's size, the state, more steps than records. The arguments are the memory's
-- length, the state, the number of records and the steps asked.
unfoldable pub run_refusal : ℕ → State → ℕ → ℕ → ℕ
run_refusal bytes s records steps =
    if not (bytes == size) then 1
    else if not (well_formed s) then 2
    else if nat_lt records steps then 3
    else 0

-- A run's answer: the number of document 01's table, the state, the steps done, how many of them met an unassigned word, and what the
-- last of them answered.
pub record RunAnswer : Type 0 where
  pub number : ℕ
  pub state : State
  pub steps : ℕ
  pub unassigned : ℕ
  pub last : StepAnswer

-- no step done, as the code says it
abbrev pub no_step : State → Did
no_step s = record { state = s; steps = 0; unassigned = 0; last = Nothing }

-- the answer that an outcome of `run` is: 0 and what it did, or the refusal's number and state, with no steps
unfoldable pub run_answer : Result Did Refused → RunAnswer
run_answer (Ok r) = record { number = 0; state = r.state; steps = r.steps; unassigned = r.unassigned; last = r.last }
run_answer (Err r) =
    record { number = Refusals.number r.refusal; state = r.state; steps = 0; unassigned = 0; last = Nothing }

-- the answer and the memory after the call
pub record RunResult : Type 0 where
  pub answer : RunAnswer
  pub memory : List ℕ

-- a refusal returns the state as given, with no steps and nothing as the last, and stores nothing
abbrev pub refused : ℕ → State → List ℕ → RunResult
refused number s m =
    record { answer = record { number = number; state = s; steps = 0; unassigned = 0; last = Nothing }; memory = m }

unfoldable pub run : List ℕ → State → List ℕ → ℕ → ℕ → RunResult
run m s records steps stop =
    if refusal == 0 then accepted else refused refusal s m
  where
    refusal : ℕ
    refusal = run_refusal (length m) s (length records) steps

    done : Ran
    done = runs stop steps records (record { state = s; memory = m })

    accepted : RunResult
    accepted =
        record {
          answer = record {
            number = 0;
            state = done.machine.state;
            steps = done.steps;
            unassigned = done.unassigned;
            last = done.last;
          };
          memory = done.machine.memory;
        }

-- What a call of run promises: its answer and the memory after it are these.
abbrev pub Promised : List ℕ → State → List ℕ → ℕ → ℕ → RunAnswer → List ℕ → Type 0
Promised m s records steps stop answer after =
    record { answer = answer; memory = after } ≡ run m s records steps stop

-- Power up refuses a memory of another size, with the blank state.
unfoldable pub power_up_refusal : ℕ → ℕ
power_up_refusal bytes = if not (bytes == size) then 1 else 0

-- an answer of a number and a state
pub record StateAnswer : Type 0 where
  pub number : ℕ
  pub state : State

-- the answer that an outcome of `power_up` is: 0 and the state, or the refusal's number and state
unfoldable pub state_answer : Result State Refused → StateAnswer
state_answer (Ok s) = record { number = 0; state = s }
state_answer (Err r) = record { number = Refusals.number r.refusal; state = r.state }

pub record StateResult : Type 0 where
  pub answer : StateAnswer
  pub memory : List ℕ

-- Power up is the reset entry taken by the blank state; the entry itself sets no-sample.
unfoldable pub power_up : List ℕ → StateResult
power_up m = if refusal == 0 then accepted else blank_again
  where
    refusal : ℕ
    refusal = power_up_refusal (length m)

    entered : Machine
    entered = (perform 0 (boundary reset) (record { state = blank; memory = m })).machine

    accepted : StateResult
    accepted = record { answer = record { number = 0; state = entered.state }; memory = entered.memory }

    blank_again : StateResult
    blank_again = record { answer = record { number = refusal; state = blank }; memory = m }
