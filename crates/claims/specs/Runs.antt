-- Runs in parts, refused runs, and where a run stops.
use Rattle.std.specs.Prelude.{ℕ, ◌+◌, ◌%◌, ◌≤◌, ◌<◌, ◌≡◌, List, length, drop}
use Rattle.machine.specs.declared.State.{State}
use Rattle.machine.specs.declared.StepAnswer.TheVariants.{Nothing}
use Rattle.machine.specs.Answer.{latest}
use Rattle.machine.specs.Run.{RunResult, run_refusal, run, RunAnswer}

-- a first run, and then a second one: counts are summed, and the last step is the second's, or the first's where the second did none
abbrev pub joined : RunAnswer → RunResult → RunResult
joined first second =
    record {
      answer = record {
        number = second.answer.number;
        state = second.answer.state;
        steps = first.steps + second.answer.steps;
        unassigned = first.unassigned + second.answer.unassigned;
        last = latest first.last second.answer.last;
      };
      memory = second.memory;
    }

-- the same where the second run begins with what the first left, on the unused records
abbrev pub followed : RunResult → List ℕ → ℕ → ℕ → RunResult
followed first records b stop =
    joined first.answer (run first.memory first.answer.state (drop first.answer.steps records) b stop)

-- A run may be cut in two: a steps, then b more on the records that are left, with one stop address, come to what a + b steps do,
-- provided that there are records for all.
abbrev pub RunsInParts : Type 0
RunsInParts =
    (m : List ℕ) (s : State) (records : List ℕ) (a b stop : ℕ)
    → a + b ≤ length records
    → run m s records (a + b) stop ≡ followed (run m s records a stop) records b stop

-- A refused run answers the table's number, returns the state as given, reports no steps and nothing as the last, and changes no byte.
abbrev pub RefusedRuns : Type 0
RefusedRuns =
    (m : List ℕ) (s : State) (records : List ℕ) (steps stop : ℕ)
    → (run_refusal (length m) s (length records) steps ≡ 0 → ⊥)
    → run m s records steps stop
    ≡ record {
      answer = record {
        number = run_refusal (length m) s (length records) steps;
        state = s;
        steps = 0;
        unassigned = 0;
        last = Nothing;
      };
      memory = m;
    }

-- A run is accepted exactly if the table names no refusal.
abbrev pub AcceptedExactly : Type 0
AcceptedExactly =
    (m : List ℕ) (s : State) (records : List ℕ) (steps stop : ℕ)
    → (run m s records steps stop).answer.number ≡ run_refusal (length m) s (length records) steps

-- The steps done are at most the steps asked, and those that met an unassigned word at most the steps done.
abbrev pub StepsAtMost : Type 0
StepsAtMost =
    (m : List ℕ) (s : State) (records : List ℕ) (steps stop : ℕ)
    → ((run m s records steps stop).answer.steps ≤ steps)
    × ((run m s records steps stop).answer.unassigned ≤ (run m s records steps stop).answer.steps)

-- The steps done end at the stop address or at the asked number, and no sooner: a run that does fewer steps than asked ends
-- with PC at the stop address, and no shorter run of the same does.
abbrev pub StopsExactly : Type 0
StopsExactly =
    (m : List ℕ) (s : State) (records : List ℕ) (steps stop : ℕ)
    → run_refusal (length m) s (length records) steps ≡ 0
    → ((run m s records steps stop).answer.steps < steps → (run m s records steps stop).answer.state.pc ≡ stop)
    × ((k : ℕ) → k < (run m s records steps stop).answer.steps → (run m s records k stop).answer.state.pc ≡ stop → ⊥)

-- An odd stop address is never met.
abbrev pub OddNeverStops : Type 0
OddNeverStops =
    (m : List ℕ) (s : State) (records : List ℕ) (steps stop : ℕ)
    → run_refusal (length m) s (length records) steps ≡ 0
    → stop % 2 ≡ 1
    → (run m s records steps stop).answer.steps ≡ steps
