use Prim.Native.Nat.{◌-◌, ◌≤◌}
use mathlib.Core.Path.{◌≡◌}
use lib.ListN.{length, drop}
use Rattle.machine.specs.State.{at}
use Rattle.machine.specs.Run.{runs}
use Rattle.run_rules.proofs.Laws.{both}
use Rattle.replay_core.specs.Runs.{ended}
use Rattle.replay_core.proofs.run.run_steps.Given as goal

abbrev pub invariant-loop-record : goal.invariant-loop-record
invariant-loop-record l =
    (l.ran.steps ≡ l.record-index)
    × (l.ran.unassigned ≤ l.record-index)
    × (runs l.stop (length l.records) l.records (at l.initial.ran.state l.initial.memory)
    ≡ both (ended l.ran l.memory) (runs l.stop (length l.records - l.record-index) (drop l.record-index l.records) (at l.ran.state l.memory)))
