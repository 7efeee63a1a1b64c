-- A run that has ended, from what the code says of it.
use Rattle.std.specs.Prelude.{ℕ, List}
use Rattle.machine.specs.State.{at}
use Rattle.machine.specs.declared.Ran.{Ran as Did}
use Rattle.machine.specs.Run.{Ran}

-- a run that did this and left this memory
abbrev pub ended : Did → List ℕ → Ran
ended r m = record { machine = at r.state m; steps = r.steps; unassigned = r.unassigned; last = r.last }
