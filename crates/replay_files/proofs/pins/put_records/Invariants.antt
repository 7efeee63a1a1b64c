-- The records so far, then what the array held.
use Rattle.std.proofs.Common.{◌≡◌, ◌++◌, take, drop}
use Rattle.replay_files.specs.Pins as Pins
use Rattle.replay_files.proofs.pins.put_records.Given as goal

abbrev pub invariant-loop-i : goal.invariant-loop-i
invariant-loop-i l = l.records ≡ take l.i (Pins.records l.file) ++ drop l.i l.initial.records
