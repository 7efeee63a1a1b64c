use Rattle.std.proofs.Common.{◌≡◌, ◌+◌, Bool, List, ◌++◌, length, take}
use Rattle.differing_runs.specs.Runs.{differences}
use Rattle.differing_runs.specs.Scan.{Holds}
use Rattle.differing_runs.proofs.Found.each.Given as goal

abbrev pub invariant-loop-one : goal.invariant-loop-one
invariant-loop-one l =
    (l.found.address ≡ l.initial.found.address + length l.yielded)
    × ((seen : List Bool) → length seen ≡ l.initial.found.address → Holds seen l.initial.found l.initial.list → Holds (seen ++ differences (take (length l.yielded) l.first) (take (length l.yielded) l.second)) l.found l.list)
