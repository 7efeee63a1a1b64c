use Rattle.std.proofs.Common.{◌≡◌, ◌*◌, min, take}
use Rattle.differing_runs.specs.Runs.{differences}
use Rattle.differing_runs.specs.Scan.{Holds}
use Rattle.image_blocks.specs.Image.{memory_of}
use Rattle.comparison.proofs.runs.Given as goal

abbrev pub invariant-loop-i : goal.invariant-loop-i
invariant-loop-i l =
    (l.found.address ≡ min (508 * l.i) 16384)
    × Holds (differences (take (508 * l.i) (memory_of l.first)) (take (508 * l.i) (memory_of l.second))) l.found l.list
