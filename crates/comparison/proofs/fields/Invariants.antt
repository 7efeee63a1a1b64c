use Rattle.std.proofs.Common.{◌≡◌, ◌-◌, ◌<◌}
use Rattle.comparison.specs.Compare.{fields_from}
use Rattle.comparison.proofs.fields.Given as goal

abbrev pub invariant-loop-k : goal.invariant-loop-k
invariant-loop-k l = (l.weights < 32768) × (l.weights ≡ fields_from l.first l.second (15 - l.k) l.k)
