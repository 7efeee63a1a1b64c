-- The kernel computes each.
use mathlib.Core.Path.{refl}
use Rattle.differing_runs.specs.Runs.{differences, extent, runs_from, numbers}
use Rattle.differing_runs_claims.specs.Examples.{Examples}

pub examples_hold : Examples
unfolding differences extent runs_from numbers
examples_hold = record { none = refl; all = refl; first = refl; last = refl; both_ends = refl; longer = refl }
