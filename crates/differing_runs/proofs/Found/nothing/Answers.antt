-- `Found::nothing` meets its contract: no byte has no run.
use Rattle.std.proofs.Common.{[], refl}
use Rattle.differing_runs.specs.Runs.{runs_from}
use Rattle.differing_runs.specs.Scan.{closed}
use Rattle.differing_runs.proofs.Found.nothing.Goals as goal

pub returns-clause-holds : goal.returns-clause-holds
unfolding runs_from closed
returns-clause-holds c = record { earlier = []; ends = refl; parts = refl; counted = refl; written = refl }
