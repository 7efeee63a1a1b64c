-- `Found::differ` meets its contract: the byte goes on with the run that has not ended, or begins one.
use Rattle.std.proofs.Common.{refl, arith}
use Rattle.differing_runs.proofs.Laws.{differing}
use Rattle.differing_runs.proofs.Found.differ.Goals as goal

pub returns-clause-holds : goal.returns-clause-holds
returns-clause-holds c = λ seen l h. rw c.put_run.ensures (differing seen c.args.self.now _ h _ _ (omega arith) refl refl)
