-- `Found::agree` meets its contract: all runs have ended.
use Rattle.std.proofs.Common.{refl}
use Rattle.differing_runs.proofs.Laws.{agreeing}
use Rattle.differing_runs.proofs.Found.agree.Goals as goal

pub returns-clause-holds : goal.returns-clause-holds
returns-clause-holds c = λ seen list h. agreeing seen _ list h c.args.count _ c.requires.some (c.runs-self.ensures.value seen list h) refl
