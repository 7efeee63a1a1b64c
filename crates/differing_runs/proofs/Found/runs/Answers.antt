-- `Found::runs` meets its contract: the run that has not ended counts too.
use Rattle.differing_runs.proofs.Laws.{all_ended, one_open}
use Rattle.differing_runs.proofs.Found.runs.Goals as goal

pub returns-then-self-eq0-clause-value : goal.returns-then-self-eq0-clause-value
returns-then-self-eq0-clause-value c = λ seen list h. all_ended seen _ list h c.if-self-eq0.true

pub returns-else-self-eq0-clause-value : goal.returns-else-self-eq0-clause-value
returns-else-self-eq0-clause-value c = λ seen list h. one_open seen _ list h c.if-self-eq0.false
