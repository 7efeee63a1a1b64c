-- A refusal leaves the array alone, because its number is never 0.
use borrow.Author.Tests.{ne_eqb}
use Rattle.refusals.proofs.Laws.{never_0}
use Rattle.machine.specs.Answer as Answer
use Rattle.machine.specs.Run.{run_answer}
use Rattle.tms_replay.specs.Exported.{run}
use Rattle.tms_replay.proofs.exported.tms_run.Goals as goal

pub returns-in-Err : goal.returns-in-Err
unfolding run run_answer Answer.number Answer.value
returns-in-Err c =
    let refused = ne_eqb _ 0 (never_0 c.in-Err.refused.refusal) in
    rw (← c.state_of.ensures, ← c.run.ensures, c.in-Err.is, c.number-in-Err.ensures, refused)
