-- The examples of answers hold: the kernel computes the table from the definitions.
use Rattle.machine.specs.Cases.{every}
use Rattle.machine.specs.Told.{table, AnswersHold}

pub answers_hold : AnswersHold
unfolding every table
answers_hold = tt
