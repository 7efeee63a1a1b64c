-- The marked cases hold: the kernel computes the table from the definitions.
use Rattle.machine.specs.Cases.{every}
use Rattle.machine.specs.Marked.{table, MarkedCasesHold}

pub marked_cases_hold : MarkedCasesHold
unfolding every table
marked_cases_hold = tt
