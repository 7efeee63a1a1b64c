-- The examples of the read register hold: the kernel computes the table from the definitions.
use Rattle.machine.specs.Cases.{every}
use Rattle.machine.specs.Selected.{table, SelectionsHold}

pub selections_hold : SelectionsHold
unfolding every table
selections_hold = tt
