-- The code is the definition.
use lib.Bits.{and_le_l}
use Rattle.psi.specs.Quiet.{inactive, quiet}
use Rattle.psi.proofs.Psi.quiet.Goals as goal

pub overflow_sub-inactive : goal.overflow_sub-inactive
overflow_sub-inactive c = and_le_l c.high-high.result _

pub returns : goal.returns
unfolding quiet inactive
returns c = rw c.high-high.ensures
