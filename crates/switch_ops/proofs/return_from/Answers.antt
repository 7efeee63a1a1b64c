-- The three registers are read, and then loaded, in this order.
use Rattle.machine.proofs.Bind.{in_turn}
use Rattle.machine.specs.Groups.{return}
use native.Mathlib.Omega.{arith}
use Rattle.switch_ops.proofs.return_from.Goals as goal

pub returns : goal.returns
unfolding return
returns c = grind (arith, in_turn)
