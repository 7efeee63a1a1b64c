-- One access of a microprogram: the load at the register's address.
use Rattle.machine.specs.Micro as Micro
use Rattle.machine.specs.Perform.{perform}
use Rattle.machine.specs.Operands.{register}
use Rattle.machine.proofs.State.register.Goals as goal

pub returns : goal.returns
unfolding perform Micro.registers Micro.load register
returns c v = rw (← c.register_at.ensures) (c.load.ensures v)
