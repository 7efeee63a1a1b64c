-- One access of a microprogram: the store at the register's address.
use Rattle.machine.specs.Micro as Micro
use Rattle.machine.specs.Perform.{perform}
use Rattle.machine.specs.Operands.{set_register}
use Rattle.machine.proofs.State.set_register.Goals as goal

pub returns : goal.returns
unfolding perform Micro.registers Micro.store set_register
returns c v = rw (← c.register_at.ensures) (c.store.ensures v)
