-- `alu::status::raised` meets its contract: each arm is the definition at its width.
use Rattle.alu.specs.Raised.{raised}
use Rattle.alu.proofs.status.raised.Goals as goal

pub returns-in-Byte : goal.returns-in-Byte
unfolding raised
returns-in-Byte c = rw c.in-Byte.is

pub returns-in-Word : goal.returns-in-Word
unfolding raised
returns-in-Word c = rw c.in-Word.is
