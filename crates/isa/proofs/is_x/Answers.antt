-- `isa::is_x` meets its contract: the code's test is the one that `x_exactly` has.
use Rattle.std.proofs.Common.{sym}
use Rattle.isa.proofs.Words.{x_exactly}
use Rattle.isa.proofs.is_x.Goals as goal

pub returns : goal.returns
returns c = sym (x_exactly c.args.word)
