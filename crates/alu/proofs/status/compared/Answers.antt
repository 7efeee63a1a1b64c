-- `alu::status::compared` meets its contract: the three bits are put as the definition puts them, and the raised numbers have the signed order.
use Rattle.std.proofs.Common.{refl}
use Rattle.alu.specs.Status.{compared}
use Rattle.alu.proofs.Raised.{raised_order}
use Rattle.alu.proofs.status.compared.Goals as goal

pub returns : goal.returns
unfolding compared
returns c = rw (raised_order _ _ _, c.put.ensures, c.put-with_signed.ensures, c.raised-2.ensures, c.raised.ensures, c.put-with_equal.ensures) refl
