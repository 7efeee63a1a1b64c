-- `alu::sums::sum_overflows` meets its contract: the raised numbers tell it, and they are small.
use Rattle.std.proofs.Common.{arith}
use Rattle.alu.proofs.Laws.{modulus_bounds, raised_below}
use Rattle.alu.proofs.Raised.{raised_sum}
use Rattle.alu.proofs.sums.sum_overflows.Goals as goal

pub overflow_add-total : goal.overflow_add-total
overflow_add-total c =
    let a = c.args in
    omega (arith, raised_below a.width a.a, raised_below a.width a.b, c.raised.ensures, c.raised-2.ensures)

pub overflow_add-result : goal.overflow_add-result
overflow_add-result c = omega (arith, modulus_bounds c.args.width, c.modulus-all.ensures)

pub returns : goal.returns
returns c = rw (raised_sum _ _ _, c.raised-2.ensures, c.raised.ensures, c.modulus-all.ensures)
