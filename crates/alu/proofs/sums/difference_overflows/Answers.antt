-- `alu::sums::difference_overflows` meets its contract: the raised numbers tell it, and they are small.
use Rattle.std.proofs.Common.{arith}
use Rattle.alu.proofs.Laws.{modulus_bounds, raised_below}
use Rattle.alu.proofs.Raised.{raised_difference}
use Rattle.alu.proofs.sums.difference_overflows.Goals as goal

pub overflow_add-result : goal.overflow_add-result
overflow_add-result c =
    let a = c.args in
    omega (arith, modulus_bounds a.width, raised_below a.width a.d, c.raised-from.ensures, c.modulus-half.ensures)

pub overflow_add-result-2 : goal.overflow_add-result-2
overflow_add-result-2 c =
    let a = c.args in
    omega (arith, modulus_bounds a.width, raised_below a.width a.s, c.raised-less.ensures, c.modulus-half.ensures)

pub returns : goal.returns
returns c = rw (raised_difference _ _ _, c.raised-less.ensures, c.raised-from.ensures, c.modulus-half.ensures)
