-- `alu::shifts::shifted` meets its contract: an amount is 1 to 16, and the parts are put together as the definition does.
use Rattle.std.proofs.Common.{arith}
use Rattle.alu.specs.Shifts.{shifted}
use Rattle.alu.proofs.Shifting.{amount_bounds}
use Rattle.alu.proofs.shifts.shifted.Goals as goal

pub shift_value-value-requires : goal.shift_value-value-requires
shift_value-value-requires c = omega (arith, c.amount-k.ensures, amount_bounds c.args.n)

pub shift_overflow-judged-requires : goal.shift_overflow-judged-requires
shift_overflow-judged-requires c = omega (arith, c.amount-k.ensures, amount_bounds c.args.n)

pub shift_carry-requires : goal.shift_carry-requires
shift_carry-requires c = omega (arith, c.amount-k.ensures, amount_bounds c.args.n)

pub returns : goal.returns
unfolding shifted
returns c = rw (c.put.ensures, c.shift_carry.ensures, c.shift_overflow-judged.ensures, c.compared-compared.ensures, c.shift_value-value.ensures, c.amount-k.ensures)
