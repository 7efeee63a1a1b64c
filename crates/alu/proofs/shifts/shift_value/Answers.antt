-- `alu::shifts::shift_value` meets its contract: what is shifted down and what is put above it share no bit, so their sum fits a word.
use Rattle.std.proofs.Common.{◌≡◌, ◌-◌, ◌*◌, ◌%◌, ◌^◌, arith, pow_pos}
use lib.Bits.{bit_and, and_mask}
use Rattle.alu.specs.Shifts.{shift_value}
use Rattle.alu.proofs.Shifting.{room}
use Rattle.alu.proofs.shifts.shift_value.Goals as goal

-- what SRC puts above: the low bits, moved up
turned : (c : goal.After-weight-in-Src-2)
    → bit_and c.args.v (c.weight-in-Src.result - 1) * c.weight-in-Src-2.result
    ≡ c.args.v % 2 ^ c.args.k * 2 ^ (16 - c.args.k)
turned c = rw (c.weight-in-Src.ensures, c.weight-in-Src-2.ensures, and_mask c.args.v c.args.k)

pub overflow_sub-result : goal.overflow_sub-result
overflow_sub-result c = omega (arith, c.weight.ensures, room c.args.v c.args.k c.ranges.v.fits c.requires)

pub overflow_add-result : goal.overflow_add-result
overflow_add-result c = omega (arith, c.weight.ensures, room c.args.v c.args.k c.ranges.v.fits c.requires)

pub overflow_cast-result-then-bit : goal.overflow_cast-result-then-bit
overflow_cast-result-then-bit c = omega (arith, c.weight.ensures, room c.args.v c.args.k c.ranges.v.fits c.requires)

pub overflow_cast-result-else-bit : goal.overflow_cast-result-else-bit
overflow_cast-result-else-bit c = omega (arith, room c.args.v c.args.k c.ranges.v.fits c.requires)

pub overflow_cast-result-in-Srl : goal.overflow_cast-result-in-Srl
overflow_cast-result-in-Srl c = omega (arith, room c.args.v c.args.k c.ranges.v.fits c.requires)

pub overflow_sub-result-in-Src : goal.overflow_sub-result-in-Src
overflow_sub-result-in-Src c = omega (arith, c.weight-in-Src.ensures, pow_pos c.args.k)

pub overflow_mul-result : goal.overflow_mul-result
overflow_mul-result c = rw (turned c) (omega (arith, room c.args.v c.args.k c.ranges.v.fits c.requires))

pub overflow_add-result-in-Src : goal.overflow_add-result-in-Src
overflow_add-result-in-Src c = rw (turned c) (omega (arith, room c.args.v c.args.k c.ranges.v.fits c.requires))

pub overflow_cast-result-in-Src : goal.overflow_cast-result-in-Src
overflow_cast-result-in-Src c = rw (turned c) (omega (arith, room c.args.v c.args.k c.ranges.v.fits c.requires))

pub returns-in-Sla : goal.returns-in-Sla
unfolding shift_value
returns-in-Sla c = rw c.in-Sla.is (omega arith)

pub returns-then-bit : goal.returns-then-bit
unfolding shift_value
returns-then-bit c = rw (c.in-Sra.is, ← c.bit.ensures, c.if-bit.true, c.weight.ensures)

pub returns-else-bit : goal.returns-else-bit
unfolding shift_value
returns-else-bit c = rw (c.in-Sra.is, ← c.bit.ensures, c.if-bit.false) (omega arith)

pub returns-in-Srl : goal.returns-in-Srl
unfolding shift_value
returns-in-Srl c = rw c.in-Srl.is

pub returns-in-Src : goal.returns-in-Src
unfolding shift_value
returns-in-Src c = rw (c.in-Src.is, turned c)
