-- `bits::put` meets its contract: no shift loses a one, so the code is the law of putting by weight, and what was put fits.
use native.Mathlib.Omega.{arith}
use native.Mathlib.Nat.{one-mul, mod-eq_of_lt}
use lib.Bits.{and_le_l}
use lib.Pow.{pow-lt, shl_exact}
use Rattle.bits.proofs.Laws.{one_if_byte, one_if_below, put_by_weight, put_fits}
use Rattle.bits.proofs.put.Goals as goal

pub returns : goal.returns
returns c =
    let one = mod-eq_of_lt (pow-lt {i = c.args.n} {j = 16} c.requires) in
    let new = shl_exact 1 c.args.n 16 (one_if_below c.args.on) (omega arith) in
    simp (one-mul, one, one_if_byte, new) (omega (arith, put_by_weight c.args.n c.args.on c.args.w))

pub overflow_add-result : goal.overflow_add-result
overflow_add-result c = rw (returns c) (record { fits = put_fits 16 c.args.n c.args.on c.args.w c.requires c.ranges.w.fits })

pub overflow_sub-result : goal.overflow_sub-result
overflow_sub-result c = and_le_l c.args.w _
