-- `alu::shifts::sign_changes` meets its contract: the code tests whether the doubled number lies outside the room that is left.
use Rattle.std.proofs.Common.{arith}
use Rattle.alu.proofs.Shifting.{changes_is, room}
use Rattle.alu.proofs.shifts.sign_changes.Goals as goal

pub overflow_sub-result : goal.overflow_sub-result
overflow_sub-result c = omega (arith, c.weight-limit.ensures, room c.args.v c.args.k c.ranges.v.fits c.requires)

pub returns : goal.returns
returns c = rw (changes_is c.args.k c.args.v c.requires c.ranges.v.fits, c.weight-limit.ensures)
