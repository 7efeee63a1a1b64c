-- `bits::exclusive` meets its contract: where the words' binary digits differ, just one of the two is a one.
use mathlib.Core.Path.{sym}
use Rattle.bits.specs.Logic.{exclusive}
use Rattle.bits.proofs.Joined.{exclusive_is}
use Rattle.bits.proofs.exclusive.Goals as goal

pub returns : goal.returns
unfolding exclusive
returns c = sym (exclusive_is 16 c.args.a c.args.b c.ranges.a.fits c.ranges.b.fits)
