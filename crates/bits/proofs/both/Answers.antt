-- `bits::both` meets its contract: the conjunction of the words' binary digits is the definition's.
use mathlib.Core.Path.{sym}
use Rattle.bits.specs.Logic.{both}
use Rattle.bits.proofs.Joined.{both_is}
use Rattle.bits.proofs.both.Goals as goal

pub returns : goal.returns
unfolding both
returns c = sym (both_is 16 c.args.a c.args.b c.ranges.a.fits c.ranges.b.fits)
