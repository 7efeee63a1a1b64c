-- `bits::either` meets its contract: the disjunction of the words' binary digits is the definition's.
use mathlib.Core.Path.{sym}
use Rattle.bits.specs.Logic.{either}
use Rattle.bits.proofs.Joined.{either_is}
use Rattle.bits.proofs.either.Goals as goal

pub returns : goal.returns
unfolding either
returns c = sym (either_is 16 c.args.a c.args.b c.ranges.a.fits c.ranges.b.fits)
