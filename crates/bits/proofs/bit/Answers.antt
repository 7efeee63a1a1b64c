-- `bits::bit` meets its contract: below 32 the code is the definition; from 32 on, no power fits under a 32-bit number.
use native.Mathlib.Nat.{div-eq_of_lt, lt_of_lt_of_le}
use lib.Pow.{pow_mono}
use borrow.Author.Rules.{rules}
use Rattle.bits.specs.Bits.{bit}
use Rattle.bits.proofs.bit.Goals as goal

pub returns-then-n-lt32 : goal.returns-then-n-lt32
unfolding bit
returns-then-n-lt32 c = search rules

pub returns-else-n-lt32 : goal.returns-else-n-lt32
unfolding bit
returns-else-n-lt32 c = rw (div-eq_of_lt (lt_of_lt_of_le c.ranges.w.fits (pow_mono c.if-n-lt32.false)))
