-- Computed by the kernel.
use mathlib.Core.Path.{refl}
use Rattle.listing_claims.specs.Examples.{every, round_holds, texts, names, more_names, kinds, lines, isa, ExamplesHold, RoundTheEnd, LongestLine}

pub examples_hold : ExamplesHold
unfolding every
examples_hold = tt

pub round_the_end : RoundTheEnd
unfolding round_holds
round_the_end = tt

pub longest_line : LongestLine
unfolding texts names more_names kinds lines isa
longest_line = refl
