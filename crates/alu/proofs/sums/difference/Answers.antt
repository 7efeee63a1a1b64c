-- `alu::sums::difference` meets its contract: the wrapped difference reduced to the width is the definition's, and carry and overflow
-- are those of the definition.
use Rattle.std.proofs.Common.{◌+◌, ◌-◌, refl}
use Rattle.alu.specs.Sums.{difference}
use Rattle.alu.proofs.Laws.{reduced_twice}
use Rattle.alu.proofs.sums.difference.Goals as goal

pub returns : goal.returns
unfolding difference
returns c =
    let a = c.args in
    rw (
      c.carried.ensures,
      c.difference_overflows.ensures,
      c.judged-judged.ensures,
      c.reduced-value.ensures,
      reduced_twice a.width (a.d + (65536 - a.s)),
    ) refl
