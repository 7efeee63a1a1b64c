use Rattle.std.proofs.Common.{◌≡◌, ◌-◌}
use Rattle.image.specs.Calls.{first_fault}
use Rattle.image.proofs.check_blocks.Given as goal

abbrev pub invariant-loop-i : goal.invariant-loop-i
invariant-loop-i l = first_fault l.image 34 0 ≡ first_fault l.image (34 - l.i) l.i
