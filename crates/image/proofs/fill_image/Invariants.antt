use Rattle.std.proofs.Common.{◌≡◌, ◌*◌, ◌++◌, take, drop}
use Rattle.image_blocks.specs.Image as Image
use Rattle.image.proofs.fill_image.Given as goal

abbrev pub invariant-loop-i : goal.invariant-loop-i
invariant-loop-i l = l.image ≡ take (512 * l.i) (Image.image l.state l.lent) ++ drop (512 * l.i) l.initial.image
