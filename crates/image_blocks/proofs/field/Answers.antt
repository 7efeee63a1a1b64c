-- `field` meets its contract: block 0's content begins at the image's third byte.
use Rattle.std.proofs.Common.{sym, ◌∙◌, arith}
use Rattle.image_blocks.proofs.Parts.{field_at}
use Rattle.image_blocks.proofs.field.Goals as goal

pub returns : goal.returns
returns c = c.word.ensures ∙ sym (field_at c.args.image.now c.args.n (omega arith))
