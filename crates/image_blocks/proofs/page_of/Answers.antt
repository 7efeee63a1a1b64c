-- `page_of` meets its contract.
use Rattle.std.proofs.Common.{arith}
use Rattle.image_blocks.proofs.Parts.{page_lies}
use Rattle.image_blocks.proofs.page_of.Goals as goal

pub returns-clause-value : goal.returns-clause-value
returns-clause-value c = page_lies c.args.image.now c.args.i _ (omega arith) (omega arith) (omega arith)
