-- `checked` meets its contract: the check word goes over the last two bytes.
use Rattle.std.proofs.Common.{◌-◌, sym, arith, length-take-le}
use Rattle.image_blocks.specs.Image.{checked}
use Rattle.image_blocks.proofs.Parts.{put_last}
use Rattle.image_blocks.proofs.checked.Goals as goal

pub slice_bounds-words_sum-end : goal.slice_bounds-words_sum-end
slice_bounds-words_sum-end c = sym (length-take-le _ c.args.block (omega arith))

pub returns : goal.returns
unfolding checked
returns c =
    let block = c.args.block in
    rw (c.put_word.ensures, put_last block (65535 - c.words_sum-sum.result) (omega arith), c.words_sum-sum.ensures)
