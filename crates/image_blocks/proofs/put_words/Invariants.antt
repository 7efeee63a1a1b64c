use Rattle.std.proofs.Common.{◌≡◌, take}
use Rattle.image_blocks.specs.Blocks.{put_words}
use Rattle.image_blocks.proofs.put_words.Given as goal

abbrev pub invariant-loop-n : goal.invariant-loop-n
invariant-loop-n l = l.block ≡ put_words l.initial.block 0 (take l.n l.words)
