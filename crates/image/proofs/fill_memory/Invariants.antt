use Rattle.std.proofs.Common.{◌≡◌, ◌*◌, min, ◌++◌, take, drop}
use Rattle.image_blocks.specs.Image.{memory_of}
use Rattle.image.proofs.fill_memory.Given as goal

abbrev pub invariant-loop-i : goal.invariant-loop-i
invariant-loop-i l =
    l.lent ≡ take (min (508 * l.i) 16384) (memory_of l.image) ++ drop (min (508 * l.i) 16384) l.initial.lent
