-- `words_sum` meets its contract: it adds up the pairs of bytes.
use Rattle.std.proofs.Common.{◌≡◌, ◌/◌, length, fold, refl, ◌∙◌, rules, arith}
use Rattle.std.specs.Simd.{first_chunks}
use Rattle.image_blocks.proofs.Words.{added, folded}
use Rattle.image_blocks.proofs.words_sum.Goals as goal

pub returns : goal.returns
returns c =
    let p = c.args.part.now in
    let e : c.fold.result ≡ fold added 0 (first_chunks 2 (length p / 2) p) = search rules in
    omega (arith, e ∙ folded p (length p / 2) 0 refl (omega arith))
