-- `zeros` meets its contract: all bytes are 0 if no bit is set in any.
use Rattle.std.proofs.Common.{◌≡◌, fold, bit_or, eqb, ap, ◌∙◌, rules}
use Rattle.image_blocks.proofs.JoinedBits.{joined_bits}
use Rattle.image_blocks.proofs.zeros.Goals as goal

pub returns : goal.returns
returns c =
    let p = c.args.part.now in
    let e : c.fold.result ≡ fold bit_or 0 p = search rules in
    ap (λ n. eqb n 0) e ∙ joined_bits p 0
