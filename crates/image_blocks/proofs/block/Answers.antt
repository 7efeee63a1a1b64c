-- `block` meets its contract: number and content are the definition's, and the check word is that of both.
use Rattle.std.proofs.Common.{◌≡◌, suc, ◌-◌, arith}
use Rattle.image_blocks.specs.Image.{block}
use Rattle.image_blocks.proofs.Written.{unchecked_body}
use Rattle.image_blocks.proofs.block.Goals as goal

pub returns-then-i-eq0 : goal.returns-then-i-eq0
unfolding block
returns-then-i-eq0 c =
    let a = c.args in
    rw (c.checked.ensures, c.header.ensures a.lent.now, unchecked_body a.state a.lent.now 0, c.if-i-eq0.true)

pub returns-else-i-eq0 : goal.returns-else-i-eq0
unfolding block
returns-else-i-eq0 c =
    let a = c.args in
    let e : suc (a.i - 1) ≡ a.i = omega (arith, c.if-i-eq0.false) in
    rw (c.checked-else-i-eq0.ensures, c.page.ensures a.state, unchecked_body a.state a.lent.now (suc (a.i - 1)), e)
