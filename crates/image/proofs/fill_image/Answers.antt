-- `fill_image` meets its contract: the buffer holds the image's first `i` blocks.
use Prim.Native.Nat.{ℕ, ◌+◌, ◌-◌, ◌*◌}
use mathlib.Core.Path.{◌≡◌, refl, sym, ◌∙◌}
use mathlib.Core.List.{List, append-nil}
use native.Mathlib.Omega.{arith}
use lib.ListN.{length, take, drop, drop_of_length-le}
use lib.Seq.{take_all}
use Rattle.image_blocks.specs.Image as Image
use Rattle.image_blocks.specs.Image.{image_size}
use Rattle.image_blocks.proofs.Lists.{grown}
use Rattle.image_blocks.proofs.Written.{image_block, image_length}
use Rattle.image.proofs.fill_image.Goals as goal

pub loop-i-init : goal.loop-i-init
loop-i-init c = refl

pub loop-i-preserved : goal.loop-i-preserved
loop-i-preserved c =
    let a = c.args in
    let i : ℕ = c.loop-i.i in
    let all : List ℕ = Image.image a.state a.lent.now in
    let part : c.block-block.result ≡ take (512 * i + 512 - 512 * i) (drop (512 * i) all) =
    c.block-block.ensures
    ∙ rw (let e : 512 * i + 512 - 512 * i ≡ 512 = omega arith in e) (sym (image_block a.state a.lent.now i (omega arith))) in
    let same : length all ≡ length a.image.now = omega (arith, image_length a.state a.lent.now) in
    let copied = grown all a.image.now c.loop-i.image _ _ (512 * i) (512 * i + 512) same (omega arith) (omega arith) c.loop-i.invariant part c.copy_from_slice.ensures.after in
    rw (let e : 512 * (i + 1) ≡ 512 * i + 512 = omega arith in e) copied

pub returns : goal.returns
returns c =
    let a = c.args in
    let all : List ℕ = Image.image a.state a.lent.now in
    let long = image_length a.state a.lent.now in
    c.loop-i.invariant
    ∙ rw (
      let e : 512 * c.loop-i.i ≡ 17408 = omega arith in e,
      take_all 17408 all (omega arith),
      drop_of_length-le a.image.now {i = 17408} (omega arith),
    ) (append-nil all)
