-- `fill_memory` meets its contract: the lent bytes are the image's memory as far as the blocks before `i` + 1 carry it.
use Prim.Native.Nat.{ℕ, min, ◌+◌, ◌-◌, ◌*◌}
use mathlib.Core.Path.{◌≡◌, refl, sym, ◌∙◌}
use mathlib.Core.List.{List, append-nil}
use native.Mathlib.Omega.{arith}
use lib.ListN.{length, take, drop, drop_of_length-le, length-drop}
use lib.Seq.{take_all}
use Rattle.image_blocks.specs.Image.{memory_of}
use Rattle.image_blocks.proofs.Lists.{take_there, grown}
use Rattle.image_blocks.proofs.Parts.{memory_length}
use Rattle.image.proofs.fill_memory.Goals as goal

pub loop-i-init : goal.loop-i-init
loop-i-init c = refl

pub loop-i-preserved : goal.loop-i-preserved
loop-i-preserved c =
    let a = c.args in
    let i : ℕ = c.loop-i.i in
    let all : List ℕ = memory_of a.image.now in
    let rest : List ℕ = drop (508 * i) all in
    let to : ℕ = 508 * i + length c.page_of-page.result.now in
    let size = memory_length a.image.now (omega arith) in
    let there : min 508 (length rest) ≡ to - 508 * i = rw (length-drop (508 * i) all) (omega (arith, size, c.page_of-page.ensures.length)) in
    let part : c.page_of-page.result.now ≡ take (to - 508 * i) rest = c.page_of-page.ensures.value ∙ sym (take_there 508 rest) ∙ rw there in
    let same : length all ≡ length a.lent.now = omega (arith, size) in
    let so_far = rw (let e : min (508 * i) 16384 ≡ 508 * i = omega arith in e) at c.loop-i.invariant in
    let copied = grown all a.lent.now c.loop-i.lent _ _ (508 * i) to same (omega arith) (omega (arith, c.page_of-page.ensures.length)) so_far part c.copy_from_slice.ensures.after in
    rw (let e : min (508 * (i + 1)) 16384 ≡ to = omega (arith, c.page_of-page.ensures.length) in e) copied

pub returns : goal.returns
returns c =
    let a = c.args in
    let all : List ℕ = memory_of a.image.now in
    let long = memory_length a.image.now (omega arith) in
    c.loop-i.invariant
    ∙ rw (
      let e : min (508 * c.loop-i.i) 16384 ≡ 16384 = omega arith in e,
      take_all 16384 all (omega arith),
      drop_of_length-le a.lent.now {i = 16384} (omega arith),
    ) (append-nil all)
