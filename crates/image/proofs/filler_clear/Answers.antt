-- `filler_clear` meets its contract: the filler lies in two parts of the image.
use mathlib.Core.Path.{◌≡◌, ap, ◌∙◌}
use mathlib.Core.Bool.{◌&&◌}
use mathlib.Core.List.{List}
use Prim.Native.Nat.{ℕ, ◌+◌, ◌-◌, ◌*◌}
use native.Mathlib.Omega.{arith}
use Rattle.image_blocks.specs.Image.{image_size, fields_in, filler_of, zeros}
use Rattle.image_blocks.proofs.Parts.{fields_most, filler_lies, zeros_append}
use lib.ListN.{length, take, drop}
use Rattle.image.proofs.filler_clear.Goals as goal

-- both parts, the first from where the edition's fields end
parts :
    (img : List ℕ) (from : ℕ) → length img ≡ image_size → from ≡ 2 * fields_in img + 2
    → zeros (filler_of img) ≡ (zeros (take (510 - from) (drop from img)) && zeros (take 380 (drop 17026 img)))
parts img from h e =
    ap zeros (filler_lies img h)
    ∙ zeros_append (take (508 - 2 * fields_in img) (drop (2 + 2 * fields_in img) img)) (take 380 (drop 17026 img))
    ∙ rw (let e : 508 - 2 * fields_in img ≡ 510 - from = omega arith in e, let e : 2 + 2 * fields_in img ≡ from = omega arith in e)

pub returns-else-zeros : goal.returns-else-zeros
returns-else-zeros c =
    let img = c.args.image.now in
    let from : ℕ = c.rest-rest.result in
    let front : c.zeros.result ≡ zeros (take (510 - from) (drop from img)) = c.zeros.ensures in
    rw (parts img from (omega arith) c.rest-rest.ensures, ← front, c.if-zeros.false)

pub returns-then-zeros : goal.returns-then-zeros
returns-then-zeros c =
    let img = c.args.image.now in
    let from : ℕ = c.rest-rest.result in
    let front : c.zeros.result ≡ zeros (take (510 - from) (drop from img)) = c.zeros.ensures in
    rw (parts img from (omega arith) c.rest-rest.ensures, ← front, c.if-zeros.true) c.zeros-then-zeros.ensures

-- the fields of either edition end before the check word
pub slice_bounds-zeros-count : goal.slice_bounds-zeros-count
slice_bounds-zeros-count c = omega (arith, fields_most c.args.image.now)

pub slice_bounds-zeros-start : goal.slice_bounds-zeros-start
slice_bounds-zeros-start c = omega (arith, fields_most c.args.image.now)
