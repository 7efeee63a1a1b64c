-- `check_blocks` meets its contract: the blocks before `i` are in order, so the first fault is that of the blocks from `i` on.
use Rattle.std.specs.Prelude.{if◌then◌else◌}
use Rattle.std.proofs.Common.{◌≡◌, Err, rules, ℕ, suc, ◌+◌, ◌-◌, ◌<◌, List, eqb, sym, ◌∙◌, eq-eqb, ne_eqb, arith}
use Rattle.refusals.specs.declared.Refusal.{Refusal}
use Rattle.refusals.specs.Refusals.{number, block, number_of, block_of}
use Rattle.image_blocks.specs.Image.{block_fault}
use Rattle.image.specs.Calls.{first_fault}
use Rattle.refusals.proofs.Laws.{never_0}
use Rattle.image.proofs.check_blocks.Goals as goal

-- one block more is judged
next :
    (img : List ℕ) (i : ℕ) → i < 34
    → first_fault img (34 - i) i
    ≡ (if eqb (block_fault img i) 0 then first_fault img (34 - (i + 1)) (i + 1) else record { number = block_fault img i; block = i })
unfolding first_fault
next img i h = rw (let e : 34 - i ≡ suc (34 - (i + 1)) = omega arith in e)

pub returns-in_err-check_block : goal.returns-in_err-check_block
unfolding number_of block_of number block
returns-in_err-check_block c =
    let img = c.args.image.now in
    let i = c.loop-i.i in
    let e : Refusal = c.in_err-check_block.field-0.0 in
    let found = c.in_err-check_block.ensures in
    let same : c.from_residual.result ≡ Err e = search rules in
    let some : block_fault img i ≡ 0 → ⊥ = λ z. never_0 e (found.number ∙ z) in
    let first : first_fault img 34 0 ≡ record { number = block_fault img i; block = i } =
    c.loop-i.invariant ∙ next img i (omega arith) ∙ rw (ne_eqb (block_fault img i) 0 some) in
    rw (same, first, found.number, found.block)

pub loop-i-preserved : goal.loop-i-preserved
unfolding number_of block_of
loop-i-preserved c =
    let img = c.args.image.now in
    let i = c.loop-i.i in
    let none : block_fault img i ≡ 0 = sym c.in_ok-check_block.ensures.number in
    c.loop-i.invariant ∙ next img i (omega arith) ∙ rw (eq-eqb (block_fault img i) 0 none)

pub returns : goal.returns
unfolding first_fault number_of block_of
returns c = sym (c.loop-i.invariant ∙ rw (let e : 34 - c.loop-i.i ≡ 0 = omega arith in e))
