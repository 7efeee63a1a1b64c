-- `check_block` meets its contract: the tests are the definition's, on the block's bytes where they lie in the image.
use Rattle.std.proofs.Common.{◌≡◌, ℕ, ◌+◌, ◌-◌, ◌*◌, ◌%◌, List, take, drop, sym, ◌∙◌, arith}
use Rattle.std.proofs.lemmas.Bool.Decides.{nat_tests}
use Rattle.image_blocks.specs.Image.{block_of, words_sum}
use Rattle.image_blocks.specs.Image.{block_fault}
use Rattle.refusals.specs.Refusals.{number, number_of}
use Rattle.image_blocks.proofs.Parts.{block_word}
use Rattle.image_blocks.proofs.check_block.Goals as goal

-- the sum of a part of 512 bytes is the block's
whole : (img : List ℕ) (i n r : ℕ) → r ≡ words_sum (take n (drop (512 * i) img)) % 65536 → n ≡ 512 → words_sum (block_of img i) % 65536 ≡ r
unfolding block_of
whole img i n r h e = sym (rw e at h)

pub returns-then-sum-clause-number : goal.returns-then-sum-clause-number
unfolding block_fault number_of number
returns-then-sum-clause-number c =
    let sum = whole c.args.image.now c.args.i (512 * c.args.i + 512 - 512 * c.args.i) _ c.words_sum-sum.ensures (omega arith) in
    let number = block_word c.args.image.now c.args.i ∙ sym c.word-number.ensures in
    simp (sum, number) (grind (arith, nat_tests))

pub returns-then-number-i-clause-number : goal.returns-then-number-i-clause-number
unfolding block_fault number_of number
returns-then-number-i-clause-number c =
    let sum = whole c.args.image.now c.args.i (512 * c.args.i + 512 - 512 * c.args.i) _ c.words_sum-sum.ensures (omega arith) in
    let number = block_word c.args.image.now c.args.i ∙ sym c.word-number.ensures in
    simp (sum, number) (grind (arith, nat_tests))

pub returns-clause-number : goal.returns-clause-number
unfolding block_fault number_of number
returns-clause-number c =
    let sum = whole c.args.image.now c.args.i (512 * c.args.i + 512 - 512 * c.args.i) _ c.words_sum-sum.ensures (omega arith) in
    let number = block_word c.args.image.now c.args.i ∙ sym c.word-number.ensures in
    simp (sum, number) (grind (arith, nat_tests))
