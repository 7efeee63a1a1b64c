-- `read_image` meets its contract: a refusal gives back what it was given, and an accepted image its state and its memory.
use Rattle.std.proofs.Common.{◌≡◌, Ok, Err, rules, length}
use Rattle.refusals.specs.declared.Refusal.{Refusal}
use Rattle.refusals.specs.declared.Refusal.TheVariants.{MemorySize}
use Rattle.refusals.specs.Refusals.{number, block, number_of, block_of}
use Rattle.memory.specs.Memory.{size}
use Rattle.image.specs.Calls.{unread, read_answer}
use Rattle.image.proofs.Answers.{reads_not_size, reads_not_image, reads_image}
use Rattle.image.proofs.read_image.Goals as goal

pub returns-in_err-lent : goal.returns-in_err-lent
unfolding read_answer number block
returns-in_err-lent c =
    let n : length c.args.bytes.now ≡ size → ⊥ = search rules in
    let same : c.from_residual.result ≡ Err (unread MemorySize) = search rules in
    let e = reads_not_size c.args.image.now c.args.bytes.now n in
    record { value = rw (same, e); bytes_after = rw e }

pub returns-in_err-whole : goal.returns-in_err-whole
unfolding read_answer number_of block_of
returns-in_err-whole c =
    let n : length c.args.bytes.now ≡ size = search rules in
    let (r, f, same) : (r : Refusal) × (c.checked.result ≡ Err r) × (c.from_residual-in_err-whole.result ≡ Err (unread r)) = search rules in
    let kept : c.in_ok-lent.lent.now ≡ c.args.bytes.now = search rules in
    let e = reads_not_image c.args.image.now c.args.bytes.now r n (rw f at c.checked.ensures.fault) in
    record { value = rw (same, e); bytes_after = rw (kept, e) }

pub returns : goal.returns
unfolding read_answer number_of block_of
returns c =
    let n : length c.args.bytes.now ≡ size = search rules in
    let f : c.checked.result ≡ Ok c.in_ok-whole.whole = search rules in
    let same : c.in_ok-whole.whole.now ≡ c.args.image.now = search rules in
    let e = reads_image c.args.image.now c.args.bytes.now n (rw f at c.checked.ensures.fault) in
    record { value = rw (e, c.state_of.ensures, same); bytes_after = rw (e, c.fill_memory.ensures, same) }
