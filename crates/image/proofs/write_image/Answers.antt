-- `write_image` meets its contract: a refusal leaves the buffer, and otherwise it is filled.
use Rattle.std.proofs.Common.{◌≡◌, true, false, Err, rules, length, eq-eqb, ne_eqb}
use Rattle.refusals.specs.declared.Refusal.TheVariants.{MemorySize, State, ImageSize}
use Rattle.refusals.specs.Refusals.{number}
use Rattle.memory.specs.Memory.{size}
use Rattle.machine.specs.State.{well_formed}
use Rattle.image_blocks.specs.Image.{image_size}
use Rattle.image.specs.Calls.{write, write_fault, write_answer}
use Rattle.image.proofs.write_image.Goals as goal

pub returns-in_err-lent : goal.returns-in_err-lent
unfolding write write_fault write_answer number
returns-in_err-lent c =
    let n : length c.args.bytes.now ≡ size → ⊥ = search rules in
    let same : c.from_residual.result ≡ Err (record { refusal = MemorySize; state = c.args.state }) = search rules in
    let e = ne_eqb (length c.args.bytes.now) size n in
    record { value = rw (same, e); image_after = rw e }

pub returns-in_err-buffer : goal.returns-in_err-buffer
unfolding write write_fault write_answer number
returns-in_err-buffer c =
    let y : length c.args.bytes.now ≡ size = search rules in
    let n : length c.args.image.now ≡ image_size → ⊥ = search rules in
    let same : c.from_residual-in_err-buffer.result ≡ Err (record { refusal = ImageSize; state = c.args.state }) = search rules in
    let e = eq-eqb (length c.args.bytes.now) size y in
    let f = ne_eqb (length c.args.image.now) image_size n in
    record { value = rw (same, e, f); image_after = rw (e, f) }

pub returns-then-not-well_formed : goal.returns-then-not-well_formed
unfolding write write_fault write_answer number
returns-then-not-well_formed c =
    let y : length c.args.bytes.now ≡ size = search rules in
    let z : length c.args.image.now ≡ image_size = search rules in
    let ill : well_formed c.args.state ≡ false = search rules in
    let same : c.refused-then-not-well_formed.result ≡ record { refusal = State; state = c.args.state } = search rules in
    let kept : c.in_ok-buffer.buffer.now ≡ c.args.image.now = search rules in
    let e = eq-eqb (length c.args.bytes.now) size y in
    let f = eq-eqb (length c.args.image.now) image_size z in
    record { value = rw (same, e, f, ill); image_after = rw (kept, e, f, ill) }

pub returns : goal.returns
unfolding write write_fault write_answer
returns c =
    let y : length c.args.bytes.now ≡ size = search rules in
    let z : length c.args.image.now ≡ image_size = search rules in
    let formed : well_formed c.args.state ≡ true = search rules in
    let same : c.in_ok-lent.lent.now ≡ c.args.bytes.now = search rules in
    let e = eq-eqb (length c.args.bytes.now) size y in
    let f = eq-eqb (length c.args.image.now) image_size z in
    record { value = rw (e, f, formed); image_after = rw (e, f, formed, c.fill_image.ensures, same) }
