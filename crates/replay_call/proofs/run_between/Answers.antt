-- The three calls as the definition has them; `?` ends with the first refusal.
use Rattle.std.proofs.Common.{◌≡◌, Ok, Err, rules}
use Rattle.machine.specs.declared.State.{State}
use Rattle.machine.specs.declared.Refused.{Refused}
use Rattle.replay_call.proofs.Parts.{read_refused, run_refused, write_refused, accepted}
use Rattle.replay_call.proofs.run_between.Goals as goal

pub returns-in_err-start : goal.returns-in_err-start
returns-in_err-start c =
    let (e, f, same) : (e : Refused) × (c.read_image.result ≡ Err e) × (c.from_residual.result ≡ Err e) = search rules in
    rw same (read_refused _ _ _ _ e (rw f at c.read_image.ensures.value))

pub returns-in_err-ran : goal.returns-in_err-ran
returns-in_err-ran c =
    let begun : c.read_image.result ≡ Ok c.in_ok-start.start = search rules in
    let (e, f, same) : (e : Refused) × (c.run_on.result ≡ Err e) × (c.from_residual-in_err-ran.result ≡ Err e) = search rules in
    rw same (run_refused _ _ _ _ c.in_ok-start.start _ (rw begun at c.read_image.ensures.value) c.read_image.ensures.bytes_after e _ (rw f at c.run_on.ensures))

pub returns-in_err-write_image : goal.returns-in_err-write_image
returns-in_err-write_image c =
    let begun : c.read_image.result ≡ Ok c.in_ok-start.start = search rules in
    let run : c.run_on.result ≡ Ok c.in_ok-ran.ran = search rules in
    let (e, f, same) : (e : Refused) × (c.write_image.result ≡ Err e) × (c.from_residual-in_err-write_image.result ≡ Err e) = search rules in
    rw same (write_refused _ _ _ _ c.in_ok-start.start _ (rw begun at c.read_image.ensures.value) c.read_image.ensures.bytes_after c.in_ok-ran.ran _ (rw run at c.run_on.ensures) e _ (rw f at c.write_image.ensures.value) c.write_image.ensures.image_after)

pub returns : goal.returns
returns c =
    let begun : c.read_image.result ≡ Ok c.in_ok-start.start = search rules in
    let run : c.run_on.result ≡ Ok c.in_ok-ran.ran = search rules in
    let (s, wrote) : (s : State) × (c.write_image.result ≡ Ok s) = search rules in
    accepted _ _ _ _ c.in_ok-start.start _ (rw begun at c.read_image.ensures.value) c.read_image.ensures.bytes_after c.in_ok-ran.ran _ (rw run at c.run_on.ensures) s _ (rw wrote at c.write_image.ensures.value) c.write_image.ensures.image_after
