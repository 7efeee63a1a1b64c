-- A refusal answers at once; else the blank state is entered by reset.
use Rattle.std.proofs.Common.{◌≡◌, Ok, Err, rules}
use mathlib.Core.Path.{sym, ap}
use Rattle.refusals.specs.declared.Refusal.{Refusal}
use Rattle.refusals.specs.Refusals.{number_of}
use Rattle.machine.specs.Run.{StateResult}
use Rattle.machine.specs.Step as Step
use Rattle.machine.proofs.Bind.{perform_bind, perform_done}
use Rattle.replay_core.proofs.Runs.{powers, powered, refused_power_up}
use Rattle.replay_core.proofs.run.power_up.Goals as goal

pub returns-in_err-map_err : goal.returns-in_err-map_err
unfolding number_of
returns-in_err-map_err c =
    let (r, f) : (r : Refusal) × (c.check_power_up.result ≡ Err r) = search rules in
    let same : c.from_residual.result ≡ Err (record { refusal = r; state = c.blank-state.result }) = search (rules, f) in
    let e = refused_power_up c.args.bytes.now r (rw f at c.check_power_up.ensures) in
    record { value = rw (same, c.blank-state.ensures, e); bytes_after = sym (ap (λ (z : StateResult). z.memory) e) }

pub unwrap-memory-requires : goal.unwrap-memory-requires
unfolding number_of
unwrap-memory-requires c =
    let ok : c.check_power_up.result ≡ Ok tt = search rules in
    c.as_mut_array.ensures.variant.1 (powers _ (sym (rw ok at c.check_power_up.ensures)))

pub returns : goal.returns
unfolding number_of Step.boundary
returns c =
    let ok : c.check_power_up.result ≡ Ok tt = search rules in
    let whole = rw c.unwrap-memory.ensures at c.as_mut_array.ensures.cases in
    let entered = rw (c.blank-state.ensures, whole.same) at (c.enter.ensures 0) in
    let e = powered c.args.bytes.now _ _ (sym (rw ok at c.check_power_up.ensures)) (rw (perform_bind, entered, perform_done)) in
    record { value = sym (ap (λ (z : StateResult). z.answer) e); bytes_after = sym (ap (λ (z : StateResult). z.memory) e) }
