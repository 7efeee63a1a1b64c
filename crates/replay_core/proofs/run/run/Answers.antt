-- A refusal answers at once; else the steps are run, and their contract is the definition's accepted case.
use Rattle.std.proofs.Common.{◌≡◌, Ok, Err, rules}
use mathlib.Core.Path.{sym}
use lib.Seq.{length-take-le}
use Rattle.refusals.specs.declared.Refusal.{Refusal}
use Rattle.refusals.specs.Refusals.{number_of}
use Rattle.run_rules.proofs.Laws.{accepted}
use Rattle.replay_core.proofs.Runs.{ran_to, refused_run}
use Rattle.replay_core.proofs.run.run.Goals as goal

pub returns-in_err-map_err : goal.returns-in_err-map_err
unfolding number_of
returns-in_err-map_err c =
    let (r, f, same) : (r : Refusal) × (c.check_run.result ≡ Err r) × (c.from_residual.result ≡ Err (record { refusal = r; state = c.args.state })) = search rules in
    rw same (refused_run _ _ _ _ _ r (rw f at c.check_run.ensures))

pub unwrap-memory-requires : goal.unwrap-memory-requires
unfolding number_of
unwrap-memory-requires c =
    let ok : c.check_run.result ≡ Ok tt = search rules in
    c.as_mut_array.ensures.variant.1 (accepted _ _ _ _ (sym (rw ok at c.check_run.ensures))).sized

pub slice_bounds-run_steps-end : goal.slice_bounds-run_steps-end
unfolding number_of
slice_bounds-run_steps-end c =
    let ok : c.check_run.result ≡ Ok tt = search rules in
    sym (length-take-le _ _ (accepted _ _ _ _ (sym (rw ok at c.check_run.ensures))).enough)

pub returns : goal.returns
unfolding number_of
returns c =
    let ok : c.check_run.result ≡ Ok tt = search rules in
    let whole = rw c.unwrap-memory.ensures at c.as_mut_array.ensures.cases in
    ran_to _ _ _ _ _ _ _ (sym (rw ok at c.check_run.ensures)) (rw whole.same at c.run_steps.ensures)
