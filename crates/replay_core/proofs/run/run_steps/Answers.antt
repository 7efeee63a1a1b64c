-- Invariant: the run from the start is the steps so far, with their counts and the last of them, and then the run from here.
use Prim.Native.Nat.{ℕ, ◌+◌, ◌-◌}
use mathlib.Core.Path.{◌≡◌, refl, sym, ◌∙◌}
use native.Mathlib.Nat.{sub-zero, add-zero}
use native.Mathlib.Omega.{arith}
use borrow.Author.Tests.{eq-eqb, ne_eqb}
use lib.ListN.{length}
use Rattle.machine.specs.State.{Machine, at}
use Rattle.machine.specs.declared.StepAnswer.{StepAnswer}
use Rattle.machine.specs.Answer.{latest, missed}
use Rattle.machine.specs.Run.{Ran, one_more}
use Rattle.run_rules.proofs.Laws.{both, both_none, both_later, stopped, none_left, missed_at_most}
use Rattle.replay_core.proofs.Runs.{goes_on, latest_step}
use Rattle.replay_core.proofs.run.run_steps.Goals as goal

pub loop-record-init : goal.loop-record-init
loop-record-init c = rw c.at_once-ran.ensures (refl, omega arith, rw (sub-zero) (sym (both_none (at c.args.state c.args.memory.now) _)))

pub overflow_add-ran : goal.overflow_add-ran
overflow_add-ran c = grind (arith, missed_at_most)

-- a step between two runs, with the number that the code adds to the unassigned words
counted : (m : Machine) (d u n : ℕ) (b a : StepAnswer) (y : Ran) → n ≡ missed a → latest b a ≡ a
    → both (record { machine = m; steps = d; unassigned = u; last = b }) (one_more a y)
    ≡ both (record { machine = m; steps = d + 1; unassigned = u + n; last = a }) y
counted m d u n b a y e h = rw e (both_later m d u b a y h)

pub loop-record-preserved : goal.loop-record-preserved
unfolding both
loop-record-preserved c =
    let loop = c.loop-record in
    let step = c.step-ran in
    let here = at loop.ran.state loop.memory in (
      omega arith,
      omega (arith, missed_at_most step.result),
      loop.invariant.2
          ∙ rw (goes_on c.args.stop (length c.args.records.now) loop.record-index c.args.records.now here (ne_eqb _ _ c.if-ran-stop.false) (omega arith) (omega arith), step.ensures)
          (counted here loop.ran.steps loop.ran.unassigned _ loop.ran.last step.result _ c.missed.ensures (latest_step _ _ _ _ _ step.ensures)),
    )

pub returns-then-ran-stop : goal.returns-then-ran-stop
unfolding both latest
returns-then-ran-stop c =
    (rw c.at_once-ran.ensures at c.loop-record.invariant.2) ∙ rw (stopped _ _ _ _ (eq-eqb _ _ c.if-ran-stop.true)) (simp add-zero)

pub returns-after-loop-record : goal.returns-after-loop-record
unfolding both latest
returns-after-loop-record c =
    (rw c.at_once-ran.ensures at c.loop-record.invariant.2)
    ∙ rw (let none : length c.args.records.now - c.loop-record.record-index ≡ 0 = omega arith in none, none_left)
    (simp add-zero)
