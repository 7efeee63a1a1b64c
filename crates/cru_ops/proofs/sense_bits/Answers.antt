-- The invariant: the bits found so far, with those that are yet to come above them, are the number that the whole gives.
use native.Mathlib.Nat.{sub-zero, mul-zero, add-zero}
use mathlib.Core.Path.{◌≡◌, sym, ◌∙◌}
use Rattle.cru_ops.proofs.Transfers.{gathered_none, weighed_below, below_word, sense_turn}
use Prim.Native.Nat.{suc, ◌+◌, ◌-◌}
use native.Mathlib.Omega.{arith}
use Rattle.machine.specs.Groups.{sense_bits}
use Rattle.machine.proofs.Bind.{perform_done}
use borrow.Author.Rules.{rules}
use Rattle.cru_ops.proofs.sense_bits.Goals as goal

pub loop-n-init : goal.loop-n-init
loop-n-init c = (search rules, λ m. sym (rw sub-zero (gathered_none _)))

pub overflow_add-value : goal.overflow_add-value
overflow_add-value c =
    let turn = c.loop-n in
    record {
      fits = below_word (turn.n + 1) _ (omega arith) (weighed_below _ _ c.sense-found.result (omega arith) turn.invariant.0);
    }

pub loop-n-preserved : goal.loop-n-preserved
loop-n-preserved c =
    let found = c.sense-found in
    let turn = c.loop-n in
    let count = c.args.count in
    let e : count - turn.n ≡ suc (count - (turn.n + 1)) = omega arith in (
      weighed_below _ _ found.result (omega arith) turn.invariant.0,
      λ m. (rw e at (turn.invariant.1 m)) ∙ rw c.plus-from.ensures (sense_turn _ _ _ _ _ _ _ _ m (omega arith) (found.ensures m)),
    )

pub returns : goal.returns
unfolding sense_bits
returns c m =
    let e : c.args.count - c.loop-n.n ≡ 0 = omega arith in
    (rw e at (c.loop-n.invariant.1 m)) ∙ rw (perform_done, mul-zero, add-zero)
