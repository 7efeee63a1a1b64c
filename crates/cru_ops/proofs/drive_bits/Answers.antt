-- The invariant: what is left to drive leads where the whole does.
use Prim.Native.Nat.{suc, ◌+◌, ◌-◌}
use mathlib.Core.Path.{◌≡◌, ◌∙◌}
use native.Mathlib.Omega.{arith}
use Rattle.machine.specs.Groups.{drive_bits}
use Rattle.machine.proofs.Bind.{perform_done}
use Rattle.cru_ops.proofs.Transfers.{drive_turn}
use Rattle.cru_ops.proofs.drive_bits.Goals as goal

pub loop-preserved : goal.loop-preserved
loop-preserved c v m =
    let turn = c.loop in
    let e : c.args.count - turn.counter ≡ suc (c.args.count - (turn.counter + 1)) = omega arith in
    (rw e at (turn.invariant v m)) ∙ rw c.plus-to.ensures (drive_turn v _ _ _ _ _ m (c.drive.ensures v m))

pub returns : goal.returns
unfolding drive_bits
returns c v m =
    let e : c.args.count - c.loop.counter ≡ 0 = omega arith in
    (rw e at (c.loop.invariant v m)) ∙ rw perform_done
