-- X goes on at its operand's word, every other word is the last: the code's tests are the definition's.
use Prim.Native.Nat.{suc, ◌-◌}
use mathlib.Core.Path.{◌≡◌}
use native.Mathlib.Omega.{arith}
use Rattle.machine.proofs.Bind.{perform_bind, perform_done}
use Rattle.cpu.specs.Resolve.{resolve, again}
use Rattle.cpu.proofs.+executing.Goals as goal

pub execute-returns-then-is_x : goal.execute-returns-then-is_x
unfolding resolve
execute-returns-then-is_x t c v = rw (← c.is_x.ensures, c.if-is_x.true) (c.execute_again.ensures v)

pub execute-returns : goal.execute-returns
unfolding resolve
execute-returns t c v = rw (← c.is_x.ensures, c.if-is_x.false, perform_done)

pub execute_again-returns-then-allowance-eq0 : goal.execute_again-returns-then-allowance-eq0
unfolding again
execute_again-returns-then-allowance-eq0 t c v = rw (c.if-allowance-eq0.true, perform_done)

pub execute_again-returns : goal.execute_again-returns
unfolding again resolve
execute_again-returns t c v =
    let one_more : c.args.allowance ≡ suc (c.args.allowance - 1) = omega arith in
    rw (one_more, perform_bind, perform_bind, ← c.source.ensures, c.address-there.ensures _, c.load-next.ensures _) (c.execute.ensures _)
