-- X goes on with a smaller allowance, so twice the allowance falls; every other word is the last.
use Prim.Native.Nat.{◌+◌, ◌*◌}
use Rattle.cpu.proofs.+executing.Given as goal

abbrev pub decreases-execute : goal.decreases-execute
decreases-execute l = 2 * l.allowance + 1

abbrev pub decreases-execute_again : goal.decreases-execute_again
decreases-execute_again l = 2 * l.allowance
