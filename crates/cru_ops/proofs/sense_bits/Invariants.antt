use Prim.Native.Nat.{ℕ, ◌-◌, ◌^◌, ◌<◌}
use mathlib.Core.Path.{◌≡◌}
use mathlib.Core.List.{List}
use Rattle.machine.specs.State.{at}
use Rattle.machine.specs.Perform.{perform}
use Rattle.machine.specs.Groups.{sense_bits}
use Rattle.cru_ops.proofs.Transfers.{gathered}
use Rattle.cru_ops.proofs.sense_bits.Given as goal

abbrev pub invariant-loop-n : goal.invariant-loop-n
invariant-loop-n l =
    (l.value < 2 ^ l.n)
    × ((m : List ℕ)
    → perform l.levels (sense_bits l.count l.initial.from) (at l.initial.state m) ≡ gathered l.value l.n (perform l.levels (sense_bits (l.count - l.n) l.from) (at l.state m)))
