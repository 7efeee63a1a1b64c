use Prim.Native.Nat.{ℕ, ◌-◌}
use mathlib.Core.Path.{◌≡◌}
use mathlib.Core.List.{List}
use Rattle.machine.specs.State.{at}
use Rattle.machine.specs.Perform.{perform}
use Rattle.machine.specs.Groups.{drive_bits}
use Rattle.cru_ops.proofs.drive_bits.Given as goal

abbrev pub invariant-loop : goal.invariant-loop
invariant-loop l =
    (v : ℕ) (m : List ℕ) → perform v (drive_bits l.count l.initial.to l.value) (at l.initial.state m) ≡ perform v (drive_bits (l.count - l.counter) l.to l.rest) (at l.state m)
