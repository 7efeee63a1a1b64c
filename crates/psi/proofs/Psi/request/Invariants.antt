use Prim.Native.Nat.{◌-◌}
use mathlib.Core.Path.{◌≡◌}
use Rattle.psi.specs.Pins.{lowest}
use Rattle.psi.proofs.Psi.request.Given as goal

abbrev pub invariant-loop-n : goal.invariant-loop-n
invariant-loop-n l = lowest l.self l.levels 15 1 ≡ lowest l.self l.levels (16 - l.n) l.n
