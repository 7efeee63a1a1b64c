-- No refusal has the number 0, which says that a call was not refused.
use Prim.Native.Nat.{ℕ}
use mathlib.Core.Path.{◌≡◌}
use native.Mathlib.Omega.{arith}
use Rattle.refusals.specs.declared.Refusal.{Refusal}
use Rattle.refusals.specs.declared.Refusal.TheVariants.{MemorySize, State, Records, ImageSize, Check, BlockNumber, Format, Content, TextBuffer}
use Rattle.refusals.specs.Refusals.{number}

pub never_0 : (r : Refusal) → number r ≡ 0 → ⊥
unfolding number
never_0 MemorySize e = omega arith
never_0 State e = omega arith
never_0 Records e = omega arith
never_0 ImageSize e = omega arith
never_0 (Check b) e = omega arith
never_0 (BlockNumber b) e = omega arith
never_0 Format e = omega arith
never_0 Content e = omega arith
never_0 TextBuffer e = omega arith
