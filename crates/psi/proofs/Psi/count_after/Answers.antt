-- The code's test is the definition's; a remainder is at most the largest value, which is one less than the period.
use Prim.Native.Nat.{ℕ, ◌+◌, ◌%◌, ◌≤◌}
use mathlib.Core.Path.{◌≡◌, sym, ap, ◌∙◌}
use native.Mathlib.Omega.{arith}
use native.Mathlib.Nat.{mod-lt}
use borrow.Author.Tests.{le-leb, lt-leb}
use Rattle.psi.specs.AtOnce.{count_after}
use Rattle.psi.proofs.Psi.count_after.Goals as goal

pub returns-then-n-count : goal.returns-then-n-count
unfolding count_after
returns-then-n-count c = rw (le-leb _ _ c.if-n-count.true)

remainder : (x period largest : ℕ) → period ≡ largest + 1 → x % period ≤ largest
remainder x period largest e = omega (arith, mod-lt x {m = period} (omega arith))

pub returns : goal.returns
unfolding count_after
returns c = rw (lt-leb _ _ c.if-n-count.false, c.period.ensures, c.largest-largest.ensures)

pub overflow_sub-result-4 : goal.overflow_sub-result-4
overflow_sub-result-4 c = remainder _ _ _ (c.period.ensures ∙ ap (λ n. n + 1) (sym c.largest-largest.ensures))
