-- The invariant: the search from n on gives what the whole search gives. It may end where no mask bit is left.
use Prim.Native.Nat.{◌-◌}
use mathlib.Core.Path.{◌≡◌, ◌∙◌, sym}
use native.Mathlib.Omega.{arith}
use Rattle.psi.specs.Pins.{request, lowest}
use Rattle.psi.proofs.Search.{lowest_none, lowest_here, lowest_beyond}
use Rattle.psi.proofs.Psi.request.Goals as goal

pub returns-then-requested : goal.returns-then-requested
unfolding request
returns-then-requested c =
    sym (c.loop-n.invariant ∙ lowest_here _ _ _ (omega arith) (sym c.requested.ensures ∙ c.if-requested.true))

pub loop-n-preserved : goal.loop-n-preserved
loop-n-preserved c =
    c.loop-n.invariant ∙ lowest_beyond _ _ _ (omega arith) (sym c.requested.ensures ∙ c.if-requested.false)

pub returns-then-mask-n-eq0 : goal.returns-then-mask-n-eq0
unfolding request
returns-then-mask-n-eq0 c = sym (c.loop-n.invariant ∙ lowest_none _ _ _ _ c.if-mask-n-eq0.true)

pub returns-after-loop-n : goal.returns-after-loop-n
unfolding request lowest
returns-after-loop-n c = sym (c.loop-n.invariant ∙ rw (let none : 16 - c.loop-n.n ≡ 0 = omega arith in none))
