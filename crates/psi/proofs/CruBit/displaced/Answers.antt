-- Two steps that wrap lead where their sum does.
use native.Mathlib.Nat.{mod-add-mod, add_assoc}
use Rattle.bits.specs.Bits.{signed_byte}
use Rattle.psi.specs.Cru.{beyond, displaced}
use borrow.Author.Tests.{lt-ltb, le-ltb}
use Rattle.psi.proofs.CruBit.displaced.Goals as goal

pub returns-then-d-lt128 : goal.returns-then-d-lt128
unfolding beyond displaced signed_byte
returns-then-d-lt128 c = simp (lt-ltb _ _ c.if-d-lt128.true) c.plus-ahead.ensures

pub returns-else-d-lt128 : goal.returns-else-d-lt128
unfolding beyond displaced signed_byte
returns-else-d-lt128 c = simp (le-ltb _ _ c.if-d-lt128.false) (rw (c.plus.ensures, c.plus-ahead.ensures, mod-add-mod, add_assoc))
