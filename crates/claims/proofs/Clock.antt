-- What the clock leaves: masks, ports and load; and in clock mode the read register. Many ticks are one change of the count, after which
-- the read register follows or not.
use Prim.Native.Nat.{ℕ, zero, suc}
use mathlib.Core.Path.{◌≡◌, refl}
use mathlib.Core.Bool.{true}
use native.Mathlib.Omega.{arith}
use Rattle.psi.specs.declared.Psi.{Psi}
use Rattle.psi.specs.Psi.{control}
use Rattle.psi.specs.Clock.{followed, ticks, advanced}
use Rattle.psi.proofs.AtOnce.{ticks_at_once}
use Rattle.psi.proofs.Cases.{either_way}
use Rattle.claims.specs.Entries.{Alike}

alike_ticks : (n : ℕ) (p q : Psi) → Alike p q → Alike (ticks n p) q
unfolding ticks followed
alike_ticks zero p q a = a
alike_ticks (suc n) p q a =
    rw (ticks_at_once (suc n) p (omega arith))
    (either_way (λ r. Alike r q) (control p)
    (λ t. record { mask = a.mask; direction = a.direction; latch = a.latch; load = a.load })
    (λ f. record { mask = a.mask; direction = a.direction; latch = a.latch; load = a.load }))

pub alike_advanced : (n : ℕ) (p : Psi) → Alike (advanced n p) p
unfolding advanced
alike_advanced n p = alike_ticks _ _ p (record { mask = refl; direction = refl; latch = refl; load = refl })

held_ticks : (n : ℕ) (p : Psi) → control p ≡ true → (ticks n p).reading ≡ p.reading
unfolding ticks followed
held_ticks zero p c = refl
held_ticks (suc n) p c = rw (ticks_at_once (suc n) p (omega arith), c)

pub held_clock : (n : ℕ) (p : Psi) → control p ≡ true → (advanced n p).reading ≡ p.reading
unfolding advanced
held_clock n p c = held_ticks _ _ c
