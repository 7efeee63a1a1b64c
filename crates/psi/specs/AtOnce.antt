-- The clock after n ticks, worked out at once, as the code does it. Nothing of this enters the clock's definition: that it comes
-- to the same is a theorem.
use Rattle.std.specs.Prelude.{ℕ, ◌+◌, ◌-◌, ◌%◌, ◌<◌, ◌≡◌, not, ◌&&◌, eqb, leb, if◌then◌else◌}
use Rattle.psi.specs.declared.Psi.{Psi}
use Rattle.psi.specs.Psi.{clock_largest, with_count}
use Rattle.psi.specs.Clock.{followed, ticks}

-- from 0 the decrementer goes to its largest value: the load, or without one the largest number
unfoldable pub largest : Psi → ℕ
largest p = if eqb p.load 0 then clock_largest else p.load

-- the ticks of a round, from 0 to 0
abbrev pub period : Psi → ℕ
period p = largest p + 1

-- It falls to 0, and then goes round and round.
unfoldable pub count_after : ℕ → Psi → ℕ
count_after n p =
    if leb n p.decrementer
    then (p.decrementer - n)
    else (largest p - (n - p.decrementer - 1) % period p)

-- The first tick that brings it to 0. To start at 0 is not to become 0: that takes a whole round.
unfoldable pub first_zero : Psi → ℕ
first_zero p = if eqb p.decrementer 0 then period p else p.decrementer

-- That tick sets the pending flag, where there is a load.
unfoldable pub pending_after : ℕ → Psi → ℕ
pending_after n p = if (not (eqb p.load 0) && leb (first_zero p) n) then 1 else p.pending

-- One tick or more, taken one by one: the decrementer and the flag are these, and the read register follows as after a single tick.
abbrev pub TicksAtOnce : Type 0
TicksAtOnce = (n : ℕ) (p : Psi) → 0 < n → ticks n p ≡ followed (with_count (count_after n p) (pending_after n p) p)
