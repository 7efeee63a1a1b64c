-- The clock, tick by tick.
use Rattle.std.specs.Prelude.{ℕ, zero, suc, ◌+◌, ◌-◌, ◌/◌, ◌%◌, eqb, if◌then◌else◌}
use Rattle.psi.specs.declared.Psi.{Psi}
use Rattle.psi.specs.Psi.{tick_cycles, clock_largest, control, refreshed, with_count, with_phase}

-- A tick takes 1 from the decrementer; from 0 it goes to the load, or where there is none to the largest number.
unfoldable pub counted : Psi → ℕ
counted p =
    if eqb p.decrementer 0
    then (if eqb p.load 0 then clock_largest else p.load)
    else (p.decrementer - 1)

-- A tick that brings a loaded clock down to 0 sets the pending flag.
unfoldable pub pended : Psi → ℕ
pended p = if eqb p.load 0 then p.pending else if eqb (counted p) 0 then 1 else p.pending

-- In interrupt mode (control 0) the read register shows the decrementer after every tick.
unfoldable pub followed : Psi → Psi
followed p = if control p then p else refreshed p

unfoldable pub tick : Psi → Psi
tick p = followed (with_count (counted p) (pended p) p)

unfoldable pub ticks : ℕ → Psi → Psi
ticks zero p = p
ticks (suc n) p = tick (ticks n p)

-- n cycles: as many ticks as the phase comes round, and the phase that is left.
unfoldable pub advanced : ℕ → Psi → Psi
advanced n p = ticks ((p.phase + n) / tick_cycles) (with_phase ((p.phase + n) % tick_cycles) p)
