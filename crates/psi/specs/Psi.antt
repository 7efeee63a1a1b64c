-- The TMS 9901's own numbers, its blank state, and single fields changed.
use Rattle.std.specs.Prelude.{ℕ, ◌-◌, ◌^◌, Bool}
use Rattle.bits.specs.Bits.{bit}
use Rattle.psi.specs.declared.Psi.{Psi}

-- The PSI's fixed numbers: its CRU bits, the bits of its clock registers, and the cycles of one tick.
abbrev pub bits : ℕ
bits = 32

abbrev pub clock_bits : ℕ
clock_bits = 14

abbrev pub tick_cycles : ℕ
tick_cycles = 64

-- the largest number that a clock register holds
abbrev pub clock_largest : ℕ
clock_largest = 2 ^ clock_bits - 1

-- Blank state: all 0.
abbrev pub blank : Psi
blank = record { mask = 0; direction = 0; latch = 0; load = 0; decrementer = 0; reading = 0; phase = 0; pending = 0 }

-- the control bit: 1 is clock mode
abbrev pub control : Psi → Bool
control p = bit 0 p.mask

abbrev pub with_mask : ℕ → Psi → Psi
with_mask x p =
    record { mask = x; direction = p.direction; latch = p.latch; load = p.load; decrementer = p.decrementer; reading = p.reading; phase = p.phase; pending = p.pending }

abbrev pub with_ports : ℕ → ℕ → Psi → Psi
with_ports d l p =
    record { mask = p.mask; direction = d; latch = l; load = p.load; decrementer = p.decrementer; reading = p.reading; phase = p.phase; pending = p.pending }

abbrev pub with_phase : ℕ → Psi → Psi
with_phase x p =
    record { mask = p.mask; direction = p.direction; latch = p.latch; load = p.load; decrementer = p.decrementer; reading = p.reading; phase = x; pending = p.pending }

abbrev pub with_pending : ℕ → Psi → Psi
with_pending x p =
    record { mask = p.mask; direction = p.direction; latch = p.latch; load = p.load; decrementer = p.decrementer; reading = p.reading; phase = p.phase; pending = x }

abbrev pub with_count : ℕ → ℕ → Psi → Psi
with_count d b p =
    record { mask = p.mask; direction = p.direction; latch = p.latch; load = p.load; decrementer = d; reading = p.reading; phase = p.phase; pending = b }

-- a new load: the decrementer takes it over and the phase begins again
abbrev pub with_load : ℕ → Psi → Psi
with_load x p =
    record { mask = p.mask; direction = p.direction; latch = p.latch; load = x; decrementer = x; reading = p.reading; phase = 0; pending = p.pending }

-- the read register takes the decrementer's value
abbrev pub refreshed : Psi → Psi
refreshed p =
    record { mask = p.mask; direction = p.direction; latch = p.latch; load = p.load; decrementer = p.decrementer; reading = p.decrementer; phase = p.phase; pending = p.pending }
