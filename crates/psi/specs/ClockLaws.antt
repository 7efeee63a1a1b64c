-- What the clock's definitions come to: the clock cycle by cycle, and its period.
use Rattle.std.specs.Prelude.{ℕ, suc, ◌+◌, ◌-◌, ◌<◌, ◌≤◌, ◌≡◌, false, not, eqb, if◌then◌else◌}
use Rattle.psi.specs.declared.Psi.{Psi}
use Rattle.psi.specs.Psi.{tick_cycles, control, with_phase, with_pending}
use Rattle.psi.specs.Clock.{tick, ticks, advanced}
use Rattle.psi.specs.AtOnce.{largest, period}

-- Cycle by cycle: a cycle lets the phase rise by 1, and as it goes from 63 to 0 there is one tick; more cycles are these,
-- one after the other.
pub record CycleByCycle : Type 0 where
  pub none : (p : Psi) → p.phase < tick_cycles → advanced 0 p ≡ p
  pub within : (p : Psi) → p.phase < tick_cycles - 1 → advanced 1 p ≡ with_phase (p.phase + 1) p
  pub round : (p : Psi) → p.phase ≡ tick_cycles - 1 → advanced 1 p ≡ tick (with_phase 0 p)
  pub more : (n : ℕ) (p : Psi) → advanced (suc n) p ≡ advanced 1 (advanced n p)
  pub apart : (m n : ℕ) (p : Psi) → advanced (m + n) p ≡ advanced n (advanced m p)

-- pending comes with tick n and not before
pub record PendingAt (n : ℕ) (p : Psi) : Type 0 where
  pub before : (k : ℕ) → k < n → (ticks k p).pending ≡ 0
  pub comes : (ticks n p).pending ≡ 1
  pub zero : (ticks n p).decrementer ≡ 0

-- With a load N other than 0 and pending cleared, a decrementer above 0 counts down: pending comes as it reaches 0.
abbrev pub CountsDown : Type 0
CountsDown = (p : Psi) → 0 < p.load → p.pending ≡ 0 → 0 < p.decrementer → PendingAt p.decrementer p

-- From 0, with pending cleared, it comes after N + 1 ticks: that is the period, since the decrementer is then 0 again.
abbrev pub Period : Type 0
Period = (p : Psi) → 0 < p.load → p.pending ≡ 0 → p.decrementer ≡ 0 → PendingAt (p.load + 1) p

-- A whole period, with or without a load, changes nothing but pending, which a loaded clock has set by then. (The decrementer is not
-- above its largest value, and the read register shows it where control is 0.)
abbrev pub WholePeriod : Type 0
WholePeriod =
    (p : Psi) → p.decrementer ≤ largest p → (control p ≡ false → p.reading ≡ p.decrementer)
    → ticks (period p) p ≡ with_pending (if not (eqb p.load 0) then 1 else p.pending) p
