-- What every entry does besides its context switch: once the clock has advanced, of the PSI nothing but the read register changes;
-- no-sample is set, idle is cleared.
use Rattle.std.specs.Prelude.{ℕ, ◌≡◌, true, false, List}
use Rattle.bits.specs.Bits.{bit}
use Rattle.psi.specs.declared.Psi.{Psi}
use Rattle.psi.specs.Clock.{advanced}
use Rattle.psi.specs.Cru.{selected}
use Rattle.psi.specs.Pins.{parted}
use Rattle.machine.specs.State.{Machine, idle, no_sample}
use Rattle.machine.specs.declared.Deed.TheVariants.{Ordinary, Unassigned, Switched, Returned}
use Rattle.machine.specs.Perform.{Access}
use Rattle.machine.specs.Step.{Kind, was_reset, was_load, was_idle, was_level, ran, vector, clocked, step}
use Rattle.machine.specs.Answer.{answer}
use Rattle.machine.specs.Order.{switching}
use Rattle.machine.specs.Refresh.{some_refreshes}
use Rattle.book.specs.Book.{step_accesses}
use Rattle.claims.specs.Interrupts.{taken}

-- an entry that the pins cause: reset, LOAD or an interrupt
unfoldable pub Caused : Kind → Type 0
Caused was_reset = Unit
Caused was_load = Unit
Caused (was_level k) = Unit
Caused was_idle = ⊥
Caused (ran d) = ⊥

-- an entry of the five: those, and XOP and BLWP, through X too
unfoldable pub Entry : Kind → Type 0
Entry was_reset = Unit
Entry was_load = Unit
Entry (was_level k) = Unit
Entry was_idle = ⊥
Entry (ran Ordinary) = ⊥
Entry (ran Unassigned) = ⊥
Entry (ran Switched) = Unit
Entry (ran Returned) = ⊥

-- masks, ports and load are the same
pub record Alike (p q : Psi) : Type 0 where
  pub mask : p.mask ≡ q.mask
  pub direction : p.direction ≡ q.direction
  pub latch : p.latch ≡ q.latch
  pub load : p.load ≡ q.load

-- the accesses of an entry: its vector words and its save words
abbrev pub entry_accesses : ℕ → Machine → List Access
entry_accesses word m = switching (vector (taken (answer word m))) (clocked (parted word).cycles m)

-- A step that is an entry makes these accesses and no other: the word at the old PC is not fetched.
abbrev pub EntriesAccess : Type 0
EntriesAccess = (word : ℕ) (m : Machine) → Caused (step word m).value → step_accesses word m ≡ entry_accesses word m

-- Reset is the CPU's alone: of the PSI, the clock has gone on, and the read register is refreshed where the address of a vector word or a
-- save word does that (Q-4); masks, ports and load stay. So it is with LOAD and interrupts.
abbrev pub EntriesLeaveThePsi : Type 0
EntriesLeaveThePsi =
    (word : ℕ) (m : Machine)
    → Caused (step word m).value
    → ((step word m).machine.state.psi ≡ selected (some_refreshes (entry_accesses word m)) (advanced (parted word).cycles m.state.psi))
    × Alike (step word m).machine.state.psi m.state.psi

-- All five entries set no-sample.
abbrev pub EntriesSetNoSample : Type 0
EntriesSetNoSample =
    (word : ℕ) (m : Machine) → Entry (step word m).value → bit no_sample (step word m).machine.state.flags ≡ true

-- Interrupt, LOAD and reset clear idle.
abbrev pub EntriesClearIdle : Type 0
EntriesClearIdle =
    (word : ℕ) (m : Machine) → Caused (step word m).value → bit idle (step word m).machine.state.flags ≡ false
