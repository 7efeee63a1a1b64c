-- One step: the clock, the code, sampling and entries, or one instruction.
use Rattle.std.specs.Prelude.{ℕ, ◌-◌, ◌*◌, ◌%◌, false, ◌==◌, nat_le, nat_lt, if◌then◌else◌}
use Rattle.bits.specs.Bits.{bit, put}
use Rattle.psi.specs.Clock as Clock
use Rattle.psi.specs.Pins as Pins
use Rattle.psi.specs.declared.Record.{Record}
use Rattle.machine.specs.declared.Deed.{Deed}
use Rattle.machine.specs.declared.Signal.{Signal}
use Rattle.machine.specs.declared.Signal.TheVariants.{Reset as reset, Load as load, Level as level, Nothing as none}
use Rattle.machine.specs.State.{Registers, Machine, idle, no_sample, with_psi}
use Rattle.machine.specs.Micro.{Micro, done, to_flags, ◌>>=◌, ◌>>◌, registers, set, fetched}
use Rattle.machine.specs.Perform.{Performed, perform}
use Rattle.machine.specs.Groups.{set_status, masked, switch}
use Rattle.machine.specs.Execute.{execute, allowance}

-- Code 0 or 1: reset; 2: LOAD; 3, 4, 5, 6: level 1, 2, 3, 4; 7: nothing.
unfoldable pub signal : ℕ → Signal
signal c =
    if nat_lt c 2 then reset
    else if c == 2 then load
    else if nat_lt c 7 then level (c - 2)
    else none

-- Reset is taken at every boundary; LOAD, and a level that the mask admits, unless the no-sample flag is set.
unfoldable pub admitted : Registers → Signal → Signal
admitted r reset = reset
admitted r load = if bit no_sample r.flags then none else load
admitted r (level k) =
    if bit no_sample r.flags then none
    else if nat_le k (r.st % 16) then level k
    else none
admitted r none = none

-- An entry is a whole step: the context switch, which sets no-sample, then ST; interrupt, LOAD and reset clear idle.
unfoldable pub enter : ℕ → (ℕ → ℕ) → Micro (Unit {0})
enter vector f = do
  switch vector
  set_status f
  r ← registers
  set to_flags (put idle false r.flags)

-- what a step was; of an instruction also what the book of open entries goes by
pub data Kind : Type 0 where
  was_reset was_load was_idle : Kind
  was_level : ℕ → Kind
  ran : Deed → Kind

-- A step without an entry (Q-12): an idle machine does nothing; any other clears no-sample and executes an instruction.
unfoldable pub proceed : Micro Kind
proceed = do
  r ← registers
  (if bit idle r.flags then done was_idle
      else (do
        set to_flags (put no_sample false r.flags)
        w ← fetched
        d ← execute allowance w
        done (ran d)))

-- Vectors: reset 0, level k 4k, LOAD 3FFCh.
abbrev pub vector : Signal → ℕ
vector reset = 0
vector load = 0x3FFC
vector (level k) = 4 * k % 65536
vector none = 0

-- Reset makes ST 0, LOAD the mask 0, level k the mask k - 1.
abbrev pub entry_status : Signal → ℕ → ℕ
entry_status reset st = 0
entry_status load st = masked 0 st
entry_status (level k) st = masked (k - 1) st
entry_status none st = st

-- an entry, or none
unfoldable pub boundary : Signal → Micro Kind
boundary reset = enter (vector reset) (entry_status reset) >> done was_reset
boundary load = enter (vector load) (entry_status load) >> done was_load
boundary (level k) = enter (vector (level k)) (entry_status (level k)) >> done (was_level k)
boundary none = proceed

-- the machine once its clock has advanced
abbrev pub clocked : ℕ → Machine → Machine
clocked cycles m = record { state = with_psi (Clock.advanced cycles m.state.psi) m.state; memory = m.memory }

-- the microprogram of a step from a machine whose clock has advanced
unfoldable pub stepping : ℕ → Machine → Micro Kind
stepping levels m = registers >>= λ r. boundary (admitted r (signal (Pins.code m.state.psi levels)))

-- one step with a pin record: what it was, and the machine after it
unfoldable pub step : ℕ → Machine → Performed Kind
step word m = perform p.levels (stepping p.levels (clocked p.cycles m)) (clocked p.cycles m)
  where
    p : Record
    p = Pins.parted word
