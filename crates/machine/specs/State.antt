-- The machine: its state and the lent memory.
use Rattle.std.specs.Prelude.{ℕ, ◌%◌, Bool, ◌&&◌, List, ◌==◌, nat_le}
use Rattle.memory.specs.Memory.{size}
use Rattle.psi.specs.declared.Psi.{Psi}
use Rattle.psi.specs.Psi as Own
use Rattle.psi.specs.Formed as Formed
use Rattle.machine.specs.declared.State.{State}

-- The flags' weights: idle 1, no-sample 2; here the bits' numbers.
abbrev pub idle : ℕ
idle = 0

abbrev pub no_sample : ℕ
no_sample = 1

-- Document 02, Q-7: the first read-only address of a machine that has no read-only part.
abbrev pub no_rom : ℕ
no_rom = size

-- Blank state: all 0, and nothing read-only (Q-7).
abbrev pub blank : State
blank = record { wp = 0; pc = 0; st = 0; flags = 0; psi = Own.blank; rom = no_rom }

-- well formed: even WP and PC, at most one of the two flags (Q-12: at most 2), an even read-only address within the memory or at its
-- end (Q-7), and the PSI's fields in order
unfoldable pub well_formed : State → Bool
well_formed s =
    (s.wp % 2 == 0)
    && (s.pc % 2 == 0
    && (nat_le s.flags 2
    && (s.rom % 2 == 0
    && (nat_le s.rom size
    && Formed.well_formed s.psi))))

-- the state less its PSI and its read-only address: all that an instruction may look at
pub record Registers : Type 0 where
  pub wp : ℕ
  pub pc : ℕ
  pub st : ℕ
  pub flags : ℕ

abbrev pub registers : State → Registers
registers s = record { wp = s.wp; pc = s.pc; st = s.st; flags = s.flags }

-- the state and the lent memory's bytes
pub record Machine : Type 0 where
  pub state : State
  pub memory : List ℕ

abbrev pub at : State → List ℕ → Machine
at s m = record { state = s; memory = m }

abbrev pub with_wp : ℕ → State → State
with_wp x s = record { wp = x; pc = s.pc; st = s.st; flags = s.flags; psi = s.psi; rom = s.rom }

abbrev pub with_pc : ℕ → State → State
with_pc x s = record { wp = s.wp; pc = x; st = s.st; flags = s.flags; psi = s.psi; rom = s.rom }

abbrev pub with_st : ℕ → State → State
with_st x s = record { wp = s.wp; pc = s.pc; st = x; flags = s.flags; psi = s.psi; rom = s.rom }

abbrev pub with_flags : ℕ → State → State
with_flags x s = record { wp = s.wp; pc = s.pc; st = s.st; flags = x; psi = s.psi; rom = s.rom }

abbrev pub with_psi : Psi → State → State
with_psi p s = record { wp = s.wp; pc = s.pc; st = s.st; flags = s.flags; psi = p; rom = s.rom }
