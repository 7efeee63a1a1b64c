-- What holds of every microprogram, so of every step.
use Rattle.std.specs.Prelude.{◌≡◌, ℕ, ◌%◌, ◌<◌, ◌≤◌, true, false, List, length, slice_index}
use Rattle.memory.specs.declared.Width.{Width}
use Rattle.memory.specs.Memory.{size, Bytes, stored, touched, covers}
use Rattle.psi.specs.Formed as Formed
use Rattle.psi.specs.Kept.{Fits16}
use Rattle.machine.specs.declared.State.{State}
use Rattle.machine.specs.State.{Machine, at}
use Rattle.machine.specs.Micro.{Micro, store}
use Rattle.machine.specs.Perform.{performed, addressed, dropped, received, reached, perform, Access, accesses, written}

-- A byte that is in no store of a microprogram keeps its value; a dropped store has none (Q-7).
abbrev pub KeepsTheRest : Type 0 → Type 0
KeepsTheRest A =
    (v : ℕ) (p : Micro A) (m : Machine) (i : ℕ)
    → covers i (written m.state.rom (accesses v p m)) ≡ false
    → slice_index (perform v p m).machine.memory i ≡ slice_index m.memory i

-- Q-7: the read-only address never changes.
abbrev pub KeepsReadOnly : Type 0 → Type 0
KeepsReadOnly A = (v : ℕ) (p : Micro A) (m : Machine) → (perform v p m).machine.state.rom ≡ m.state.rom

-- Q-7: a byte that is stored into lies below the read-only address, where that is even, as a well-formed state has it.
abbrev pub StoresBelow : Type 0
StoresBelow =
    (first : ℕ) (l : List Access) (i : ℕ) → first % 2 ≡ 0 → covers i (written first l) ≡ true → i < first

-- Q-7: so a byte at or above it keeps its value.
abbrev pub KeepsTheReadOnlyPart : Type 0 → Type 0
KeepsTheReadOnlyPart A =
    (v : ℕ) (p : Micro A) (m : Machine) (i : ℕ)
    → m.state.rom % 2 ≡ 0
    → m.state.rom ≤ i
    → slice_index (perform v p m).machine.memory i ≡ slice_index m.memory i

-- Q-7: a store is dropped whole or done whole, and the PSI sees its address either way.
abbrev pub StoresOrDrops : Type 0
StoresOrDrops =
    (v : ℕ) (w : Width) (a x : ℕ) (m : Machine)
    → (dropped m.state.rom w a ≡ true → perform v (store w a x) m ≡ performed tt (at (addressed a m.state) m.memory))
    × (dropped m.state.rom w a ≡ false
    → perform v (store w a x) m ≡ performed tt (at (addressed a m.state) (stored w m.memory a x)))

-- Q-7: a machine without a read-only part drops nothing: there all is as it was before that request.
abbrev pub NoRomDropsNothing : Type 0
NoRomDropsNothing =
    (first : ℕ) (w : Width) (m : List ℕ) (a x : ℕ)
    → size ≤ first
    → (dropped first w a ≡ false) × (received first w m a x ≡ stored w m a x) × (reached first w a ≡ touched w a)

-- Q-7: a machine n has m's read-only address, and from there on m's bytes
pub record Unaltered (m n : Machine) : Type 0 where
  pub address : n.state.rom ≡ m.state.rom
  pub part : (i : ℕ) → m.state.rom ≤ i → slice_index n.memory i ≡ slice_index m.memory i

-- The memory's length never changes.
abbrev pub KeepsTheLength : Type 0 → Type 0
KeepsTheLength A =
    (v : ℕ) (p : Micro A) (m : Machine) → length (perform v p m).machine.memory ≡ length m.memory

-- Bytes stay below 256.
abbrev pub KeepsBytes : Type 0 → Type 0
KeepsBytes A = (v : ℕ) (p : Micro A) (m : Machine) → Bytes m.memory → Bytes (perform v p m).machine.memory

-- WP and PC are even
pub record Even (s : State) : Type 0 where
  pub wp : s.wp % 2 ≡ 0
  pub pc : s.pc % 2 ≡ 0

-- WP and PC stay even.
abbrev pub KeepsEven : Type 0 → Type 0
KeepsEven A = (v : ℕ) (p : Micro A) (m : Machine) → Even m.state → Even (perform v p m).machine.state

-- every field but the read-only address is a number of 16 bits, as the code's types have it; of that address no bound is needed
pub record Words (s : State) : Type 0 where
  pub wp : s.wp < 65536
  pub pc : s.pc < 65536
  pub st : s.st < 65536
  pub flags : s.flags < 65536
  pub psi : Fits16 s.psi

-- Fields stay numbers of 16 bits.
abbrev pub KeepsWords : Type 0 → Type 0
KeepsWords A = (v : ℕ) (p : Micro A) (m : Machine) → Words m.state → Words (perform v p m).machine.state

-- A well-formed PSI stays well formed.
abbrev pub KeepsThePsiFormed : Type 0 → Type 0
KeepsThePsiFormed A =
    (v : ℕ) (p : Micro A) (m : Machine)
    → Formed.well_formed m.state.psi ≡ true
    → Formed.well_formed (perform v p m).machine.state.psi ≡ true
