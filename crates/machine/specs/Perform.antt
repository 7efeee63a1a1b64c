-- What a microprogram does to a machine, and which accesses it makes, at given pin levels.
use Rattle.std.specs.Prelude.{ℕ, suc, ◌+◌, ◌*◌, ◌/◌, ◌%◌, Bool, List, [], ◌∷◌, ◌++◌, nat_le, if◌then◌else◌}
use Rattle.memory.specs.declared.Width.{Width}
use Rattle.memory.specs.declared.Width.TheVariants.{Word}
use Rattle.memory.specs.Memory.{place, loaded, stored, touched}
use Rattle.psi.specs.declared.CruBit.{CruBit}
use Rattle.psi.specs.Cru as Cru
use Rattle.machine.specs.declared.State.{State}
use Rattle.machine.specs.State.{Machine, registers, with_wp, with_pc, with_st, with_flags, with_psi}
use Rattle.machine.specs.Micro.{Target, to_wp, to_pc, to_st, to_flags, Micro, done, look, assign, fetch, read, write, sense, drive}

-- a microprogram's value, and the machine after it
pub record Performed (A : Type 0) : Type 0 where
  pub value : A
  pub machine : Machine

abbrev pub performed : {A : Type 0} → A → Machine → Performed A
performed a m = record { value = a; machine = m }

-- WP and PC are 16 bits and always even: loading them drops the lowest bit.
abbrev pub even : ℕ → ℕ
even x = x / 2 * 2 % 65536

-- a register loaded; ST keeps all 16 bits, the flags are two
abbrev pub assigned : Target → ℕ → State → State
assigned to_wp x s = with_wp (even x) s
assigned to_pc x s = with_pc (even x) s
assigned to_st x s = with_st (x % 65536) s
assigned to_flags x s = with_flags (x % 4) s

-- Document 02, Q-4: an access to memory whose byte address has weight 32 refreshes the PSI's read register.
abbrev pub addressed : ℕ → State → State
addressed a s = with_psi (Cru.addressed a s.psi) s

-- Document 02, Q-7: a store whose place is at or above the first read-only address is dropped.
unfoldable pub dropped : ℕ → Width → ℕ → Bool
dropped first w a = nat_le first (place w a)

-- the memory after a store that may be dropped
unfoldable pub received : ℕ → Width → List ℕ → ℕ → ℕ → List ℕ
received first w m a x = if dropped first w a then m else stored w m a x

-- the places of the bytes that it stores into: none if it is dropped
unfoldable pub reached : ℕ → Width → ℕ → List ℕ
reached first w a = if dropped first w a then [] else touched w a

-- the machine after each kind of access
abbrev pub after_assign : Target → ℕ → Machine → Machine
after_assign t x m = record { state = assigned t x m.state; memory = m.memory }

abbrev pub after_fetch : Machine → Machine
after_fetch m =
    record { state = with_pc ((m.state.pc + 2) % 65536) (addressed m.state.pc m.state); memory = m.memory }

abbrev pub after_read : ℕ → Machine → Machine
after_read a m = record { state = addressed a m.state; memory = m.memory }

abbrev pub after_write : Width → ℕ → ℕ → Machine → Machine
after_write w a x m =
    record { state = addressed a m.state; memory = received m.state.rom w m.memory a x }

abbrev pub after_sense : ℕ → CruBit → Machine → Machine
after_sense v b m = record { state = with_psi (Cru.sensed m.state.psi v b).psi m.state; memory = m.memory }

abbrev pub after_drive : CruBit → Bool → Machine → Machine
after_drive b x m = record { state = with_psi (Cru.driven m.state.psi b x) m.state; memory = m.memory }

-- what a microprogram does to a machine, access by access
unfoldable pub perform : {A : Type 0} → ℕ → Micro A → Machine → Performed A
perform v (done a) m = record { value = a; machine = m }
perform v (look k) m = perform v (k (registers m.state)) m
perform v (assign t x k) m = perform v k (after_assign t x m)
perform v (fetch k) m = perform v (k (loaded Word m.memory m.state.pc)) (after_fetch m)
perform v (read w a k) m = perform v (k (loaded w m.memory a)) (after_read a m)
perform v (write w a x k) m = perform v k (after_write w a x m)
perform v (sense b k) m = perform v (k (Cru.sensed m.state.psi v b).value) (after_sense v b m)
perform v (drive b x k) m = perform v k (after_drive b x m)

-- one access to memory or to a CRU bit
pub data Access : Type 0 where
  was_fetched : ℕ → Access
  was_read : Width → ℕ → Access
  was_written : Width → ℕ → ℕ → Access
  was_sensed : CruBit → Access
  was_driven : CruBit → Bool → Access

-- the accesses of a microprogram, in order
unfoldable pub accesses : {A : Type 0} → ℕ → Micro A → Machine → List Access
accesses v (done a) m = []
accesses v (look k) m = accesses v (k (registers m.state)) m
accesses v (assign t x k) m = accesses v k (after_assign t x m)
accesses v (fetch k) m = was_fetched m.state.pc ∷ accesses v (k (loaded Word m.memory m.state.pc)) (after_fetch m)
accesses v (read w a k) m = was_read w a ∷ accesses v (k (loaded w m.memory a)) (after_read a m)
accesses v (write w a x k) m = was_written w a x ∷ accesses v k (after_write w a x m)
accesses v (sense b k) m = was_sensed b ∷ accesses v (k (Cru.sensed m.state.psi v b).value) (after_sense v b m)
accesses v (drive b x k) m = was_driven b x ∷ accesses v k (after_drive b x m)

-- how many instruction words were fetched at the PC
unfoldable pub fetches : List Access → ℕ
fetches [] = 0
fetches (was_fetched a ∷ l) = suc (fetches l)
fetches (was_read w a ∷ l) = fetches l
fetches (was_written w a x ∷ l) = fetches l
fetches (was_sensed b ∷ l) = fetches l
fetches (was_driven b x ∷ l) = fetches l

-- the places of all bytes that were stored into, equal values included, where this is the first read-only address; a dropped store
-- has none
unfoldable pub written : ℕ → List Access → List ℕ
written first [] = []
written first (was_fetched a ∷ l) = written first l
written first (was_read w a ∷ l) = written first l
written first (was_written w a x ∷ l) = reached first w a ++ written first l
written first (was_sensed b ∷ l) = written first l
written first (was_driven b x ∷ l) = written first l
