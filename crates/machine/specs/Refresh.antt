-- Document 02, Q-4: which accesses refresh the PSI's read register, and what follows for every microprogram, so for every step.
use Rattle.std.specs.Prelude.{◌≡◌, ℕ, Bool, true, false, not, ◌&&◌, ◌||◌, List, [], ◌∷◌, ◌++◌, ◌==◌, nat_lt, if◌then◌else◌}
use Rattle.bits.specs.Bits.{bit}
use Rattle.psi.specs.declared.Psi.{Psi}
use Rattle.psi.specs.Psi.{control}
use Rattle.psi.specs.Cru as Cru
use Rattle.psi.specs.Cru.{memory_select, cru_select}
use Rattle.machine.specs.State.{Machine}
use Rattle.machine.specs.Micro.{Micro}
use Rattle.machine.specs.Perform.{perform, Access, was_fetched, was_read, was_written, was_sensed, was_driven, accesses}

-- the PSI after one access
unfoldable pub seen : ℕ → Access → Psi → Psi
seen v (was_fetched a) p = Cru.addressed a p
seen v (was_read w a) p = Cru.addressed a p
seen v (was_written w a x) p = Cru.addressed a p
seen v (was_sensed b) p = (Cru.sensed p v b).psi
seen v (was_driven b x) p = Cru.driven p b x

-- the PSI after accesses, one by one
unfoldable pub all_seen : ℕ → List Access → Psi → Psi
all_seen v [] p = p
all_seen v (a ∷ l) p = all_seen v l (seen v a p)

-- What the PSI is after a microprogram comes of its accesses alone.
abbrev pub PsiByAccesses : Type 0 → Type 0
PsiByAccesses A =
    (v : ℕ) (p : Micro A) (m : Machine)
    → (perform v p m).machine.state.psi ≡ all_seen v (accesses v p m) m.state.psi

-- An access refreshes the read register: weight 32 is in its byte address, or weight 16 in the number of its CRU bit, the PSI's own ports
-- included; or it makes the control bit 0.
unfoldable pub refreshes : Access → Bool
refreshes (was_fetched a) = bit memory_select a
refreshes (was_read w a) = bit memory_select a
refreshes (was_written w a x) = bit memory_select a
refreshes (was_sensed b) = bit cru_select b.0
refreshes (was_driven b x) = if b.0 == 0 then not x else bit cru_select b.0

-- some of these accesses do
unfoldable pub some_refreshes : List Access → Bool
some_refreshes [] = false
some_refreshes (a ∷ l) = refreshes a || some_refreshes l

-- Frozen: where no access refreshes the read register, it is as before.
abbrev pub Frozen : Type 0 → Type 0
Frozen A =
    (v : ℕ) (p : Micro A) (m : Machine)
    → some_refreshes (accesses v p m) ≡ false
    → (perform v p m).machine.state.psi.reading ≡ m.state.psi.reading

-- each of these accesses leaves the decrementer's value
unfoldable pub steady : ℕ → List Access → Psi → Bool
steady v [] p = true
steady v (a ∷ l) p = (seen v a p).decrementer == p.decrementer && steady v l (seen v a p)

-- Refreshed: where an access refreshes it, and none after that changes the decrementer, it is the decrementer.
abbrev pub Refreshed : Type 0 → Type 0
Refreshed A =
    (v : ℕ) (p : Micro A) (m : Machine) (before : List Access) (a : Access) (after : List Access)
    → accesses v p m ≡ before ++ (a ∷ after)
    → refreshes a ≡ true
    → steady v after (seen v a (all_seen v before m.state.psi)) ≡ true
    → (perform v p m).machine.state.psi.reading ≡ (perform v p m).machine.state.psi.decrementer

-- An access writes a load bit: 1 to 14 in clock mode.
unfoldable pub writes_load : Bool → Access → Bool
writes_load c (was_fetched a) = false
writes_load c (was_read w a) = false
writes_load c (was_written w a x) = false
writes_load c (was_sensed b) = false
writes_load c (was_driven b x) = c && (nat_lt 0 b.0 && nat_lt b.0 15)

-- Only such an access can change the decrementer.
abbrev pub LoadsAloneRestart : Type 0
LoadsAloneRestart =
    (v : ℕ) (a : Access) (p : Psi) → writes_load (control p) a ≡ false → (seen v a p).decrementer ≡ p.decrementer
