-- An entry that the pins cause makes five accesses to memory, which leave all of the PSI but the read register. What the flags are after
-- a step is machine's law: after each of the five entries no-sample alone.
use Prim.Native.Nat.{ℕ}
use mathlib.Core.Path.{◌≡◌, refl, ◌∙◌}
use mathlib.Core.Bool.{Bool, true, false}
use Rattle.bits.specs.Bits.{bit}
use Rattle.psi.specs.declared.Psi.{Psi}
use Rattle.psi.specs.Clock.{advanced}
use Rattle.psi.specs.Cru.{selected}
use Rattle.psi.specs.Pins.{parted}
use Rattle.machine.specs.declared.Deed.TheVariants.{Ordinary, Unassigned, Switched, Returned}
use Rattle.machine.specs.State.{Machine, idle, no_sample}
use Rattle.machine.specs.Micro.{registers, set, load, store}
use Rattle.machine.specs.Perform.{accesses}
use Rattle.machine.specs.Operands.{set_register}
use Rattle.machine.specs.Groups as G
use Rattle.machine.specs.Step.{Kind, was_reset, was_load, was_idle, was_level, ran, vector, enter, boundary, step}
use Rattle.machine.specs.Answer.{told, as_told, answer}
use Rattle.machine.specs.Flags.{FlagsByWord, FlagsByStep}
use Rattle.machine.specs.Order.{switching}
use Rattle.machine.proofs.Refresh.{InMemory, only_refreshed}
use Rattle.machine.proofs.Flags.{steps_tell_the_flags}
use Rattle.claims.specs.Interrupts.{taken}
use Rattle.claims.specs.Entries.{Caused, Entry, Alike, entry_accesses, EntriesAccess, EntriesLeaveThePsi, EntriesSetNoSample, EntriesClearIdle}
use Rattle.claims.proofs.Clock.{alike_advanced}
use Rattle.claims.proofs.Refresh.{step_psi}
use Rattle.claims.proofs.Interrupts.{step_accesses_are, taken_step}

-- an entry accesses its vector's words and its save words
accessed : (pc : ℕ) (k : Kind) → Caused k → (v : ℕ) (m : Machine)
    → accesses v (boundary (taken (told pc k))) m ≡ switching (vector (taken (told pc k))) m
unfolding accesses registers set load store set_register G.set_status G.switch enter boundary Caused taken told
accessed pc was_reset c v m = refl
accessed pc was_load c v m = refl
accessed pc (was_level k) c v m = refl
accessed pc was_idle c v m = absurd c
accessed pc (ran d) c v m = absurd c

pub entries_access : EntriesAccess
unfolding answer as_told
entries_access word m c = step_accesses_are word m ∙ rw (← taken_step word m) (accessed m.state.pc (step word m).value c _ _)

-- S0 leaves masks, ports and load
alike_selected : (s0 : Bool) (p q : Psi) → Alike p q → Alike (selected s0 p) q
unfolding selected
alike_selected true p q a = record { mask = a.mask; direction = a.direction; latch = a.latch; load = a.load }
alike_selected false p q a = a

pub entries_leave_the_psi : EntriesLeaveThePsi
unfolding InMemory
entries_leave_the_psi word m c =
    let p : Psi = advanced (parted word).cycles m.state.psi in
    let e = rw (entries_access word m c) at (step_psi word m) ∙ only_refreshed (parted word).levels (entry_accesses word m) p tt in
    (e, rw e (alike_selected _ _ _ (alike_advanced (parted word).cycles m.state.psi)))

-- the flags after an entry of the five, and after one that the pins cause
unsampled : (k : Kind) (e f : ℕ) → Entry k → FlagsByStep k e f → bit no_sample f ≡ true
unfolding bit Entry FlagsByStep FlagsByWord
unsampled was_reset e f c h = rw h
unsampled was_load e f c h = rw h
unsampled (was_level k) e f c h = rw h
unsampled was_idle e f c h = absurd c
unsampled (ran Ordinary) e f c h = absurd c
unsampled (ran Unassigned) e f c h = absurd c
unsampled (ran Switched) e f c h = rw h
unsampled (ran Returned) e f c h = absurd c

awake : (k : Kind) (e f : ℕ) → Caused k → FlagsByStep k e f → bit idle f ≡ false
unfolding bit Caused FlagsByStep
awake was_reset e f c h = rw h
awake was_load e f c h = rw h
awake (was_level k) e f c h = rw h
awake was_idle e f c h = absurd c
awake (ran d) e f c h = absurd c

pub entries_set_no_sample : EntriesSetNoSample
entries_set_no_sample word m c = unsampled (step word m).value m.state.flags _ c (steps_tell_the_flags word m)

pub entries_clear_idle : EntriesClearIdle
entries_clear_idle word m c = awake (step word m).value m.state.flags _ c (steps_tell_the_flags word m)
