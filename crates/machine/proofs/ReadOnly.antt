-- Q-7: no access changes the read-only address, and a store that is not dropped begins below it, so at an even address it ends below it.
use Rattle.std.specs.Prelude.{if◌then◌else◌}
use Rattle.std.proofs.Common.{◌≡◌, ℕ, ◌%◌, ◌<◌, Bool, true, false, List, [], ◌∷◌, get_or, sym, refl, ◌∙◌, true≢false, arith, leb-false}
use borrow.Author.Tests.{lt-leb}
use Rattle.memory.specs.declared.Width.{Width}
use Rattle.memory.specs.declared.Width.TheVariants.{Byte, Word}
use Rattle.memory.specs.Memory.{place, loaded, covers, touched}
use Rattle.memory.proofs.Laws.{place_below, or_either, covers_append, touched_below}
use Rattle.psi.specs.Cru as Cru
use Rattle.psi.specs.Pins.{parted}
use Rattle.machine.specs.State.{Machine, registers}
use Rattle.machine.specs.Micro.{done, look, assign, fetch, read, write, sense, drive, store}
use Rattle.machine.specs.Perform.{dropped, received, reached, perform, was_fetched, was_read, was_written, was_sensed, was_driven, accesses, written, after_assign, after_fetch, after_read, after_write, after_sense, after_drive}
use Rattle.machine.specs.Laws.{KeepsReadOnly, StoresBelow, KeepsTheReadOnlyPart, StoresOrDrops, NoRomDropsNothing, Unaltered}
use Rattle.machine.specs.Step.{clocked, step}
use Rattle.machine.proofs.Laws.{assigned_rom, keeps_the_rest}

pub keeps_read_only : {A : Type 0} → KeepsReadOnly A
unfolding perform
keeps_read_only v (done a) m = refl
keeps_read_only v (look k) m = keeps_read_only v (k (registers m.state)) m
keeps_read_only v (assign t x k) m = keeps_read_only v k (after_assign t x m) ∙ assigned_rom t x m.state
keeps_read_only v (fetch k) m = keeps_read_only v (k (loaded Word m.memory m.state.pc)) (after_fetch m)
keeps_read_only v (read w a k) m = keeps_read_only v (k (loaded w m.memory a)) (after_read a m)
keeps_read_only v (write w a x k) m = keeps_read_only v k (after_write w a x m)
keeps_read_only v (sense b k) m = keeps_read_only v (k (Cru.sensed m.state.psi v b).value) (after_sense v b m)
keeps_read_only v (drive b x k) m = keeps_read_only v k (after_drive b x m)

-- a store that begins below an even number ends below it
ends_below : (first : ℕ) (w : Width) (a i : ℕ) → first % 2 ≡ 0 → place w a < first → covers i (touched w a) ≡ true → i < first
unfolding place
ends_below first Byte a i e l c = omega (arith, touched_below Byte a i c)
ends_below first Word a i e l c = omega (arith, touched_below Word a i c)

reached_below : (first : ℕ) (w : Width) (a i : ℕ) → first % 2 ≡ 0 → covers i (reached first w a) ≡ true → i < first
unfolding reached dropped covers
reached_below first w a i e = by_test (dropped first w a) refl
  where
    by_test : (b : Bool) → dropped first w a ≡ b → covers i (if b then [] else touched w a) ≡ true → i < first
    by_test true d c = absurd (true≢false (sym c))
    by_test false d c = ends_below first w a i e (leb-false first (place w a) d) c

pub stores_below : StoresBelow
unfolding written covers
stores_below first [] i e c = absurd (true≢false (sym c))
stores_below first (was_fetched a ∷ l) i e c = stores_below first l i e c
stores_below first (was_read w a ∷ l) i e c = stores_below first l i e c
stores_below first (was_written w a x ∷ l) i e c =
    or_either (i < first) (covers i (reached first w a)) (covers i (written first l))
    (sym (covers_append i (reached first w a) (written first l)) ∙ c)
    (reached_below first w a i e) (stores_below first l i e)
stores_below first (was_sensed b ∷ l) i e c = stores_below first l i e c
stores_below first (was_driven b x ∷ l) i e c = stores_below first l i e c

pub keeps_the_read_only_part : {A : Type 0} → KeepsTheReadOnlyPart A
keeps_the_read_only_part v p m i e h = by_test (covers i places) refl
  where
    places : List ℕ
    places = written m.state.rom (accesses v p m)

    by_test : (b : Bool) → covers i places ≡ b → get_or (perform v p m).machine.memory i 0 ≡ get_or m.memory i 0
    by_test true c = absurd (omega (arith, stores_below m.state.rom (accesses v p m) i e c))
    by_test false c = keeps_the_rest v p m i c

pub stores_or_drops : StoresOrDrops
unfolding received store perform
stores_or_drops v w a x m = (λ d. rw d, λ d. rw d)

pub no_rom_drops_nothing : NoRomDropsNothing
unfolding dropped received reached
no_rom_drops_nothing first w m a x h =
    let d = lt-leb first (place w a) (omega (arith, place_below w a)) in
    (d, rw d, rw d)

-- A step is one microprogram from a machine whose clock has advanced, and the clock changes neither the read-only address nor a byte.
pub step_keeps_read_only : (word : ℕ) (m : Machine) → (step word m).machine.state.rom ≡ m.state.rom
unfolding step
step_keeps_read_only word m = keeps_read_only _ _ (clocked (parted word).cycles m)

pub step_unaltered : (word : ℕ) (m : Machine) → m.state.rom % 2 ≡ 0 → Unaltered m (step word m).machine
unfolding step
step_unaltered word m e =
    record {
      address = step_keeps_read_only word m;
      part = λ i h. keeps_the_read_only_part _ _ (clocked (parted word).cycles m) i e h;
    }

pub unaltered_then : (l m n : Machine) → Unaltered l m → Unaltered m n → Unaltered l n
unaltered_then l m n x y =
    record {
      address = y.address ∙ x.address;
      part = λ i h. y.part i (rw x.address h) ∙ x.part i h;
    }
