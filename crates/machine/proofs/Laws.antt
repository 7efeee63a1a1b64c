-- Laws of every microprogram, each by one induction over its accesses: only a store changes memory, and only `assign` and
-- a fetch change WP and PC.
use Rattle.std.specs.Prelude.{if◌then◌else◌}
use Rattle.std.proofs.Common.{◌≡◌, ℕ, ◌%◌, ◌≤◌, Bool, true, false, ◌||◌, List, [], length, get_or, sym, refl, ◌∙◌, arith, eq-eqb, eqb-true, le-leb, leb-true}
use Rattle.bits.proofs.Laws.{conjuncts}
use Rattle.memory.specs.declared.Width.{Width}
use Rattle.memory.specs.declared.Width.TheVariants.{Word}
use Rattle.memory.specs.Memory.{size, Bytes, loaded, stored, covers, touched}
use Rattle.memory.proofs.Laws.{stored_length, stored_bytes, stored_frame, covers_append}
use Rattle.psi.specs.Cru as Cru
use Rattle.psi.specs.Formed as Formed
use Rattle.psi.proofs.Cases.{either_way}
use Rattle.psi.proofs.Kept as Psi
use Rattle.machine.specs.declared.State.{State}
use Rattle.machine.specs.State.{Machine, registers, well_formed}
use Rattle.machine.specs.Micro.{done, look, assign, fetch, read, write, sense, drive, Target, to_wp, to_pc, to_st, to_flags}
use Rattle.machine.specs.Perform.{dropped, received, reached, perform, accesses, written, after_assign, after_fetch, after_read, after_write, after_sense, after_drive, assigned}
use Rattle.machine.specs.Laws.{KeepsTheRest, KeepsTheLength, KeepsBytes, Even, KeepsEven, Words, KeepsWords, KeepsThePsiFormed}

-- both parts of a false disjunction are false
pub or_left : (a b : Bool) → (a || b) ≡ false → a ≡ false
or_left true b e = e
or_left false b e = refl

pub or_right : (a b : Bool) → (a || b) ≡ false → b ≡ false
or_right true true e = e
or_right true false e = refl
or_right false b e = e

-- a store that may be dropped leaves the memory as it was, or is a store
received_keeps :
    (P : List ℕ → Type 0) (first : ℕ) (w : Width) (m : List ℕ) (a x : ℕ) → P m → P (stored w m a x) → P (received first w m a x)
unfolding received
received_keeps P first w m a x h k = either_way (λ (n : List ℕ). P n) (dropped first w a) (λ _. h) (λ _. k)

received_length : (first : ℕ) (w : Width) (m : List ℕ) (a x : ℕ) → length (received first w m a x) ≡ length m
received_length first w m a x = received_keeps (λ n. length n ≡ length m) first w m a x refl (stored_length w m a x)

received_bytes : (first : ℕ) (w : Width) (m : List ℕ) (a x : ℕ) → Bytes m → Bytes (received first w m a x)
received_bytes first w m a x h = received_keeps Bytes first w m a x h (stored_bytes w m a x h)

received_frame :
    (first : ℕ) (w : Width) (m : List ℕ) (a x i : ℕ)
    → covers i (reached first w a) ≡ false
    → get_or (received first w m a x) i 0 ≡ get_or m i 0
unfolding received reached
received_frame first w m a x i = by_test (dropped first w a)
  where
    by_test : (b : Bool) → covers i (if b then [] else touched w a) ≡ false → get_or (if b then m else stored w m a x) i 0 ≡ get_or m i 0
    by_test true e = refl
    by_test false e = stored_frame w m a x i e

-- loading a register leaves the read-only address
pub assigned_rom : (t : Target) (x : ℕ) (s : State) → (assigned t x s).rom ≡ s.rom
assigned_rom to_wp x s = refl
assigned_rom to_pc x s = refl
assigned_rom to_st x s = refl
assigned_rom to_flags x s = refl

pub keeps_the_rest : {A : Type 0} → KeepsTheRest A
unfolding perform accesses written
keeps_the_rest v (done a) m i e = refl
keeps_the_rest v (look k) m i e = keeps_the_rest v (k (registers m.state)) m i e
keeps_the_rest v (assign t x k) m i e = keeps_the_rest v k (after_assign t x m) i (rw (assigned_rom t x m.state) e)
keeps_the_rest v (fetch k) m i e = keeps_the_rest v (k (loaded Word m.memory m.state.pc)) (after_fetch m) i e
keeps_the_rest v (read w a k) m i e = keeps_the_rest v (k (loaded w m.memory a)) (after_read a m) i e
keeps_the_rest v (write w a x k) m i e =
    let first = m.state.rom in
    let f = sym (covers_append i (reached first w a) (written first (accesses v k (after_write w a x m)))) ∙ e in
    keeps_the_rest v k (after_write w a x m) i (or_right (covers i (reached first w a)) _ f)
    ∙ received_frame first w m.memory a x i (or_left (covers i (reached first w a)) _ f)
keeps_the_rest v (sense b k) m i e =
    keeps_the_rest v (k (Cru.sensed m.state.psi v b).value) (after_sense v b m) i e
keeps_the_rest v (drive b x k) m i e = keeps_the_rest v k (after_drive b x m) i e

pub keeps_the_length : {A : Type 0} → KeepsTheLength A
unfolding perform
keeps_the_length v (done a) m = refl
keeps_the_length v (look k) m = keeps_the_length v (k (registers m.state)) m
keeps_the_length v (assign t x k) m = keeps_the_length v k (after_assign t x m)
keeps_the_length v (fetch k) m = keeps_the_length v (k (loaded Word m.memory m.state.pc)) (after_fetch m)
keeps_the_length v (read w a k) m = keeps_the_length v (k (loaded w m.memory a)) (after_read a m)
keeps_the_length v (write w a x k) m =
    keeps_the_length v k (after_write w a x m) ∙ received_length m.state.rom w m.memory a x
keeps_the_length v (sense b k) m = keeps_the_length v (k (Cru.sensed m.state.psi v b).value) (after_sense v b m)
keeps_the_length v (drive b x k) m = keeps_the_length v k (after_drive b x m)

pub keeps_bytes : {A : Type 0} → KeepsBytes A
unfolding perform
keeps_bytes v (done a) m h = h
keeps_bytes v (look k) m h = keeps_bytes v (k (registers m.state)) m h
keeps_bytes v (assign t x k) m h = keeps_bytes v k (after_assign t x m) h
keeps_bytes v (fetch k) m h = keeps_bytes v (k (loaded Word m.memory m.state.pc)) (after_fetch m) h
keeps_bytes v (read w a k) m h = keeps_bytes v (k (loaded w m.memory a)) (after_read a m) h
keeps_bytes v (write w a x k) m h =
    keeps_bytes v k (after_write w a x m) (received_bytes m.state.rom w m.memory a x h)
keeps_bytes v (sense b k) m h = keeps_bytes v (k (Cru.sensed m.state.psi v b).value) (after_sense v b m) h
keeps_bytes v (drive b x k) m h = keeps_bytes v k (after_drive b x m) h

even_assigned : (t : Target) (x : ℕ) (m : Machine) → Even m.state → Even (assigned t x m.state)
even_assigned to_wp x m h = record { wp = omega arith; pc = h.pc }
even_assigned to_pc x m h = record { wp = h.wp; pc = omega arith }
even_assigned to_st x m h = record { wp = h.wp; pc = h.pc }
even_assigned to_flags x m h = record { wp = h.wp; pc = h.pc }

pub keeps_even : {A : Type 0} → KeepsEven A
unfolding perform
keeps_even v (done a) m h = h
keeps_even v (look k) m h = keeps_even v (k (registers m.state)) m h
keeps_even v (assign t x k) m h = keeps_even v k (after_assign t x m) (even_assigned t x m h)
keeps_even v (fetch k) m h =
    keeps_even v (k (loaded Word m.memory m.state.pc)) (after_fetch m) (record { wp = h.wp; pc = omega arith })
keeps_even v (read w a k) m h = keeps_even v (k (loaded w m.memory a)) (after_read a m) (record { wp = h.wp; pc = h.pc })
keeps_even v (write w a x k) m h = keeps_even v k (after_write w a x m) (record { wp = h.wp; pc = h.pc })
keeps_even v (sense b k) m h =
    keeps_even v (k (Cru.sensed m.state.psi v b).value) (after_sense v b m) (record { wp = h.wp; pc = h.pc })
keeps_even v (drive b x k) m h = keeps_even v k (after_drive b x m) (record { wp = h.wp; pc = h.pc })

words_assigned : (t : Target) (x : ℕ) (m : Machine) → Words m.state → Words (assigned t x m.state)
words_assigned to_wp x m h = record { wp = omega arith; pc = h.pc; st = h.st; flags = h.flags; psi = h.psi }
words_assigned to_pc x m h = record { wp = h.wp; pc = omega arith; st = h.st; flags = h.flags; psi = h.psi }
words_assigned to_st x m h = record { wp = h.wp; pc = h.pc; st = omega arith; flags = h.flags; psi = h.psi }
words_assigned to_flags x m h = record { wp = h.wp; pc = h.pc; st = h.st; flags = omega arith; psi = h.psi }

pub keeps_words : {A : Type 0} → KeepsWords A
unfolding perform
keeps_words v (done a) m h = h
keeps_words v (look k) m h = keeps_words v (k (registers m.state)) m h
keeps_words v (assign t x k) m h = keeps_words v k (after_assign t x m) (words_assigned t x m h)
keeps_words v (fetch k) m h =
    keeps_words v (k (loaded Word m.memory m.state.pc)) (after_fetch m)
    (record { wp = h.wp; pc = omega arith; st = h.st; flags = h.flags; psi = (Psi.kept_fits).address m.state.pc h.psi })
keeps_words v (read w a k) m h =
    keeps_words v (k (loaded w m.memory a)) (after_read a m)
    (record { wp = h.wp; pc = h.pc; st = h.st; flags = h.flags; psi = (Psi.kept_fits).address a h.psi })
keeps_words v (write w a x k) m h =
    keeps_words v k (after_write w a x m)
    (record { wp = h.wp; pc = h.pc; st = h.st; flags = h.flags; psi = (Psi.kept_fits).address a h.psi })
keeps_words v (sense b k) m h =
    keeps_words v (k (Cru.sensed m.state.psi v b).value) (after_sense v b m)
    (record { wp = h.wp; pc = h.pc; st = h.st; flags = h.flags; psi = (Psi.kept_fits).read v b h.psi })
keeps_words v (drive b x k) m h =
    keeps_words v k (after_drive b x m)
    (record { wp = h.wp; pc = h.pc; st = h.st; flags = h.flags; psi = (Psi.kept_fits).write b x h.psi })

pub keeps_the_psi_formed : {A : Type 0} → KeepsThePsiFormed A
unfolding perform
keeps_the_psi_formed v (done a) m h = h
keeps_the_psi_formed v (look k) m h = keeps_the_psi_formed v (k (registers m.state)) m h
keeps_the_psi_formed v (assign to_wp x k) m h = keeps_the_psi_formed v k (after_assign to_wp x m) h
keeps_the_psi_formed v (assign to_pc x k) m h = keeps_the_psi_formed v k (after_assign to_pc x m) h
keeps_the_psi_formed v (assign to_st x k) m h = keeps_the_psi_formed v k (after_assign to_st x m) h
keeps_the_psi_formed v (assign to_flags x k) m h = keeps_the_psi_formed v k (after_assign to_flags x m) h
keeps_the_psi_formed v (fetch k) m h =
    keeps_the_psi_formed v (k (loaded Word m.memory m.state.pc)) (after_fetch m) ((Psi.kept_formed).address m.state.pc h)
keeps_the_psi_formed v (read w a k) m h =
    keeps_the_psi_formed v (k (loaded w m.memory a)) (after_read a m) ((Psi.kept_formed).address a h)
keeps_the_psi_formed v (write w a x k) m h =
    keeps_the_psi_formed v k (after_write w a x m) ((Psi.kept_formed).address a h)
keeps_the_psi_formed v (sense b k) m h =
    keeps_the_psi_formed v (k (Cru.sensed m.state.psi v b).value) (after_sense v b m) ((Psi.kept_formed).read v b h)
keeps_the_psi_formed v (drive b x k) m h = keeps_the_psi_formed v k (after_drive b x m) ((Psi.kept_formed).write b x h)

-- the read-only address is even, and at most the memory's size
pub record Placed (first : ℕ) : Type 0 where
  pub even : first % 2 ≡ 0
  pub bound : first ≤ size

-- what well-formedness says
pub record Form (s : State) : Type 0 where
  pub even : Even s
  pub flags : s.flags ≤ 2
  pub first : Placed s.rom
  pub psi : Formed.well_formed s.psi ≡ true

pub form : (s : State) → well_formed s ≡ true → Form s
unfolding well_formed
form s w =
    let c1 = conjuncts _ _ w in
    let c2 = conjuncts _ _ c1.1 in
    let c3 = conjuncts _ _ c2.1 in
    let c4 = conjuncts _ _ c3.1 in
    let c5 = conjuncts _ _ c4.1 in
    record {
      even = record { wp = eqb-true _ _ c1.0; pc = eqb-true _ _ c2.0 };
      flags = leb-true s.flags _ c3.0;
      first = record { even = eqb-true _ _ c4.0; bound = leb-true s.rom _ c5.0 };
      psi = c5.1;
    }

pub formed : (s : State) → Form s → well_formed s ≡ true
unfolding well_formed
formed s f = rw (eq-eqb _ _ f.even.wp, eq-eqb _ _ f.even.pc, le-leb _ _ f.flags, eq-eqb _ _ f.first.even, le-leb _ _ f.first.bound) f.psi
