-- One step keeps the book: a note that stood still stands, because the step stores into none of its save words; a new note
-- stands, because the step saved what it notes, below the read-only part; and RTWP loads what the latest note says, because that note
-- stands.
use Prim.Native.Nat.{ℕ, ◌%◌, ◌<◌}
use mathlib.Core.Path.{◌≡◌, ◌∙◌}
use mathlib.Core.Bool.{true, or-true}
use mathlib.Core.List.{List, [], ◌∷◌}
use native.Mathlib.Omega.{arith}
use Rattle.memory.specs.declared.Width.TheVariants.{Word}
use Rattle.memory.specs.Memory.{size, loaded, touched, covers, disjoint}
use Rattle.memory.proofs.Laws.{covers_append, loaded_agree, loaded_same, disjoint_covers}
use Rattle.psi.specs.declared.Record.{Record}
use Rattle.psi.specs.Pins.{parted}
use Rattle.machine.specs.declared.Deed.TheVariants.{Ordinary, Unassigned, Switched, Returned}
use Rattle.machine.specs.State.{Machine}
use Rattle.machine.specs.Perform.{fetches, written}
use Rattle.machine.specs.Operands.{register_at}
use Rattle.machine.specs.Step.{Kind, was_reset, was_load, was_idle, was_level, ran, clocked, stepping, step}
use Rattle.machine.proofs.Laws.{keeps_the_rest}
use Rattle.machine.proofs.ReadOnly.{step_keeps_read_only}
use Rattle.book.specs.Book.{Note, Book, Event, opened, returned, cleared, other, turn, note, step_accesses, event_of, event, moment}
use Rattle.book_claim.specs.Claim.{save_places, Each, Avoided, InWorkspace, Saved, Respected, Stands, Restored, GivenBack, Kept}
use Rattle.book_claim.proofs.Each.{each_map, each_zip}
use Rattle.book_claim.proofs.Switch.{noted, Standing}
use Rattle.book_claim.proofs.Execute.{Taken, Meant}
use Rattle.book_claim.proofs.Step.{Meaning, step_means, Sound}

-- what is noted could be a machine's: WP and PC are even, and all three have 16 bits
pub record Proper (n : Note) : Type 0 where
  pub wp : n.wp < 65536
  pub wp_even : n.wp % 2 ≡ 0
  pub pc : n.pc < 65536
  pub pc_even : n.pc % 2 ≡ 0
  pub st : n.st < 65536

pub record Good (m : List ℕ) (n : Note) : Type 0 where
  pub stands : Stands m n
  pub proper : Proper n

-- the frame: what a step does not store into keeps its bytes
module _ (word : ℕ) (m : Machine) (n : Note) (apart : disjoint (save_places n) (written m.state.rom (step_accesses word m)) ≡ true) where
  word_kept :
      (a : ℕ) → ((i : ℕ) → covers i (touched Word a) ≡ true → covers i (save_places n) ≡ true)
      → loaded Word (step word m).machine.memory a ≡ loaded Word m.memory a
  unfolding step step_accesses
  word_kept a within =
      let p : Record = parted word in
      let start : Machine = clocked p.cycles m in
      loaded_agree Word (step word m).machine.memory m.memory a
      (λ i c. keeps_the_rest p.levels (stepping p.levels start) start i
      (disjoint_covers (save_places n) (written m.state.rom (step_accesses word m)) i apart (within i c)))

  pub still_stands : Stands m.memory n → Stands (step word m).machine.memory n
  unfolding save_places
  still_stands s =
      record {
        wp = word_kept (register_at n.workspace 13) (λ i c. simp (covers_append, c)) ∙ s.wp;
        pc = word_kept (register_at n.workspace 14) (λ i c. simp (covers_append, c, or-true)) ∙ s.pc;
        st = word_kept (register_at n.workspace 15) (λ i c. simp (covers_append, c, or-true)) ∙ s.st;
      }

-- workspaces that are equal modulo the memory's size have the same registers
same_registers :
    (m : List ℕ) (a b : ℕ) → a % size ≡ b % size → (i : ℕ) → loaded Word m (register_at a i) ≡ loaded Word m (register_at b i)
same_registers m a b e i = loaded_same Word m (register_at a i) (register_at b i) (omega arith)

-- RTWP in a standing entry's workspace loads what was noted
restored :
    (wp : ℕ) (n : Machine) (x : Note)
    → wp % size ≡ x.workspace % size → Good n.memory x → Taken wp n → Restored n.state x
restored wp n x e g t =
    let same = same_registers n.memory wp x.workspace e in
    record {
      wp = t.wp ∙ rw (same 13, g.stands.wp) (omega arith);
      pc = t.pc ∙ rw (same 14, g.stands.pc) (omega arith);
      st = t.st ∙ rw (same 15, g.stands.st) (omega arith);
    }

-- what a step with this event has done
unfoldable pub Brought : Event → Machine → Machine → Type 0
Brought (opened x) m n = Good n.memory x
Brought returned m n = Taken m.state.wp n
Brought cleared m n = Unit
Brought other m n = Unit

module _ (word : ℕ) (m : Machine) (h : Sound m) where
  new_note :
      (i : ℕ) → Standing (step word m).machine (noted m (step word m).machine i)
      → Each (λ p. p < m.state.rom) (save_places (note word m i)) → Good (step word m).machine.memory (note word m i)
  unfolding note
  new_note i s below =
      record {
        stands = s (rw (step_keeps_read_only word m) below);
        proper = record {
          wp = h.fit.words.wp;
          wp_even = h.form.even.wp;
          pc = omega arith;
          pc_even = omega (arith, h.form.even.pc);
          st = h.fit.words.st;
        };
      }

  brought_by :
      (k : Kind) → Meaning k m (step word m).machine (fetches (step_accesses word m))
      → Saved (event_of word m k) m.state.rom → Brought (event_of word m k) m (step word m).machine
  unfolding Brought Meaning Meant Saved event_of
  brought_by was_reset d below = tt
  brought_by was_load d below = new_note 0 d below
  brought_by was_idle d below = tt
  brought_by (was_level k) d below = new_note 0 d below
  brought_by (ran Ordinary) d below = tt
  brought_by (ran Unassigned) d below = tt
  brought_by (ran Switched) d below = new_note (fetches (step_accesses word m)) d below
  brought_by (ran Returned) d below = d

  brought : Saved (event word m) m.state.rom → Brought (event word m) m (step word m).machine
  unfolding event
  brought = brought_by (step word m).value (step_means word m h.fit)

-- the notes after a step and what RTWP gave back, from the frame and from what the step has done
module _ (m n : Machine) (ws : List ℕ) (frame : (x : Note) → disjoint (save_places x) ws ≡ true → Stands m.memory x → Stands n.memory x) where
  still_good : (b : Book) → Each (λ x. disjoint (save_places x) ws ≡ true) b → Each (Good m.memory) b → Each (Good n.memory) b
  still_good = each_zip (λ x d g. record { stands = frame x d g.stands; proper = g.proper })

  turned :
      (e : Event) (b : Book)
      → Brought e m n → Avoided e b ws → InWorkspace e b m.state.wp → Each (Good m.memory) b
      → Each (Good n.memory) (turn e b) × GivenBack e b n.state
  unfolding Brought Avoided InWorkspace Each turn GivenBack
  turned (opened x) b did avoids place g = ((did, still_good b avoids g), tt)
  turned returned [] did avoids place g = (tt, tt)
  turned returned (x ∷ b) did avoids place g =
      let k = still_good (x ∷ b) avoids g in
      (k.1, restored m.state.wp n x place k.0 did)
  turned cleared b did avoids place g = (tt, tt)
  turned other b did avoids place g = (still_good b avoids g, tt)

pub step_kept :
    (word : ℕ) (m : Machine) (b : Book) → Sound m → Each (Good m.memory) b → Respected (moment word m b)
    → Each (Good (step word m).machine.memory) (turn (event word m) b) × Kept (moment word m b)
unfolding moment
step_kept word m b h g r =
    let k = turned m (step word m).machine (written m.state.rom (step_accesses word m)) (still_stands word m) (event word m) b
    (brought word m h r.saved) r.avoids r.in_place g in
    (k.0, record { stand = each_map (λ x e. e.stands) (turn (event word m) b) k.0; given_back = k.1 })
