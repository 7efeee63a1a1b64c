-- The context switch read back: its three stores lie at places apart, and below the read-only part none is dropped, so R13, R14 and R15
-- at the new WP are the old WP, PC and ST. What follows it in an entry or in XOP stores at most into R11, dropped or not.
use Prim.Native.Nat.{ℕ, suc, ◌+◌, ◌*◌, ◌/◌, ◌%◌, ◌<◌, ◌≤◌}
use mathlib.Core.Path.{◌≡◌, refl, sym, ◌∙◌}
use mathlib.Core.Bool.{Bool, true, false}
use mathlib.Core.List.{List}
use native.Mathlib.Omega.{arith}
use lib.Dec.{ltb}
use borrow.Author.Tests.{ne_eqb, ltb-true, ltb-false, lt-leb}
use Rattle.bits.specs.Bits.{put}
use Rattle.memory.specs.declared.Width.TheVariants.{Word}
use Rattle.memory.specs.Memory.{Installed, loaded, place, places, touched, covers, disjoint}
use Rattle.memory.proofs.Laws.{loaded_frame, loaded_stored}
use Rattle.psi.proofs.Cases.{either_way}
use Rattle.isa.specs.declared.Operand.{Operand}
use Rattle.alu.specs.Status.{extended}
use Rattle.machine.specs.State.{Machine}
use Rattle.machine.specs.Micro.{◌>>◌, registers, set, load, store}
use Rattle.machine.specs.Perform.{dropped, received, perform, accesses, fetches, even}
use Rattle.machine.specs.Operands.{register_at, set_register, operand}
use Rattle.machine.specs.Groups.{set_status, switch, switch_by_operand, switch_by_number}
use Rattle.machine.specs.Step.{enter}
use Rattle.machine.proofs.Loads.{operand_loads}
use Rattle.book.specs.Book.{Note}
use Rattle.book_claim.specs.Claim.{Each, save_places, Stands}
use Rattle.book_claim.proofs.Each.{each_split}
use Rattle.book_claim.proofs.Does.{Fit, fit_kept, Judgement, Does, Movable, after_steady}

-- two words at places apart have no byte in common
words_apart : (a b : ℕ) → (place Word a ≡ place Word b → ⊥) → disjoint (touched Word a) (touched Word b) ≡ true
unfolding place places touched covers disjoint
words_apart a b d =
    simp (ne_eqb (place Word a) (place Word b) d, ne_eqb (place Word a) (suc (place Word b)) (omega arith), ne_eqb (suc (place Word a)) (place Word b) (omega arith), ne_eqb (suc (place Word a)) (suc (place Word b)) (omega arith))

register_place : (wp i : ℕ) → place Word (register_at wp i) ≡ (wp / 2 + i) % 8192 * 2
unfolding place
register_place wp i = omega arith

-- registers of one workspace that lie at one place are one register
below_register : (q i j : ℕ) → j < 16 → (q + i) % 8192 ≡ (q + j) % 8192 → j ≤ i
below_register q i j k e = go (ltb ((q + i) / 8192) ((q + j) / 8192)) refl
  where
    go : (t : Bool) → ltb ((q + i) / 8192) ((q + j) / 8192) ≡ t → j ≤ i
    go true t = omega (arith, ltb-true)
    go false t = omega (arith, ltb-false)

same_register : (q i j : ℕ) → i < 16 → j < 16 → (q + i) % 8192 * 2 ≡ (q + j) % 8192 * 2 → i ≡ j
same_register q i j h k e =
    let f : (q + i) % 8192 ≡ (q + j) % 8192 = omega arith in
    omega (arith, below_register q i j k f, below_register q j i h (sym f))

pub registers_apart :
    (wp i j : ℕ) → i < 16 → j < 16 → (i ≡ j → ⊥)
    → disjoint (touched Word (register_at wp i)) (touched Word (register_at wp j)) ≡ true
registers_apart wp i j h k d =
    words_apart (register_at wp i) (register_at wp j)
    (λ e. d (same_register (wp / 2) i j h k (sym (register_place wp i) ∙ e ∙ register_place wp j)))

-- the note of an entry between two machines: PC is higher by 2 for each of so many words
abbrev pub noted : Machine → Machine → ℕ → Note
noted m n words =
    record {
      workspace = n.state.wp;
      wp = m.state.wp;
      pc = (m.state.pc + 2 * words) % 65536;
      st = m.state.st;
    }

-- a note stands, if its save words lie below the machine's read-only part
abbrev pub Standing : Machine → Note → Type 0
Standing n x = Each (λ p. p < n.state.rom) (save_places x) → Stands n.memory x

-- the entry's note does
abbrev pub Entered : {A : Type 0} → Judgement A
Entered a m n words = Standing n (noted m n words)

pub entered_movable : {A : Type 0} → Movable {A = A} Entered
unfolding save_places
entered_movable a l m n i j h d below =
    let s = d below in
    record {
      wp = s.wp ∙ h.wp;
      pc = s.pc ∙ omega (arith, h.pc);
      st = s.st ∙ h.st;
    }

-- a store below the read-only part is not dropped
not_dropped : (first a : ℕ) → Each (λ p. p < first) (touched Word a) → dropped first Word a ≡ false
unfolding Each places touched dropped
not_dropped first a below = lt-leb first (place Word a) below.0

-- a register keeps its word where another is stored, dropped or not, and has the word that was stored into itself and not dropped
register_kept :
    (first : ℕ) (m : List ℕ) (wp i j x : ℕ) → i < 16 → j < 16 → (i ≡ j → ⊥)
    → loaded Word (received first Word m (register_at wp j) x) (register_at wp i) ≡ loaded Word m (register_at wp i)
unfolding received
register_kept first m wp i j x h k d =
    either_way (λ (n : List ℕ). loaded Word n (register_at wp i) ≡ loaded Word m (register_at wp i)) (dropped first Word (register_at wp j))
    (λ _. refl) (λ _. loaded_frame Word Word m (register_at wp i) (register_at wp j) x (registers_apart wp i j h k d))

register_stored :
    (first : ℕ) (m : List ℕ) (wp i x : ℕ) → Each (λ p. p < first) (touched Word (register_at wp i)) → Installed m → x < 65536
    → loaded Word (received first Word m (register_at wp i) x) (register_at wp i) ≡ x
unfolding received
register_stored first m wp i x below h k =
    rw (not_dropped first (register_at wp i) below) (loaded_stored Word m (register_at wp i) x h ∙ omega arith)

pub switch_saves : (vector : ℕ) → Does Entered (switch vector)
unfolding perform accesses fetches switch registers set load store set_register save_places
switch_saves vector v m h below =
    let first : ℕ = m.state.rom in
    let wp : ℕ = even (loaded Word m.memory vector) in
    let b13 = each_split _ (touched Word (register_at wp 13)) _ below in
    let b14 = each_split _ (touched Word (register_at wp 14)) _ b13.1 in
    let n13 : Machine = (perform v (store Word (register_at wp 13) m.state.wp) m).machine in
    let n14 : Machine = (perform v (store Word (register_at wp 14) m.state.pc) n13).machine in
    let h13 : Fit n13 = fit_kept v (store Word (register_at wp 13) m.state.wp) m h in
    let h14 : Fit n14 = fit_kept v (store Word (register_at wp 14) m.state.pc) n13 h13 in
    record {
      wp =
          register_kept first n14.memory wp 13 15 m.state.st (omega arith) (omega arith) (omega arith)
          ∙ register_kept first n13.memory wp 13 14 m.state.pc (omega arith) (omega arith) (omega arith)
          ∙ register_stored first m.memory wp 13 m.state.wp b13.0 h.installed h.words.wp;
      pc =
          register_kept first n14.memory wp 14 15 m.state.st (omega arith) (omega arith) (omega arith)
          ∙ register_stored first n13.memory wp 14 m.state.pc b14.0 h13.installed h.words.pc
          ∙ omega (arith, h.words.pc);
      st = register_stored first n14.memory wp 15 m.state.st b14.1 h14.installed h.words.st;
    }

-- An entry fetches nothing, and changes neither WP nor memory after its context switch.
pub enter_saves : (vector : ℕ) (f : ℕ → ℕ) → Does (λ u m n words. Standing n (noted m n 0)) (enter vector f)
unfolding perform accesses fetches enter switch set_status registers set load store set_register save_places
enter_saves vector f v m h = switch_saves vector v m h

pub blwp_saves : (o : Operand) → Does Entered (switch_by_operand o)
unfolding switch_by_operand
blwp_saves o = after_steady Entered entered_movable (operand Word o) switch (operand_loads _ Word o) switch_saves

-- XOP stores into the new R11 after its context switch, which may be dropped.
xop_saves : (vector a : ℕ) → Does Entered (switch vector >> (set_status (put extended true) >> set_register 11 a))
unfolding perform accesses fetches switch set_status registers set load store set_register save_places
xop_saves vector a v m h below =
    let s = switch_saves vector v m h below in
    let n : Machine = (perform v (switch vector) m).machine in
    let kept : (i : ℕ) → i < 16 → (i ≡ 11 → ⊥) → _ = λ i k d. register_kept n.state.rom n.memory n.state.wp i 11 a k (omega arith) d in
    record {
      wp = kept 13 (omega arith) (omega arith) ∙ s.wp;
      pc = kept 14 (omega arith) (omega arith) ∙ s.pc;
      st = kept 15 (omega arith) (omega arith) ∙ s.st;
    }

pub xop_operand_saves : (o : Operand) (n : ℕ) → Does Entered (switch_by_number o n)
unfolding switch_by_number
xop_operand_saves o n =
    after_steady Entered entered_movable (operand Word o) _ (operand_loads _ Word o) (λ a. xop_saves (64 + 4 * n) a)
