-- The answer of a step tells which signal was admitted, and the signal comes from the lowest request's number by two choices,
-- each of which either keeps or drops it.
use Prim.Native.Nat.{ℕ, ◌+◌, ◌-◌, ◌%◌, ◌≤◌, ◌<◌}
use mathlib.Core.Path.{◌≡◌, refl, sym, ap, subst, ◌∙◌}
use mathlib.Core.Bool.{Bool, true, false}
use native.Mathlib.Omega.{arith}
use native.Mathlib.Decide.{dec_lt}
use borrow.Author.Tests.{eqb-true, eqb-false, ltb-true, ltb-false, leb-true, eq-eqb, ne_eqb, lt-ltb, le-ltb, le-leb}
use lib.Dec.{eqb, ltb, leb}
use Rattle.bits.specs.Bits.{bit}
use Rattle.psi.specs.declared.Psi.{Psi}
use Rattle.psi.specs.Pins.{parted, request, code}
use Rattle.psi.proofs.Cases.{either_way}
use Rattle.psi.proofs.RequestLaws.{request_meaning}
use Rattle.machine.specs.State.{Registers, Machine, registers, idle, no_sample}
use Rattle.machine.specs.Micro as Micro
use Rattle.machine.specs.Micro.{Micro}
use Rattle.machine.specs.Perform.{perform, accesses}
use Rattle.machine.specs.declared.Signal.{Signal}
use Rattle.machine.specs.declared.Signal.TheVariants.{Reset as reset, Load as load, Nothing as none, Level as level}
use Rattle.machine.specs.declared.Deed.{Deed}
use Rattle.machine.specs.declared.Deed.TheVariants as deed
use Rattle.machine.specs.declared.StepAnswer.{StepAnswer}
use Rattle.machine.specs.declared.StepAnswer.TheVariants.{Reset, Load, Level}
use Rattle.machine.specs.Answer.{told_word, told, as_told, answer}
use Rattle.machine.specs.Step.{Kind, signal, admitted, boundary, proceed, clocked, stepping, step}
use Rattle.machine.proofs.Bind.{perform_bind, perform_done, perform_registers}
use Rattle.book.specs.Book.{step_accesses}
use Rattle.claims.specs.Answers.{LevelsInRange}
use Rattle.claims.specs.Interrupts.{Lowest, code_at, at_step, LevelsExactly, NoneUnsampled, LoadExactly, ResetExactly, taken, AnswersTell}

-- the number that `request` gives is the lowest request's, where there is one; so is the code
clash : (b : Bool) → b ≡ true → b ≡ false → ⊥
clash b t f = let z : ◌≡◌ {A = ℕ} 0 1 = cc in omega arith

module _ (s : Psi) (v : ℕ) where
  not_below : (n : ℕ) → Lowest s v n → request s v < n → ⊥
  not_below n l h =
      let meant = request_meaning s v in
      elim (dec_lt 0 (request s v)) [
        | yes p ↦ clash _ (meant.found p).1 (l.none_lower (request s v) p (omega arith))
        | no z ↦ clash _ l.is_requested (meant.none (omega arith) n l.from_1 l.to_15)
      ]

  not_above : (n : ℕ) → Lowest s v n → n < request s v → ⊥
  not_above n l h = clash _ l.is_requested (((request_meaning s v).found (omega arith)).2 n l.from_1 h)

  same_request : (n : ℕ) → Lowest s v n → request s v ≡ n
  same_request n l =
      elim (dec_lt (request s v) n) [
        | yes h ↦ absurd (not_below n l h)
        | no g ↦ elim (dec_lt n (request s v)) [ yes h ↦ absurd (not_above n l h) | no f ↦ omega arith ]
      ]

  code_of : (n : ℕ) → Lowest s v n → code s v ≡ n % 8
  unfolding code
  code_of n l =
      let q = same_request n l in
      let o = l.from_1 in
      rw (ne_eqb (request s v) 0 (omega arith), q)

  lowest_of : (c : ℕ) → code s v ≡ c → c < 7 → (n : ℕ) × Lowest s v n × (n % 8 ≡ c)
  unfolding code
  lowest_of c e h =
      elim (dec_lt 0 (request s v)) [
        | yes p ↦
            let f = (request_meaning s v).found p in
            let low : Lowest s v (request s v) = record { from_1 = p; to_15 = f.0; is_requested = f.1; none_lower = f.2 } in
            (request s v, low, sym (code_of (request s v) low) ∙ e)
        | no z ↦
            let q : request s v ≡ 0 = omega arith in
            let seven = rw (eq-eqb (request s v) 0 q) at e in
            absurd (omega arith)
      ]

-- what an admitted signal says of the registers and the code
Holds : Registers → ℕ → Signal → Type 0
Holds r c reset = c < 2
Holds r c load = (bit no_sample r.flags ≡ false) × (c ≡ 2)
Holds r c (level k) = (bit no_sample r.flags ≡ false) × (c ≡ k + 2) × (1 ≤ k) × (k ≤ 4) × (k ≤ r.st % 16)
Holds r c none = Unit

holds : (r : Registers) (c : ℕ) → Holds r c (admitted r (signal c))
unfolding signal admitted Holds
holds r c =
    either_way (λ s. Holds r c (admitted r s)) (ltb c 2) (λ t. ltb-true c 2 t)
    (λ f. either_way (λ s. Holds r c (admitted r s)) (eqb c 2)
    (λ t. either_way (Holds r c) (bit no_sample r.flags) (λ n. tt) (λ n. (n, eqb-true c 2 t)))
    (λ g. either_way (λ s. Holds r c (admitted r s)) (ltb c 7)
    (λ t. either_way (Holds r c) (bit no_sample r.flags) (λ n. tt)
    (λ n. either_way (Holds r c) (leb (c - 2) (r.st % 16))
    (λ l.
    let a = ltb-false c 2 f in
    let b = ltb-true c 7 t in
    let d = eqb-false c 2 g in
    (n, omega arith, omega arith, omega arith, leb-true (c - 2) _ l))
    (λ l. tt)))
    (λ h. tt)))

-- and back
admitted_reset : (r : Registers) (c : ℕ) → Holds r c reset → admitted r (signal c) ≡ reset
unfolding signal admitted Holds
admitted_reset r c h = rw (lt-ltb c 2 h)

admitted_load : (r : Registers) (c : ℕ) → Holds r c load → admitted r (signal c) ≡ load
unfolding signal admitted Holds
admitted_load r c h = rw (h.1, h.0)

admitted_level : (r : Registers) (c k : ℕ) → Holds r c (level k) → admitted r (signal c) ≡ level k
unfolding signal admitted Holds
admitted_level r c k h =
    let (n, e, lo, hi, mask) = h in
    let d : c - 2 ≡ k = omega arith in
    rw (le-ltb c 2 (omega arith), ne_eqb c 2 (omega arith), lt-ltb c 7 (omega arith), n, d, le-leb _ _ mask)

pub step_is : (word : ℕ) (m : Machine)
    → step word m ≡ perform (parted word).levels (boundary (at_step word m)) (clocked (parted word).cycles m)
unfolding step stepping at_step
step_is word m = rw (perform_bind, perform_registers)

-- and its accesses are those of what is taken there
pub step_accesses_are : (word : ℕ) (m : Machine)
    → step_accesses word m ≡ accesses (parted word).levels (boundary (at_step word m)) (clocked (parted word).cycles m)
unfolding accesses Micro.registers stepping at_step step_accesses
step_accesses_are word m = refl

-- where a word was executed, nothing was taken at the boundary
taken_word : (pc : ℕ) (d : Deed) → taken (told_word pc d) ≡ none
unfolding taken told_word
taken_word pc deed.Ordinary = refl
taken_word pc deed.Unassigned = refl
taken_word pc deed.Switched = refl
taken_word pc deed.Returned = refl

-- each microprogram of a boundary ends by saying what it was
proceeds : (v pc : ℕ) (m : Machine) → taken (told pc (perform v proceed m).value) ≡ none
unfolding taken told proceed
proceeds v pc m =
    rw (perform_bind, perform_registers)
    (either_way (λ (p : Micro Kind). taken (told pc (perform v p m).value) ≡ none) (bit idle m.state.flags)
    (λ t. rw perform_done) (λ f. rw (perform_bind, perform_bind, perform_bind, perform_done) (taken_word pc _)))

taken_boundary : (v pc : ℕ) (g : Signal) (m : Machine) → taken (told pc (perform v (boundary g) m).value) ≡ g
unfolding boundary taken told
taken_boundary v pc reset m = rw (perform_bind, perform_done)
taken_boundary v pc load m = rw (perform_bind, perform_done)
taken_boundary v pc (level k) m = rw (perform_bind, perform_done)
taken_boundary v pc none m = proceeds v pc m

pub taken_step : (word : ℕ) (m : Machine) → taken (answer word m) ≡ at_step word m
unfolding answer as_told
taken_step word m = rw step_is (taken_boundary _ m.state.pc (at_step word m) _)

-- what is known of a step by its answer
module _ (word : ℕ) (m : Machine) where
  Held : Signal → Type 0
  Held = Holds (registers m.state) (code_at word m)

  held : (a : StepAnswer) → answer word m ≡ a → Held (taken a)
  unfolding at_step Held
  held a e = subst Held (sym (taken_step word m) ∙ ap taken e) (holds _ _)

  -- and what makes it answer that
  resets : Held reset → answer word m ≡ Reset
  unfolding at_step Held boundary answer as_told told
  resets h = rw (step_is, admitted_reset _ _ h, perform_bind, perform_done)

  loads : Held load → answer word m ≡ Load
  unfolding at_step Held boundary answer as_told told
  loads h = rw (step_is, admitted_load _ _ h, perform_bind, perform_done)

  enters : (k : ℕ) → Held (level k) → answer word m ≡ Level k
  unfolding at_step Held boundary answer as_told told
  enters k h = rw (step_is, admitted_level _ _ k h, perform_bind, perform_done)

pub levels_exactly : LevelsExactly
unfolding Held Holds taken
levels_exactly word m k sampled = (
  λ e.
      let (s, c, lo, hi, mask) = held word m (Level k) e in
      let (n, l, q) = lowest_of _ _ _ c (omega arith) in
      (n, l, q, omega arith, omega arith, omega arith),
  λ a.
      let (n, l, q, lo, hi, mask) = a in
      enters word m k (sampled, code_of _ _ n l ∙ q, omega arith, omega arith, omega arith),
)

pub none_unsampled : NoneUnsampled
unfolding Held Holds taken
none_unsampled word m k set =
    (λ e. clash _ set (held word m (Level k) e).0, λ e. clash _ set (held word m Load e).0)

pub load_exactly : LoadExactly
unfolding Held Holds taken
load_exactly word m = (
  λ e.
      let (s, c) = held word m Load e in
      let (n, l, q) = lowest_of _ _ _ c (omega arith) in
      (s, (n, l, q)),
  λ a. let (s, (n, l, q)) = a in loads word m (s, code_of _ _ n l ∙ q),
)

pub reset_exactly : ResetExactly
unfolding Held Holds taken
reset_exactly word m = (
  λ e.
      let c = held word m Reset e in
      let (n, l, q) = lowest_of _ _ (code_at word m) refl (omega arith) in
      (n, l, omega arith),
  λ a. let (n, l, q) = a in let c = code_of _ _ n l in resets word m (omega arith),
)

pub answers_tell : AnswersTell
answers_tell word m = rw taken_step (step_is word m)

pub levels_in_range : LevelsInRange
unfolding Held Holds taken
levels_in_range word m k e = let (s, c, lo, hi, mask) = held word m (Level k) e in (omega arith, omega arith)
