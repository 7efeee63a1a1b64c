-- Thirteen numbers that fit are a state's fields one by one, and the other way round; an array that does not fit stands for a state that is
-- not well formed, so that its refusal is that of the definition.
use Rattle.std.specs.Prelude.{if◌then◌else◌}
use Prim.Native.Nat.{ℕ, zero, suc, ◌+◌, ◌<◌}
use mathlib.Core.Path.{◌≡◌, refl, sym, ap, ◌∙◌}
use mathlib.Core.Bool.{Bool, true, false, not}
use mathlib.Core.List.{List, [], ◌∷◌}
use native.Mathlib.Omega.{arith}
use native.Mathlib.Numerals.{add-one}
use borrow.Author.Tests.{lt-ltb, ne_eqb}
use lib.ListN.{length, get_or, drop, drop_of_length-le}
use lib.Seq.{drop-cons}
use lib.Dec.{eqb}
use Rattle.memory.specs.Memory.{size}
use Rattle.machine.specs.declared.State.{State}
use Rattle.machine.specs.State.{well_formed}
use Rattle.machine.specs.Laws.{Words}
use Rattle.machine.specs.Answer.{number, value}
use Rattle.machine.specs.Run as Run
use Rattle.image_blocks.specs.Image as Image
use Rattle.image.specs.Calls as Calls
use Rattle.state_array.specs.Arrays.{all_fit, fits, held, unfit, state_of}
use Rattle.state_array.proofs.Below.{fit_at}
use Rattle.tms_replay.specs.Exported.{run, write}
use Rattle.exported_claims.specs.Arrays.{StateOfItsWords, WordsOfTheirState, RefusedRuns, UnfitRuns, UnfitWrites}

pub state_of_its_words : StateOfItsWords
unfolding state_of fits all_fit held Image.fields
state_of_its_words s w =
    rw (
      lt-ltb s.wp 65536 w.wp,
      lt-ltb s.pc 65536 w.pc,
      lt-ltb s.st 65536 w.st,
      lt-ltb s.flags 65536 w.flags,
      lt-ltb s.psi.mask 65536 w.psi.mask,
      lt-ltb s.psi.direction 65536 w.psi.direction,
      lt-ltb s.psi.latch 65536 w.psi.latch,
      lt-ltb s.psi.load 65536 w.psi.load,
      lt-ltb s.psi.decrementer 65536 w.psi.decrementer,
      lt-ltb s.psi.reading 65536 w.psi.reading,
      lt-ltb s.psi.phase 65536 w.psi.phase,
      lt-ltb s.psi.pending 65536 w.psi.pending,
    )

-- k elements from number i on
abbrev listed : List ℕ → ℕ → ℕ → List ℕ
listed w zero i = []
listed w (suc k) i = get_or w i 0 ∷ listed w k (i + 1)

listed_all : (w : List ℕ) (k i : ℕ) → length w ≡ i + k → listed w k i ≡ drop i w
listed_all w zero i h = sym (drop_of_length-le w {i = i} (omega arith))
listed_all w (suc k) i h = ap (◌∷◌ (get_or w i 0)) (listed_all w k (i + 1) (omega arith)) ∙ rw (add-one i) (sym (drop-cons w i 0 (omega arith)))

pub words_of_their_state : WordsOfTheirState
unfolding state_of held Image.fields
words_of_their_state w h f = rw f (listed_all w 13 0 h)

-- the state of an array has fields of 16 bits, all but the read-only address
pub state_words : (w : List ℕ) → Words (state_of w)
unfolding state_of held
state_words w = by_test (fits w) refl
  where
    by_test : (t : Bool) → fits w ≡ t → Words (state_of w)
    by_test true e =
        let fit : (i : ℕ) → i < 12 → get_or w i 0 < 65536 = λ i l. fit_at w i l e in
        rw e
        (record {
          wp = fit 0 (omega arith);
          pc = fit 1 (omega arith);
          st = fit 2 (omega arith);
          flags = fit 3 (omega arith);
          psi = record {
            mask = fit 4 (omega arith);
            direction = fit 5 (omega arith);
            latch = fit 6 (omega arith);
            load = fit 7 (omega arith);
            decrementer = fit 8 (omega arith);
            reading = fit 9 (omega arith);
            phase = fit 10 (omega arith);
            pending = fit 11 (omega arith);
          };
        })
    by_test false e =
        rw e
        (record {
          wp = omega arith;
          pc = omega arith;
          st = omega arith;
          flags = omega arith;
          psi = record {
            mask = omega arith;
            direction = omega arith;
            latch = omega arith;
            load = omega arith;
            decrementer = omega arith;
            reading = omega arith;
            phase = omega arith;
            pending = omega arith;
          };
        })

-- a run whose number is not 0 was refused
pub run_refused :
    (m : List ℕ) (s : State) (records : List ℕ) (steps stop : ℕ) → ((Run.run m s records steps stop).answer.number ≡ 0 → ⊥)
    → Run.run m s records steps stop ≡ Run.refused (Run.run_refusal (length m) s (length records) steps) s m
unfolding Run.run
run_refused m s records steps stop ne = by_test (eqb (Run.run_refusal (length m) s (length records) steps) 0) refl
  where
    by_test :
        (t : Bool) → eqb (Run.run_refusal (length m) s (length records) steps) 0 ≡ t
        → Run.run m s records steps stop ≡ Run.refused (Run.run_refusal (length m) s (length records) steps) s m
    by_test true e = absurd (ne (rw e))
    by_test false e = rw e

pub refused_runs : RefusedRuns
unfolding run number value
refused_runs m w records steps stop ne =
    let r = run_refused m (state_of w) records steps stop ne in
    (rw (ne_eqb (Run.run m (state_of w) records steps stop).answer.number 0 ne), rw r, rw r)

pub unfit_runs : UnfitRuns
unfolding run state_of Run.run Run.run_refusal well_formed
unfit_runs m w records steps stop f = rw f (by_test (eqb (length m) size) refl)
  where
    by_test :
        (t : Bool) → eqb (length m) size ≡ t → (Run.run m unfit records steps stop).answer.number ≡ (if not (eqb (length m) size) then 1 else 2)
    by_test true e = rw e
    by_test false e = rw e

pub unfit_writes : UnfitWrites
unfolding write state_of Calls.write Calls.write_fault well_formed
unfit_writes m w img f = rw f
