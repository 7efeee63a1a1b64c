-- What was observed of the calls of `tms_run` is what would have been observed of the calls of run: the array of an accepted call is the words
-- of the state after it, which fit, and that of a refused call is the one that was given.
use Prim.Native.Nat.{ℕ, zero, suc}
use mathlib.Core.Path.{◌≡◌, refl, sym, subst, ap}
use mathlib.Core.Bool.{Bool, true, false}
use mathlib.Core.List.{List, [], ◌∷◌}
use borrow.Author.Tests.{eqb-true, eqb-false}
use lib.ListN.{length}
use lib.Dec.{eqb}
use Rattle.machine.specs.declared.State.{State}
use Rattle.machine.specs.State.{Machine, at}
use Rattle.machine.specs.Laws.{Words}
use Rattle.machine.specs.Step.{step}
use Rattle.machine.specs.Run as Run
use Rattle.machine.proofs.Laws.{form}
use Rattle.run_rules.proofs.Laws as Rules
use Rattle.book_claim.specs.Claim.{Chained}
use Rattle.book_claim.proofs.Step.{Sound, step_sound}
use Rattle.book_claim.proofs.Claim.{open_entries_are_kept}
use Rattle.state_array.specs.Arrays.{state_of}
use Rattle.tms_replay.specs.Exported.{Ran, run}
use Rattle.exported_claims.specs.Runs.{Observed, Linked, seen, as_seen, OpenEntriesAreKeptByTmsRun}
use Rattle.exported_claims.proofs.Answers.{numbers_tell_answers_apart}
use Rattle.exported_claims.proofs.Arrays.{state_of_its_words, state_words, run_refused}

-- fields stay numbers of 16 bits in a run
runs_words : (stop n : ℕ) (rs : List ℕ) (m : Machine) → Sound m → Words (Run.runs stop n rs m).machine.state
unfolding Run.runs
runs_words stop zero rs m h = h.fit.words
runs_words stop (suc n) [] m h = h.fit.words
runs_words stop (suc n) (r ∷ rs) m h =
    by_test (runs_words stop n rs (step r m).machine (step_sound r m h)) (eqb m.state.pc stop) refl
  where
    by_test :
        Words (Run.runs stop n rs (step r m).machine).machine.state
        → (t : Bool) → eqb m.state.pc stop ≡ t → Words (Run.runs stop (suc n) (r ∷ rs) m).machine.state
    by_test further true e = rw (Rules.stopped stop (suc n) (r ∷ rs) m e) h.fit.words
    by_test further false e = rw (Rules.goes_on stop n r rs m e) further

run_words : (m : List ℕ) (s : State) (records : List ℕ) (steps stop : ℕ) → Words s → Words (Run.run m s records steps stop).answer.state
unfolding Run.run
run_words m s records steps stop h = by_test (eqb (Run.run_refusal (length m) s (length records) steps) 0) refl
  where
    by_test : (t : Bool) → eqb (Run.run_refusal (length m) s (length records) steps) 0 ≡ t → Words (Run.run m s records steps stop).answer.state
    by_test true e =
        let a = Rules.accepted _ _ _ _ (eqb-true (Run.run_refusal (length m) s (length records) steps) 0 e) in
        rw e
        (runs_words stop steps records (at s m)
        (record { fit = record { installed = a.sized; words = h }; form = form s a.formed }))
    by_test false e = rw e h

-- the array that a call leaves is that of the returned state
returned :
    (m w records : List ℕ) (steps stop : ℕ)
    → state_of (run m w records steps stop).state ≡ (Run.run m (state_of w) records steps stop).answer.state
unfolding run
returned m w records steps stop = by_test (eqb (Run.run m (state_of w) records steps stop).answer.number 0) refl
  where
    by_test :
        (t : Bool) → eqb (Run.run m (state_of w) records steps stop).answer.number 0 ≡ t
        → state_of (run m w records steps stop).state ≡ (Run.run m (state_of w) records steps stop).answer.state
    by_test true e = rw e (state_of_its_words _ (run_words m (state_of w) records steps stop (state_words w)))
    by_test false e = rw e (sym (ap (λ (r : Run.RunResult). r.answer.state) (run_refused m (state_of w) records steps stop (eqb-false _ _ e))))

chained : (w m : List ℕ) (xs : List Observed) → Linked w m xs → Chained (state_of w) m (seen xs)
unfolding Linked Chained seen run
chained w m [] l = tt
chained w m (x ∷ xs) l =
    let c = x.call in (
      subst
          (λ (r : Ran). record { answer = (as_seen c r).answer; memory = r.memory } ≡ Run.run m (state_of w) c.records c.steps c.stop)
          (sym l.0)
          (rw (returned m w c.records c.steps c.stop, numbers_tell_answers_apart)),
      chained x.ran.state x.ran.memory xs l.1,
    )

pub open_entries_are_kept_by_tms_run : OpenEntriesAreKeptByTmsRun
open_entries_are_kept_by_tms_run w m xs l r = open_entries_are_kept (state_of w) m (seen xs) (state_words w) (chained w m xs l) r
