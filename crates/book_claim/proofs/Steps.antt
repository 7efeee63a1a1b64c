-- The steps of a run and of a call, as the book has them: what holds of every run's steps, by induction on the steps asked, and of every call's.
use Prim.Native.Nat.{ℕ, zero, suc}
use mathlib.Core.Path.{◌≡◌, refl}
use mathlib.Core.Bool.{Bool, true, false}
use mathlib.Core.List.{List, [], ◌∷◌}
use lib.ListN.{length}
use lib.Dec.{eqb}
use borrow.Author.Tests.{eqb-true}
use Rattle.machine.specs.State.{Machine}
use Rattle.machine.specs.Step.{step}
use Rattle.machine.specs.Run.{runs, run, run_refusal}
use Rattle.run_rules.proofs.Laws as Laws
use Rattle.book.specs.Book.{Book, turn, event, Moment, moment, moments, Call, call_moments, call_machine}

-- What holds of no step, and of one step in front of what holds, holds of the steps of a run and the machine that they lead to.
module _ {ℓ} (K : Machine → Book → List Moment → Machine → Type ℓ)
    (none : (m : Machine) (b : Book) → K m b [] m)
    (more : (r : ℕ) (m n : Machine) (b : Book) (xs : List Moment) → K (step r m).machine (turn (event r m) b) xs n → K m b (moment r m b ∷ xs) n) where
  one_step : (t : Bool) (stop n r : ℕ) (rs : List ℕ) (m : Machine) (b : Book) → eqb m.state.pc stop ≡ t
      → K (step r m).machine (turn (event r m) b) (moments stop n rs (step r m).machine (turn (event r m) b)) (runs stop n rs (step r m).machine).machine
      → K m b (moments stop (suc n) (r ∷ rs) m b) (runs stop (suc n) (r ∷ rs) m).machine
  unfolding moments
  one_step true stop n r rs m b t k = rw (t, moments, Laws.stopped stop (suc n) (r ∷ rs) m t) (none m b)
  one_step false stop n r rs m b t k = rw (t, moments, Laws.goes_on stop n r rs m t) (more r m _ b _ k)

  pub every_run : (stop n : ℕ) (rs : List ℕ) (m : Machine) (b : Book) → K m b (moments stop n rs m b) (runs stop n rs m).machine
  unfolding moments runs
  every_run stop zero rs m b = none m b
  every_run stop (suc n) [] m b = none m b
  every_run stop (suc n) (r ∷ rs) m b = one_step (eqb m.state.pc stop) stop n r rs m b refl (every_run stop n rs (step r m).machine (turn (event r m) b))

-- The steps of a call are those of its run; a refused call has none, and changes nothing.
module _ {ℓ} (K : List Moment → Machine → Type ℓ) (m : Machine) (b : Book) (c : Call) where
  abbrev refusal : ℕ
  refusal = run_refusal (length m.memory) m.state (length c.records) c.steps

  pub every_call :
      (refusal ≡ 0 → K (moments c.stop c.steps c.records m b) (runs c.stop c.steps c.records m).machine)
      → K [] m → K (call_moments m b c) (call_machine m c)
  unfolding call_moments call_machine run
  every_call accepted refused = by_test (eqb refusal 0) refl
    where
      by_test : (t : Bool) → eqb refusal 0 ≡ t → K (call_moments m b c) (call_machine m c)
      by_test true t = rw t (accepted (eqb-true refusal 0 t))
      by_test false t = rw t refused
