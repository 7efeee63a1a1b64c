-- The program's definition, from what the three calls give: it ends at the first that is refused.
use Rattle.std.specs.Prelude.{Ok, Err}
use Prim.Native.Nat.{ℕ}
use mathlib.Core.Path.{◌≡◌, sym, ap, ◌∙◌}
use mathlib.Core.List.{List, ◌++◌}
use lib.ListN.{length, take, drop, replicate}
use lib.Seq.{take_at}
use borrow.Author.Tests.{ne_eqb}
use Rattle.refusals.proofs.Laws.{never_0}
use Rattle.machine.specs.declared.State.{State}
use Rattle.machine.specs.declared.Ran.{Ran}
use Rattle.machine.specs.declared.Refused.{Refused}
use Rattle.machine.specs.Run.{Promised, run_answer}
use Rattle.image.specs.Calls.{WriteAnswer, read, read_answer, write, write_answer, write_fault}
use Rattle.replay_files.specs.Pins as Pins
use Rattle.replay_call.specs.Replay.{told, replay_in}

-- the records that are taken are the first of the array
pub first :
    (file all : List ℕ) (n : ℕ) → n ≡ length (Pins.records file) → all ≡ Pins.records file ++ drop (length (Pins.records file)) (replicate Pins.most 0)
    → take n all ≡ Pins.records file
first file all n e h =
    ap (take n) h ∙ take_at (Pins.records file) (drop (length (Pins.records file)) (replicate Pins.most 0)) n (sym e)

-- a refused write stores nothing
refused_image : (s : State) (m img : List ℕ) → ((write s m img).answer.number ≡ 0 → ⊥) → (write s m img).image ≡ img
unfolding write
refused_image s m img h = rw (ne_eqb (write_fault s m img) 0 h)

module _ (image m pins after : List ℕ) where
  pub read_refused : (e : Refused) → read_answer (Err e) ≡ (read image m).answer → told (run_answer (Err e)) after ≡ replay_in m image pins after
  unfolding replay_in read_answer run_answer
  read_refused e h = rw (← h, ne_eqb _ 0 (never_0 e.refusal))

  module _ (s : State) (lent : List ℕ) (h : read_answer (Ok s) ≡ (read image m).answer) (l : lent ≡ (read image m).memory) where
    pub run_refused : (e : Refused) (x : List ℕ)
        → Promised lent s (Pins.records pins) (length (Pins.records pins)) (Pins.stop pins) (run_answer (Err e)) x
        → told (run_answer (Err e)) after ≡ replay_in m image pins after
    unfolding replay_in read_answer run_answer
    run_refused e x r = rw (← h, ← l, ← r, ne_eqb _ 0 (never_0 e.refusal))

    module _ (d : Ran) (x : List ℕ)
        (r : Promised lent s (Pins.records pins) (length (Pins.records pins)) (Pins.stop pins) (run_answer (Ok d)) x) where
      pub write_refused : (e : Refused) (img : List ℕ) → write_answer (Err e) ≡ (write d.state x after).answer → img ≡ (write d.state x after).image
          → told (run_answer (Err e)) img ≡ replay_in m image pins after
      unfolding replay_in read_answer run_answer write_answer
      write_refused e img w i =
          rw (← h, ← l, ← r, ← w, ne_eqb _ 0 (never_0 e.refusal), i, refused_image d.state x after (λ z. never_0 e.refusal (ap (λ (a : WriteAnswer). a.number) w ∙ z)))

      pub accepted : (s' : State) (img : List ℕ) → write_answer (Ok s') ≡ (write d.state x after).answer → img ≡ (write d.state x after).image
          → told (run_answer (Ok d)) img ≡ replay_in m image pins after
      unfolding replay_in read_answer run_answer write_answer
      accepted s' img w i = rw (← h, ← l, ← r, ← w, i)
