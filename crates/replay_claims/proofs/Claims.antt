-- Of a memory that is lent for reading only the size is looked at before it is filled. The example: the image is read back as it was written,
-- the run is computed by the kernel (`Cases.every` opens what the machine computes with), and its line is spelled out.
use Prim.Native.Nat.{ℕ}
use mathlib.Core.Path.{◌≡◌, refl}
use mathlib.Core.Bool.{Bool, true, false}
use mathlib.Core.List.{List}
use native.Mathlib.Omega.{arith}
use lib.ListN.{length, replicate}
use lib.Dec.{eqb}
use Rattle.memory.specs.Memory.{size}
use Rattle.machine.specs.declared.State.{State}
use Rattle.machine.specs.declared.StepAnswer.{StepAnswer}
use Rattle.machine.specs.declared.StepAnswer.TheVariants.{Unassigned}
use Rattle.machine.specs.State.{well_formed}
use Rattle.machine.specs.Laws.{Words}
use Rattle.machine.specs.Run as Run
use Rattle.machine.specs.Cases as Cases
use Rattle.image_blocks.specs.Image as Image
use Rattle.image.specs.Calls.{read, read_fault}
use Rattle.image_claims.proofs.Written.{read_written}
use Rattle.image_claims.proofs.Claims.{writes}
use Rattle.text.specs.Texts as Texts
use Rattle.replay_files.specs.Pins as Pins
use Rattle.replay_files.specs.Line as Line
use Rattle.replay_call.specs.Replay.{line, replay, replay_in}
use Rattle.replay_claims.specs.Claims as Claims

module _ (m other image pins after : List ℕ) (h : length m ≡ size) (o : length other ≡ size) where
  same_fault : read_fault image m ≡ read_fault image other
  unfolding read_fault
  same_fault = rw (h, o)

  same_replay : replay_in m image pins after ≡ replay_in other image pins after
  unfolding replay_in read
  same_replay = by_test (eqb (read_fault image other).number 0) refl
    where
      by_test : (t : Bool) → eqb (read_fault image other).number 0 ≡ t → replay_in m image pins after ≡ replay_in other image pins after
      by_test true e = rw (same_fault, e)
      by_test false e = rw (same_fault, e, e)

pub any_memory : Claims.AnyMemory
any_memory m image pins after h = same_replay m (replicate size 0) image pins after h refl

-- a written image is replayed by its run
replayed :
    (s e : State) (m ms pins after : List ℕ) (steps unassigned : ℕ) (last : StepAnswer) → Words s → well_formed s ≡ true → length m ≡ size
    → Run.run m s (Pins.records pins) (length (Pins.records pins)) (Pins.stop pins)
    ≡ record { answer = record { number = 0; state = e; steps = steps; unassigned = unassigned; last = last }; memory = ms }
    → well_formed e ≡ true → length ms ≡ size → length after ≡ Image.image_size
    → replay (Image.image s m) pins after ≡ record { number = 0; line = line 0 steps unassigned e last; image = Image.image e ms }
unfolding replay_in
replayed s e m ms pins after steps unassigned last w f h r g k a =
    rw (read_written s m (replicate size 0) w f h refl, r, writes e ms after g k a)

words : Words Claims.start
words =
    record {
      wp = omega arith;
      pc = omega arith;
      st = omega arith;
      flags = omega arith;
      psi = record {
        mask = omega arith;
        direction = omega arith;
        latch = omega arith;
        load = omega arith;
        decrementer = omega arith;
        reading = omega arith;
        phase = omega arith;
        pending = omega arith;
      };
    }

run :
    Run.run Claims.memory Claims.start (Pins.records Claims.pins) (length (Pins.records Claims.pins)) (Pins.stop Claims.pins)
    ≡ record { answer = record { number = 0; state = Claims.end; steps = 2; unassigned = 1; last = Unassigned 0x0102 }; memory = Claims.memory_after }
unfolding Cases.every Run.run Pins.records Pins.records_in Pins.words Pins.word Pins.stop Pins.stop_in
run = refl

sized : length Claims.memory ≡ size
unfolding Cases.every
sized = refl

sized_after : length Claims.memory_after ≡ size
unfolding Cases.every
sized_after = refl

formed : well_formed Claims.start ≡ true
unfolding Cases.every
formed = refl

formed_after : well_formed Claims.end ≡ true
unfolding Cases.every
formed_after = refl

spelled : line 0 2 1 Claims.end (Unassigned 0x0102) ≡ Claims.line
unfolding Line.text Line.counts Line.registers Line.word Texts.ascii Texts.decimal Texts.decimal_in Texts.hex Texts.glyph
spelled = refl

pub example_line : Claims.ExampleLine
example_line after a =
    rw (← spelled)
    (replayed Claims.start Claims.end Claims.memory Claims.memory_after Claims.pins after 2 1 (Unassigned 0x0102) words formed sized run formed_after sized_after a)
