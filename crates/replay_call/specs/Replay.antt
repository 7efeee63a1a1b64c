-- What the program does between its files: an image and a pin file in; the answer's number, the line and the image after out.
use Rattle.std.specs.Prelude.{ℕ, not, List, length, replicate, eqb, if◌then◌else◌}
use Rattle.memory.specs.Memory.{size}
use Rattle.machine.specs.declared.State.{State}
use Rattle.machine.specs.declared.StepAnswer.{StepAnswer}
use Rattle.machine.specs.declared.StepAnswer.TheVariants.{Nothing}
use Rattle.machine.specs.Run as Run
use Rattle.image.specs.Calls as Calls
use Rattle.replay_files.specs.Pins as Pins
use Rattle.replay_files.specs.Line as Line

-- the number, the line, and the image after; where the number is not 0 there is none, and the lent bytes are as they were
pub record Result : Type 0 where
  pub number : ℕ
  pub line : List ℕ
  pub image : List ℕ

-- the line of a number, counts, a state and the last step's answer
abbrev pub line : ℕ → ℕ → ℕ → State → StepAnswer → List ℕ
line number steps unassigned s last = Line.text number steps unassigned s.pc s.wp s.st last

-- a run's answer and the image after, as the program tells them
abbrev pub told : Run.RunAnswer → List ℕ → Result
told r image = record { number = r.number; line = line r.number r.steps r.unassigned r.state r.last; image = image }

-- On a refusal no image is written, and the line has the number, zero counts, the returned state and `none`.
abbrev pub refused : ℕ → State → List ℕ → Result
refused number s after = record { number = number; line = line number 0 0 s Nothing; image = after }

-- the run on all records of the pin file, up to its stop address
abbrev pub ran : List ℕ → State → List ℕ → Run.RunResult
ran m s pins = Run.run m s (Pins.records pins) (length (Pins.records pins)) (Pins.stop pins)

-- the image after, and the line of the run
abbrev pub finished : Run.RunResult → Calls.WriteResult → List ℕ → Result
finished r w after =
    if not (eqb w.answer.number 0) then refused w.answer.number w.answer.state after
    else record { number = 0; line = line 0 r.answer.steps r.answer.unassigned r.answer.state r.answer.last; image = w.image }

abbrev pub continued : Run.RunResult → List ℕ → Result
continued r after =
    if not (eqb r.answer.number 0) then refused r.answer.number r.answer.state after
    else finished r (Calls.write r.answer.state r.memory after) after

abbrev pub begun : Calls.ReadResult → List ℕ → List ℕ → Result
begun i pins after =
    if not (eqb i.answer.number 0) then refused i.answer.number i.answer.state after
    else continued (ran i.memory i.answer.state pins) after

-- Reads the image, runs, writes the image after; m is the memory that is lent for it.
unfoldable pub replay_in : List ℕ → List ℕ → List ℕ → List ℕ → Result
replay_in m image pins after = begun (Calls.read image m) pins after

-- The program's own memory begins as zeros.
abbrev pub replay : List ℕ → List ℕ → List ℕ → Result
replay = replay_in (replicate size 0)
