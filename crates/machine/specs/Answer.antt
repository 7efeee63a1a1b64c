-- What a step answers (Q-6), what is counted and handed on of it, and the numbers that stand for it.
use Rattle.std.specs.Prelude.{ℕ}
use Rattle.machine.specs.declared.Deed.{Deed}
use Rattle.machine.specs.declared.Deed.TheVariants as deed
use Rattle.machine.specs.declared.StepAnswer.{StepAnswer}
use Rattle.machine.specs.declared.StepAnswer.TheVariants.{Nothing, Reset, Load, Level, Instruction, Idle, Unassigned}
use Rattle.machine.specs.State.{Machine}
use Rattle.machine.specs.Perform.{Performed, performed}
use Rattle.machine.specs.Step.{Kind, was_reset, was_load, was_idle, was_level, ran, step}

-- What is told of an executed word: unassigned, also where X led to it, with the PC before the step; every other word is an instruction, BLWP,
-- XOP and RTWP too.
unfoldable pub told_word : ℕ → Deed → StepAnswer
told_word pc deed.Ordinary = Instruction
told_word pc deed.Unassigned = Unassigned pc
told_word pc deed.Switched = Instruction
told_word pc deed.Returned = Instruction

-- What is told of a step: reset, LOAD or a level with its number, which the pins cause; idling; or what was executed.
unfoldable pub told : ℕ → Kind → StepAnswer
told pc was_reset = Reset
told pc was_load = Load
told pc was_idle = Idle
told pc (was_level k) = Level k
told pc (ran d) = told_word pc d

-- what was done, as an answer and the machine after it, where the step began with this PC
unfoldable pub as_told : ℕ → Performed Kind → Performed StepAnswer
as_told pc p = performed (told pc p.value) p.machine

-- a step with a pin record: what it answers, and the machine after it
abbrev pub answered : ℕ → Machine → Performed StepAnswer
answered word m = as_told m.state.pc (step word m)

-- what it answers
unfoldable pub answer : ℕ → Machine → StepAnswer
answer word m = (answered word m).value

-- whether a step met an unassigned word, as a number
unfoldable pub missed : StepAnswer → ℕ
missed Nothing = 0
missed Reset = 0
missed Load = 0
missed (Level k) = 0
missed Instruction = 0
missed Idle = 0
missed (Unassigned pc) = 1

-- Of two answers the latter, or the former where there was no step after it.
unfoldable pub latest : StepAnswer → StepAnswer → StepAnswer
latest a Nothing = a
latest a Reset = Reset
latest a Load = Load
latest a (Level k) = Level k
latest a Instruction = Instruction
latest a Idle = Idle
latest a (Unassigned pc) = Unassigned pc

-- The number of an answer's kind, `TMS_LAST` in the exported call.
unfoldable pub number : StepAnswer → ℕ
number Nothing = 0
number Reset = 1
number Load = 2
number (Level k) = 3
number Instruction = 4
number Idle = 5
number (Unassigned pc) = 6

-- The number that goes with it, `TMS_LAST_NUMBER` there: the level, the PC before the step, else 0.
unfoldable pub value : StepAnswer → ℕ
value Nothing = 0
value Reset = 0
value Load = 0
value (Level k) = k
value Instruction = 0
value Idle = 0
value (Unassigned pc) = pc
