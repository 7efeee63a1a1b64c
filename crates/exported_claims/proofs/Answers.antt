-- Each of the seven answers has a number of its own.
use mathlib.Core.Path.{refl}
use Rattle.machine.specs.declared.StepAnswer.TheVariants.{Nothing, Reset, Load, Level, Instruction, Idle, Unassigned}
use Rattle.machine.specs.Answer.{number, value}
use Rattle.exported_claims.specs.Answers.{answer_of, NumbersTellAnswersApart}

pub numbers_tell_answers_apart : NumbersTellAnswersApart
unfolding answer_of number value
numbers_tell_answers_apart Nothing = refl
numbers_tell_answers_apart Reset = refl
numbers_tell_answers_apart Load = refl
numbers_tell_answers_apart (Level k) = refl
numbers_tell_answers_apart Instruction = refl
numbers_tell_answers_apart Idle = refl
numbers_tell_answers_apart (Unassigned pc) = refl
