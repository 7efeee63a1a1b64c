-- A step's answer from its two numbers.
use Rattle.std.specs.Prelude.{ℕ, ◌≡◌, eqb, if◌then◌else◌}
use Rattle.machine.specs.declared.StepAnswer.{StepAnswer}
use Rattle.machine.specs.declared.StepAnswer.TheVariants.{Nothing, Reset, Load, Level, Instruction, Idle, Unassigned}
use Rattle.machine.specs.Answer.{number, value}

-- the answer that a number and the one that goes with it stand for
unfoldable pub answer_of : ℕ → ℕ → StepAnswer
answer_of n x =
    if eqb n 1 then Reset
    else if eqb n 2 then Load
    else if eqb n 3 then Level x
    else if eqb n 4 then Instruction
    else if eqb n 5 then Idle
    else if eqb n 6 then Unassigned x
    else Nothing

-- The two numbers of an answer give it back, so they tell every two answers apart.
abbrev pub NumbersTellAnswersApart : Type 0
NumbersTellAnswersApart = (a : StepAnswer) → answer_of (number a) (value a) ≡ a
