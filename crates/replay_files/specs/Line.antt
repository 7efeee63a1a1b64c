-- The line that the program prints, as ASCII codes.
use Rattle.std.specs.Prelude.{ℕ, List, ◌++◌}
use Rattle.text.specs.Texts.{ascii, decimal, hex}
use Rattle.machine.specs.declared.StepAnswer.{StepAnswer}
use Rattle.machine.specs.declared.StepAnswer.TheVariants.{Nothing, Reset, Load, Level, Instruction, Idle, Unassigned}

-- the first half: the answer's number, the steps done and the unassigned words among them, in decimal
unfoldable pub counts : ℕ → ℕ → ℕ → List ℕ
counts number steps unassigned =
    (ascii "answer " ++ decimal number) ++ (ascii " steps " ++ decimal steps) ++ (ascii " unassigned " ++ decimal unassigned)

-- the second half: PC, WP and ST in hexadecimal
unfoldable pub registers : ℕ → ℕ → ℕ → List ℕ
registers pc wp st = (ascii " pc " ++ hex pc) ++ (ascii " wp " ++ hex wp) ++ (ascii " st " ++ hex st)

-- Q-6's word for the last step's answer; a level has its number behind it
unfoldable pub word : StepAnswer → List ℕ
word Nothing = ascii " none"
word Reset = ascii " reset"
word Load = ascii " load"
word (Level k) = ascii " level" ++ decimal k
word Instruction = ascii " run"
word Idle = ascii " idle"
word (Unassigned pc) = ascii " word"

-- both halves, the word and the line feed
unfoldable pub text : ℕ → ℕ → ℕ → ℕ → ℕ → ℕ → StepAnswer → List ℕ
text number steps unassigned pc wp st last =
    counts number steps unassigned ++ registers pc wp st ++ word last ++ ascii "\n"
