-- Examples of what steps answer and runs hand on (Q-6), as one table under one claim; each says the whole answer and memory.
use Rattle.std.specs.Prelude.{ℕ, ◌+◌, ◌-◌, ◌^◌, T, List, [], ◌∷◌}
use Rattle.psi.specs.Psi.{blank}
use Rattle.machine.specs.declared.State.{State}
use Rattle.machine.specs.declared.StepAnswer.{StepAnswer}
use Rattle.machine.specs.declared.StepAnswer.TheVariants.{Nothing, Reset, Load, Level, Instruction, Idle, Unassigned}
use Rattle.machine.specs.State.{no_rom}
use Rattle.machine.specs.Cases.{Poke, word, poked, zeros, Case, replayed, every, quiet}
use Rattle.machine.specs.Marked.{start, stepped, enabled}

-- request n, whose pin has the weight 2^(n - 1), is enabled and active at a step from 0100h with mask 15: an entry by this vector to a
-- workspace at 0200h and PC 0400h, with this mask after it
abbrev by_request : ℕ → ℕ → ℕ → StepAnswer → Case
by_request n vector mask a =
    replayed (start 0x100 15 (enabled (2 ^ n))) (poked (word vector 0x200 ∷ word (vector + 2) 0x400 ∷ []) zeros)
    ((quiet 0 - 2 ^ (n - 1)) ∷ [])
    (stepped 0 a (record { wp = 0x200; pc = 0x400; st = mask; flags = 2; psi = enabled (2 ^ n); rom = no_rom }))
    (word 0x21A 0x300 ∷ word 0x21C 0x100 ∷ word 0x21E 15 ∷ [])

-- two quiet steps from 0100h on these words, with nothing stored: the unassigned words met, the last answer, PC and flags after them
abbrev both : List Poke → ℕ → StepAnswer → ℕ → ℕ → Case
both before n a pc flags =
    replayed (start 0x100 0 blank) (poked before zeros) (quiet 0 ∷ quiet 0 ∷ [])
    (record { number = 0; state = record { wp = 0x300; pc = pc; st = 0; flags = flags; psi = blank; rom = no_rom }; steps = 2; unassigned = n; last = a })
    []

-- no step from a state: a refusal's number, or 0
abbrev none : ℕ → State → List ℕ → Case
none number s records =
    replayed s zeros records (record { number = number; state = s; steps = 0; unassigned = 0; last = Nothing }) []

unfoldable pub table : List Case
table =
    -- reset by requests 1 and 8, LOAD by 2, levels 1 to 4 by 3 to 6
    by_request 1 0 0 Reset
    ∷ by_request 8 0 0 Reset
    ∷ by_request 2 0x3FFC 0 Load
    ∷ by_request 3 4 0 (Level 1)
    ∷ by_request 4 8 1 (Level 2)
    ∷ by_request 5 12 2 (Level 3)
    ∷ by_request 6 16 3 (Level 4)
    -- IDLE is an instruction, the step after it idles
    ∷ replayed (start 0x100 0 blank) (poked (word 0x100 0x0340 ∷ []) zeros) (quiet 0 ∷ [])
    (stepped 0 Instruction (record { wp = 0x300; pc = 0x102; st = 0; flags = 1; psi = blank; rom = no_rom }))
    []
    ∷ both (word 0x100 0x0340 ∷ []) 0 Idle 0x102 1
    -- RTWP is an instruction
    ∷ replayed (start 0x100 0 blank) (poked (word 0x100 0x0380 ∷ word 0x31A 0x300 ∷ word 0x31C 0x200 ∷ []) zeros) (quiet 0 ∷ [])
    (stepped 0 Instruction (start 0x200 0 blank))
    []
    -- an unassigned word, then JMP to the next word; the same the other way round
    ∷ both (word 0x102 0x1000 ∷ []) 1 Instruction 0x104 0
    ∷ both (word 0x100 0x1000 ∷ []) 1 (Unassigned 0x102) 0x104 0
    -- JMP, then X @0304h, where an unassigned word is: the PC is that of X, not of its second word, nor the one after them
    ∷ both (word 0x100 0x1000 ∷ word 0x102 0x04A0 ∷ word 0x104 0x304 ∷ []) 1 (Unassigned 0x102) 0x106 0
    -- nothing without a record, or refused
    ∷ none 0 (start 0x100 0 blank) []
    ∷ none 2 (start 0x101 0 blank) (quiet 0 ∷ [])
    ∷ []

-- the claim
abbrev pub AnswersHold : Type 0
AnswersHold = T (every table)
