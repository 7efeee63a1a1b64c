-- Examples of Q-7 as one table under one claim: steps of a machine with a read-only part. Each says the whole answer and memory.
use Rattle.std.specs.Prelude.{◌≡◌, ℕ, ◌+◌, ◌-◌, ◌^◌, T, List, [], ◌∷◌}
use Rattle.memory.specs.declared.Width.TheVariants.{Byte, Word}
use Rattle.psi.specs.declared.Psi.{Psi}
use Rattle.psi.specs.Psi.{blank}
use Rattle.machine.specs.declared.State.{State}
use Rattle.machine.specs.declared.StepAnswer.{StepAnswer}
use Rattle.machine.specs.declared.StepAnswer.TheVariants.{Nothing, Reset, Load, Level, Instruction}
use Rattle.machine.specs.State.{no_rom}
use Rattle.machine.specs.Perform.{was_written, written}
use Rattle.machine.specs.Cases.{Poke, word, poked, zeros, Case, replayed, every, quiet}
use Rattle.machine.specs.Marked.{stepped, enabled}

-- a state with this read-only address
abbrev state : ℕ → ℕ → ℕ → ℕ → ℕ → Psi → State
state first wp pc st flags p = record { wp = wp; pc = pc; st = st; flags = flags; psi = p; rom = first }

-- with this read-only address, a quiet step of an instruction from 0100h with ST 0 and WP 0300h, so that Rn is at 0300h + 2n: the words
-- before it; PC and ST after it; the words stored
abbrev ran : ℕ → List Poke → ℕ → ℕ → List Poke → Case
ran first before pc st after =
    replayed (state first 0x300 0x100 0 0 blank) (poked before zeros) (quiet 0 ∷ []) (stepped 0 Instruction (state first 0x300 pc st 0 blank)) after

-- MOV R1 and MOVB R1 to an address, where R1 is 1234h
abbrev move : ℕ → ℕ → ℕ → List Poke → Case
move first code a after = ran first (word 0x100 code ∷ word 0x102 a ∷ word 0x302 0x1234 ∷ []) 0x104 0xC000 after

abbrev mov : ℕ
mov = 0xC801

abbrev movb : ℕ
movb = 0xD801

-- entries to a workspace at 0200h, so that the save words are at 021Ah, 021Ch and 021Eh, and PC 0400h: by request n, through this vector,
-- with the mask 0 after it, or by BLWP and XOP at 0100h, with this ST after it; and what is stored
abbrev entered : ℕ → ℕ → ℕ → StepAnswer → List Poke → Case
entered first n vector a after =
    replayed (state first 0x300 0x100 15 0 (enabled (2 ^ n))) (poked (word vector 0x200 ∷ word (vector + 2) 0x400 ∷ []) zeros)
    ((quiet 0 - 2 ^ (n - 1)) ∷ [])
    (stepped 0 a (state first 0x200 0x400 0 2 (enabled (2 ^ n))))
    after

abbrev switched : ℕ → List Poke → ℕ → ℕ → List Poke → Case
switched first before vector st after =
    replayed (state first 0x300 0x100 0xC000 0 blank) (poked (word vector 0x200 ∷ word (vector + 2) 0x400 ∷ before) zeros) (quiet 0 ∷ [])
    (stepped 0 Instruction (state first 0x200 0x400 st 2 blank))
    after

abbrev blwp : ℕ → List Poke → Case
blwp first = switched first (word 0x100 0x0420 ∷ word 0x102 0x500 ∷ []) 0x500 0xC000

abbrev xop : ℕ → List Poke → Case
xop first = switched first (word 0x100 0x2C60 ∷ word 0x102 0x240 ∷ []) 0x44 0xC200

-- clock mode, the decrementer at 1234h and the read register at this
abbrev timed : ℕ → Psi
timed reading =
    record { mask = 1; direction = 3; latch = 1; load = 0; decrementer = 0x1234; reading = reading; phase = 5; pending = 1 }

-- SETO at an address with nothing stored: the read register, 55h before it, after it
abbrev seto : ℕ → ℕ → ℕ → Case
seto first a reading =
    replayed (state first 0x300 0x100 0 0 (timed 0x55)) (poked (word 0x100 0x0720 ∷ word 0x102 a ∷ []) zeros) (quiet 0 ∷ [])
    (stepped 0 Instruction (state first 0x300 0x104 0 0 (timed reading)))
    []

-- a state with this read-only address is refused
abbrev not_formed : ℕ → Case
not_formed first =
    replayed (state first 0x300 0x100 0 0 blank) zeros (quiet 0 ∷ [])
    (record { number = 2; state = state first 0x300 0x100 0 0 blank; steps = 0; unassigned = 0; last = Nothing })
    []

unfoldable pub table : List Case
table =
    -- a word just below the read-only part and at its start; the same word by its odd address
    move 0x402 mov 0x400 (word 0x400 0x1234 ∷ [])
    ∷ move 0x400 mov 0x400 []
    ∷ move 0x402 mov 0x401 (word 0x400 0x1234 ∷ [])
    ∷ move 0x400 mov 0x401 []
    -- a byte just below it and at its start
    ∷ move 0x400 movb 0x3FF (word 0x3FE 0x0012 ∷ [])
    ∷ move 0x400 movb 0x400 []
    -- addresses from 4000h on are taken modulo that: 0400h again, and 0200h
    ∷ move 0x402 mov 0x4400 (word 0x400 0x1234 ∷ [])
    ∷ move 0x400 mov 0x8400 []
    ∷ move 0x400 mov 0x4200 (word 0x200 0x1234 ∷ [])
    -- CLR *R1+: R1 is read-only and keeps its value, the word is cleared; the other way round
    ∷ ran 0x302 (word 0x100 0x04F1 ∷ word 0x302 0x200 ∷ word 0x200 0x1234 ∷ []) 0x102 0 (word 0x200 0 ∷ [])
    ∷ ran 0x304 (word 0x100 0x04F1 ∷ word 0x302 0x400 ∷ word 0x400 0x1234 ∷ []) 0x102 0 (word 0x302 0x402 ∷ [])
    -- MPY R1,R2 and DIV R1,R2, of whose pair only R2 is below
    ∷ ran 0x306 (word 0x100 0x3881 ∷ word 0x302 0x8001 ∷ word 0x304 0x8001 ∷ word 0x306 0x5555 ∷ []) 0x102 0 (word 0x304 0x4001 ∷ [])
    ∷ ran 0x306 (word 0x100 0x3C81 ∷ word 0x302 2 ∷ word 0x304 1 ∷ word 0x306 5 ∷ []) 0x102 0 (word 0x304 0x8002 ∷ [])
    -- entries of whose save words all, two, one or none are below: WP, PC and ST change all the same
    ∷ blwp 0x220 (word 0x21A 0x300 ∷ word 0x21C 0x104 ∷ word 0x21E 0xC000 ∷ [])
    ∷ blwp 0x21E (word 0x21A 0x300 ∷ word 0x21C 0x104 ∷ [])
    ∷ entered 0x21C 3 4 (Level 1) (word 0x21A 0x300 ∷ [])
    ∷ entered 0x21E 2 0x3FFC Load (word 0x21A 0x300 ∷ word 0x21C 0x100 ∷ [])
    ∷ entered 0x21C 1 0 Reset (word 0x21A 0x300 ∷ [])
    ∷ entered 0x21A 1 0 Reset []
    -- XOP @0240h,1: the operand's address in R11, which is below though no save word is; and that dropped too
    ∷ xop 0x218 (word 0x216 0x240 ∷ [])
    ∷ xop 0x216 []
    -- a dropped store refreshes the read register by the weight 32 in its address, as any other
    ∷ seto 0x400 0x420 0x1234
    ∷ seto 0x400 0x410 0x55
    -- all of memory is read-only; its last word is; nothing is
    ∷ move 0 mov 0 []
    ∷ entered 0 3 4 (Level 1) []
    ∷ move 0x3FFE mov 0x3FFE []
    ∷ move no_rom mov 0x3FFE (word 0x3FFE 0x1234 ∷ [])
    -- refused: an odd number, and numbers beyond the memory's size
    ∷ not_formed 0x401
    ∷ not_formed (no_rom + 2)
    ∷ not_formed 65536
    ∷ []

-- the claim
abbrev pub DropsHold : Type 0
DropsHold = T (every table)

-- which bytes three stores go into, where memory is read-only from 0400h on: those of the first alone
abbrev pub PlacesHold : Type 0
PlacesHold =
    written 0x400 (was_written Word 0x3FE 7 ∷ was_written Byte 0x400 7 ∷ was_written Word 0x4400 7 ∷ []) ≡ 0x3FE ∷ 0x3FF ∷ []
