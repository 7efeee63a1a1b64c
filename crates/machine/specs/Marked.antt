-- Document 01's marked cases P1 to P12, as one table under one claim.
use Rattle.std.specs.Prelude.{ℕ, ◌-◌, ◌^◌, T, List, [], ◌∷◌}
use Rattle.psi.specs.declared.Psi.{Psi}
use Rattle.psi.specs.Psi.{blank, with_pending}
use Rattle.psi.specs.Clock.{advanced}
use Rattle.machine.specs.declared.State.{State}
use Rattle.machine.specs.Run.{RunAnswer}
use Rattle.machine.specs.declared.StepAnswer.{StepAnswer}
use Rattle.machine.specs.declared.StepAnswer.TheVariants.{Level, Instruction, Unassigned}
use Rattle.machine.specs.State.{no_rom}
use Rattle.machine.specs.Cases.{Poke, word, poked, zeros, Case, replayed, clocked, coded, every, quiet}

-- WP 0300h, so that Rn is at 0300h + 2n; flags 0
abbrev pub start : ℕ → ℕ → Psi → State
start pc st p = record { wp = 0x300; pc = pc; st = st; flags = 0; psi = p; rom = no_rom }

-- one step with an answer to a state; n unassigned words
abbrev pub stepped : ℕ → StepAnswer → State → RunAnswer
stepped n a s = record { number = 0; state = s; steps = 1; unassigned = n; last = a }

-- one quiet step at 0100h from ST 0 and a blank PSI leads to 0102h with this ST
abbrev plain : List Poke → ℕ → List Poke → Case
plain before st after = replayed (start 0x100 0 blank) (poked before zeros) (quiet 0 ∷ []) (stepped 0 Instruction (start 0x102 st blank)) after

-- P7: control 1, load 255, and the decrementer with it
abbrev loaded : Psi
loaded = record { mask = 1; direction = 0; latch = 0; load = 255; decrementer = 255; reading = 0; phase = 0; pending = 0 }

-- P8: load and decrementer 1, control 0
abbrev running : Psi
running = record { mask = 0; direction = 0; latch = 0; load = 1; decrementer = 1; reading = 1; phase = 0; pending = 0 }

abbrev cleared : Psi
cleared = with_pending 0 (advanced 64 running)

-- requests enabled, all else 0; for P9 7 and 8, whose pins have the weights 2^6 and 2^7
abbrev pub enabled : ℕ → Psi
enabled m = record { mask = m; direction = 0; latch = 0; load = 0; decrementer = 0; reading = 0; phase = 0; pending = 0 }

unfoldable pub table : List Case
table =
    -- P1 A R1,R2
    plain (word 0x100 0xA081 ∷ word 0x302 0x7FFF ∷ word 0x304 1 ∷ []) 0x8800 (word 0x304 0x8000 ∷ [])
    -- P2 S R1,R2
    ∷ plain (word 0x100 0x6081 ∷ []) 0x3000 (word 0x304 0 ∷ [])
    -- P3 NEG R1
    ∷ plain (word 0x100 0x0501 ∷ word 0x302 0x8000 ∷ []) 0x8800 (word 0x302 0x8000 ∷ [])
    -- P4 ABS R1
    ∷ plain (word 0x100 0x0741 ∷ word 0x302 0x8000 ∷ []) 0x8800 (word 0x302 0x8000 ∷ [])
    -- P5 DIV R1,R2: overflow, then not
    ∷ plain (word 0x100 0x3C81 ∷ word 0x302 1 ∷ word 0x304 1 ∷ []) 0x0800 (word 0x304 1 ∷ word 0x306 0 ∷ [])
    ∷ plain (word 0x100 0x3C81 ∷ word 0x302 2 ∷ word 0x304 1 ∷ []) 0 (word 0x304 0x8000 ∷ word 0x306 0 ∷ [])
    -- P6 SLA R1,0 with R0 0
    ∷ plain (word 0x100 0x0A01 ∷ word 0x302 1 ∷ []) 0x3800 (word 0x302 0 ∷ [])
    -- P7 LDCR R1,15
    ∷ replayed (start 0x100 0 blank) (poked (word 0x100 0x33C1 ∷ word 0x302 0x01FF ∷ []) zeros) (quiet 0 ∷ []) (stepped 0 Instruction (start 0x102 0xC000 loaded)) []
    -- P8 pending after 64 cycles and not before; cleared there, after 128 more and not before
    ∷ clocked running 63 0
    ∷ clocked running 64 1
    ∷ clocked cleared 127 0
    ∷ clocked cleared 128 1
    -- P9 INT7 and INT8 low; INT8 alone
    ∷ coded (enabled 0x180) (quiet 0 - 2 ^ 6 - 2 ^ 7) 7
    ∷ coded (enabled 0x180) (quiet 0 - 2 ^ 7) 0
    -- P10 JMP to itself
    ∷ replayed (start 0x100 0 blank) (poked (word 0x100 0x10FF ∷ []) zeros) (quiet 0 ∷ []) (stepped 0 Instruction (start 0x100 0 blank)) []
    -- P11 level 1 by INT3
    ∷ replayed (start 0x100 4 (enabled 8)) (poked (word 4 0x200 ∷ word 6 0x400 ∷ []) zeros) ((quiet 0 - 2 ^ 2) ∷ [])
    (stepped 0 (Level 1) (record { wp = 0x200; pc = 0x400; st = 0; flags = 2; psi = enabled 8; rom = no_rom }))
    (word 0x21A 0x300 ∷ word 0x21C 0x100 ∷ word 0x21E 4 ∷ [])
    -- P12 X R1 with X R1 in R1
    ∷ replayed (start 0x100 0 blank) (poked (word 0x100 0x0481 ∷ word 0x302 0x0481 ∷ []) zeros) (quiet 0 ∷ []) (stepped 1 (Unassigned 0x100) (start 0x102 0 blank)) []
    ∷ []

-- the claim
abbrev pub MarkedCasesHold : Type 0
MarkedCasesHold = T (every table)
