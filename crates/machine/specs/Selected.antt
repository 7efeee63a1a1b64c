-- Examples of Q-4 as one table under one claim: steps in clock mode that refresh the read register and steps that do not. Each says the
-- whole answer and memory; of the PSI nothing else changes but by the clock, the control bit neither.
use Rattle.std.specs.Prelude.{ℕ, ◌+◌, ◌-◌, ◌*◌, ◌^◌, T, List, [], ◌∷◌}
use Rattle.psi.specs.declared.Psi.{Psi}
use Rattle.psi.specs.Psi.{with_count}
use Rattle.machine.specs.declared.State.{State}
use Rattle.machine.specs.declared.StepAnswer.{StepAnswer}
use Rattle.machine.specs.declared.StepAnswer.TheVariants.{Load, Level, Instruction, Idle}
use Rattle.machine.specs.State.{no_rom}
use Rattle.machine.specs.Cases.{Poke, word, poked, zeros, Case, replayed, every, quiet}
use Rattle.machine.specs.Marked.{stepped}

-- the read register before, where it is frozen, and where it is refreshed
abbrev old : ℕ
old = 0x55

abbrev new : ℕ
new = 0x1234

-- clock mode with these masks (the control bit not counted) and the read register at this; the decrementer is at 1234h. Without a load
-- pending is no request; all else that a refresh could touch is not 0.
abbrev psi : ℕ → ℕ → Psi
psi masks reading =
    record { mask = masks + 1; direction = 3; latch = 1; load = 0; decrementer = new; reading = reading; phase = 5; pending = 1 }

abbrev state : ℕ → ℕ → ℕ → ℕ → Psi → State
state wp pc st flags p = record { wp = wp; pc = pc; st = st; flags = flags; psi = p; rom = no_rom }

-- a quiet step of an instruction from this WP and PC with ST 0: the words before it; PC, ST and the read register after it; the words stored
abbrev ran : ℕ → ℕ → List Poke → ℕ → ℕ → ℕ → List Poke → Case
ran wp pc before pc2 st2 reading after =
    replayed (state wp pc 0 0 (psi 0 old)) (poked before zeros) (quiet 0 ∷ []) (stepped 0 Instruction (state wp pc2 st2 0 (psi 0 reading))) after

-- an entry by request n, through this vector to a workspace and PC 0400h; the old PC, 0120h, is not accessed
abbrev entered : ℕ → ℕ → ℕ → StepAnswer → ℕ → Case
entered n vector wp a reading =
    replayed (state 0x300 0x120 15 0 (psi (2 ^ n) old)) (poked (word vector wp ∷ word (vector + 2) 0x400 ∷ []) zeros) ((quiet 0 - 2 ^ (n - 1)) ∷ [])
    (stepped 0 a (state wp 0x400 0 2 (psi (2 ^ n) reading)))
    (word (wp + 2 * 13) 0x300 ∷ word (wp + 2 * 14) 0x120 ∷ word (wp + 2 * 15) 15 ∷ [])

-- XOP @0220h,n from 0100h, through this vector to a workspace at 0200h and PC 0400h
abbrev switched : ℕ → ℕ → ℕ → Case
switched n vector reading =
    replayed (state 0x300 0x100 0 0 (psi 0 old))
    (poked (word 0x100 (0x2C20 + 0x40 * n) ∷ word 0x102 0x220 ∷ word vector 0x200 ∷ word (vector + 2) 0x400 ∷ []) zeros) (quiet 0 ∷ [])
    (stepped 0 Instruction (state 0x200 0x400 0x0200 2 (psi 0 reading)))
    (word 0x21A 0x300 ∷ word 0x21C 0x104 ∷ word 0x21E 0 ∷ word 0x216 0x220 ∷ [])

unfoldable pub table : List Case
table =
    -- fetches: JMP to the next word, at 0100h, 0110h and 0120h; a jump's target is not accessed
    ran 0x300 0x100 (word 0x100 0x1000 ∷ []) 0x102 0 old []
    ∷ ran 0x300 0x110 (word 0x110 0x1000 ∷ []) 0x112 0 old []
    ∷ ran 0x300 0x120 (word 0x120 0x1000 ∷ []) 0x122 0 new []
    ∷ ran 0x300 0x100 (word 0x100 0x100F ∷ []) 0x120 0 old []
    -- the clock goes first: after 64 cycles a tick has taken the decrementer to 1233h, and the fetch at 0120h shows that
    ∷ replayed (state 0x300 0x120 0 0 (psi 0 old)) (poked (word 0x120 0x1000 ∷ []) zeros) (quiet 64 ∷ [])
    (stepped 0 Instruction (state 0x300 0x122 0 0 (with_count (new - 1) 1 (psi 0 (new - 1)))))
    []
    -- registers read: C R1,R2 in workspaces at 0300h and 0320h
    ∷ ran 0x300 0x100 (word 0x100 0x8081 ∷ []) 0x102 0x2000 old []
    ∷ ran 0x320 0x100 (word 0x100 0x8081 ∷ []) 0x102 0x2000 new []
    -- a further word: CLR @0010h at 011Ch, and at 011Eh, whose further word is at 0120h
    ∷ ran 0x300 0x11C (word 0x11C 0x04E0 ∷ word 0x11E 0x10 ∷ []) 0x120 0 old (word 0x10 0 ∷ [])
    ∷ ran 0x300 0x11E (word 0x11E 0x04E0 ∷ word 0x120 0x10 ∷ []) 0x122 0 new (word 0x10 0 ∷ [])
    -- stores: SETO @0010h and SETO @4020h, which lies at 0020h
    ∷ ran 0x300 0x100 (word 0x100 0x0720 ∷ word 0x102 0x10 ∷ []) 0x104 0 old (word 0x10 0xFFFF ∷ [])
    ∷ ran 0x300 0x100 (word 0x100 0x0720 ∷ word 0x102 0x4020 ∷ []) 0x104 0 new (word 0x20 0xFFFF ∷ [])
    -- B @0220h and BL @0220h do not read there
    ∷ ran 0x300 0x100 (word 0x100 0x0460 ∷ word 0x102 0x220 ∷ []) 0x220 0 old []
    ∷ ran 0x300 0x100 (word 0x100 0x06A0 ∷ word 0x102 0x220 ∷ []) 0x220 0 old (word 0x316 0x104 ∷ [])
    -- SLA R1,1 does not read R0, which is at 003Eh; SLA R1,0 does
    ∷ ran 0x3E 0x100 (word 0x100 0x0A11 ∷ word 0x40 1 ∷ []) 0x102 0xC000 old (word 0x40 2 ∷ [])
    ∷ ran 0x3E 0x100 (word 0x100 0x0A01 ∷ word 0x40 1 ∷ word 0x3E 1 ∷ []) 0x102 0xC000 new (word 0x40 2 ∷ [])
    -- CLR @0010h has no index register: R0 at 003Eh is not read
    ∷ ran 0x3E 0x100 (word 0x100 0x04E0 ∷ word 0x102 0x10 ∷ []) 0x104 0 old (word 0x10 0 ∷ [])
    -- DIV R1,R15, whose low word is at 0320h: with an overflow it is not read
    ∷ ran 0x300 0x100 (word 0x100 0x3FC1 ∷ []) 0x102 0x0800 old []
    ∷ ran 0x300 0x100 (word 0x100 0x3FC1 ∷ word 0x302 1 ∷ []) 0x102 0 new (word 0x31E 0 ∷ word 0x320 0 ∷ [])
    -- STCR @0220h,14 from bit 1: the bits are the read register as it was; the store then refreshes it
    ∷ ran 0x300 0x100 (word 0x100 0x37A0 ∷ word 0x102 0x220 ∷ word 0x318 2 ∷ []) 0x104 0xC000 new (word 0x220 old ∷ [])
    -- SBZ 0 at bits 32, 48 and 2047, outside the PSI; TB 0 at bits 32 and 48
    ∷ ran 0x300 0x100 (word 0x100 0x1E00 ∷ word 0x318 0x40 ∷ []) 0x102 0 old []
    ∷ ran 0x300 0x100 (word 0x100 0x1E00 ∷ word 0x318 0x60 ∷ []) 0x102 0 new []
    ∷ ran 0x300 0x100 (word 0x100 0x1E00 ∷ word 0x318 0xFFE ∷ []) 0x102 0 new []
    ∷ ran 0x300 0x100 (word 0x100 0x1F00 ∷ word 0x318 0x40 ∷ []) 0x102 0x2000 old []
    ∷ ran 0x300 0x100 (word 0x100 0x1F00 ∷ word 0x318 0x60 ∷ []) 0x102 0x2000 new []
    -- level 1 with its vector at 4 and its save words below 0220h; the same with save words from 0220h on; LOAD, whose vector at
    -- 3FFCh has weight 32
    ∷ entered 3 4 0x200 (Level 1) old
    ∷ entered 3 4 0x206 (Level 1) new
    ∷ entered 2 0x3FFC 0x200 Load new
    -- XOP @0220h,0 does not read its operand; the vector of XOP 8 is at 0060h
    ∷ switched 0 0x40 old
    ∷ switched 8 0x60 new
    -- an idle step at 0120h
    ∷ replayed (state 0x300 0x120 0 1 (psi 0 old)) zeros (quiet 0 ∷ []) (stepped 0 Idle (state 0x300 0x120 0 1 (psi 0 old))) []
    ∷ []

-- the claim
abbrev pub SelectionsHold : Type 0
SelectionsHold = T (every table)
