-- What each of the 65536 words is, and how many further words it takes.
use Rattle.std.specs.Prelude.{ℕ, ◌+◌, ◌*◌, ◌/◌, ◌%◌, ltb, ◌==◌, nat_eq, nat_le, nat_lt, if◌then◌else◌}
use Rattle.bits.specs.Bits.{signed_byte}
use Rattle.memory.specs.declared.Width.{Width}
use Rattle.memory.specs.declared.Width.TheVariants.{Byte, Word}
use Rattle.isa.specs.declared.Operand.{Operand}
use Rattle.isa.specs.declared.DualOp.{DualOp}
use Rattle.isa.specs.declared.DualOp.TheVariants.{Szc, S, C, A, Mov, Soc}
use Rattle.isa.specs.declared.RegisterOp.{RegisterOp}
use Rattle.isa.specs.declared.RegisterOp.TheVariants.{Coc, Czc, Xor, Mpy, Div}
use Rattle.isa.specs.declared.SingleOp.{SingleOp}
use Rattle.isa.specs.declared.SingleOp.TheVariants.{B, Clr, Neg, Inv, Inc, Inct, Dec, Dect, Bl, Swpb, Seto, Abs}
use Rattle.isa.specs.declared.TransferOp.TheVariants.{Ldcr, Stcr}
use Rattle.isa.specs.declared.BitOp.{BitOp}
use Rattle.isa.specs.declared.BitOp.TheVariants.{Sbo, Sbz, Tb}
use Rattle.isa.specs.declared.JumpOp.{JumpOp}
use Rattle.isa.specs.declared.JumpOp.TheVariants.{Jmp, Jlt, Jle, Jeq, Jhe, Jgt, Jne, Jnc, Joc, Jno, Jl, Jh, Jop}
use Rattle.isa.specs.declared.ShiftOp.{ShiftOp}
use Rattle.isa.specs.declared.ShiftOp.TheVariants.{Sra, Srl, Sla, Src}
use Rattle.isa.specs.declared.ImmediateOp.{ImmediateOp}
use Rattle.isa.specs.declared.ImmediateOp.TheVariants.{Li, Ai, Andi, Ori, Ci}
use Rattle.isa.specs.declared.ControlOp.{ControlOp}
use Rattle.isa.specs.declared.ControlOp.TheVariants.{Idle, Rset, Rtwp, Ckon, Ckof, Lrex}
use Rattle.isa.specs.declared.Instruction.{Instruction}
use Rattle.isa.specs.declared.Instruction.TheVariants.{Dual, Register, Xop, Transfer, Bit, Jump, Shift, Single, Blwp, X, Immediate, Stwp, Stst, Lwpi, Limi, Control, Unassigned}

-- the general operand in a word's low six bits
unfoldable pub source : ℕ → Operand
source w = record { mode = w / 16 % 4; register = w % 16 }

-- the general operand in the six bits above those
unfoldable pub destination : ℕ → Operand
destination w = source (w / 64)

-- An instruction's code, as the manual prints it: its word less the bits below a weight.
abbrev pub opcode : ℕ → ℕ → ℕ
opcode weight w = w / weight * weight

-- 4000 to FFFF: the code is above the operands and the weight 1000h, which tells bytes from words
unfoldable pub dual_operation : ℕ → DualOp
dual_operation code =
    if code == 0x4000 then Szc
    else if code == 0x6000 then S
    else if code == 0x8000 then C
    else if code == 0xA000 then A
    else if code == 0xC000 then Mov
    else Soc

unfoldable pub dual_width : ℕ → Width
dual_width w = if w / 0x1000 % 2 == 1 then Byte else Word

unfoldable pub dual : ℕ → Instruction
dual w = Dual (dual_operation (opcode 0x2000 w)) (source w) (destination w) (dual_width w)

-- 2000 to 3FFF: the code is above the operand and a register, XOP's number or a count of bits
unfoldable pub register_operation : ℕ → RegisterOp
register_operation code =
    if code == 0x2000 then Coc
    else if code == 0x2400 then Czc
    else if code == 0x2800 then Xor
    else if code == 0x3800 then Mpy
    else Div

unfoldable pub with_register : ℕ → Instruction
with_register w =
    if opcode 0x400 w == 0x2C00 then Xop (source w) (w / 64 % 16)
    else if opcode 0x400 w == 0x3000 then Transfer Ldcr (source w) (w / 64 % 16)
    else if opcode 0x400 w == 0x3400 then Transfer Stcr (source w) (w / 64 % 16)
    else Register (register_operation (opcode 0x400 w)) (source w) (w / 64 % 16)

-- 1000 to 1FFF: the code is above the displacement; jumps, and from 1D00 on single CRU bits
unfoldable pub jump_operation : ℕ → JumpOp
jump_operation code =
    if code == 0x1000 then Jmp
    else if code == 0x1100 then Jlt
    else if code == 0x1200 then Jle
    else if code == 0x1300 then Jeq
    else if code == 0x1400 then Jhe
    else if code == 0x1500 then Jgt
    else if code == 0x1600 then Jne
    else if code == 0x1700 then Jnc
    else if code == 0x1800 then Joc
    else if code == 0x1900 then Jno
    else if code == 0x1A00 then Jl
    else if code == 0x1B00 then Jh
    else Jop

unfoldable pub bit_operation : ℕ → BitOp
bit_operation code =
    if code == 0x1D00 then Sbo
    else if code == 0x1E00 then Sbz
    else Tb

-- where a jump goes: a signed displacement of words from the PC after the instruction; the addresses are 8000h words, and wrap
-- at 65536
unfoldable pub target : ℕ → ℕ → ℕ
target pc d = (pc + 2 * signed_byte 0x8000 d) % 65536

unfoldable pub with_displacement : ℕ → Instruction
with_displacement w =
    if nat_lt w 0x1D00 then Jump (jump_operation (opcode 0x100 w)) (w % 256)
    else Bit (bit_operation (opcode 0x100 w)) (w % 256)

-- 0800 to 0FFF: the code is above the count and the register; from 0C00 on unassigned
unfoldable pub shift_operation : ℕ → ShiftOp
shift_operation code =
    if code == 0x0800 then Sra
    else if code == 0x0900 then Srl
    else if code == 0x0A00 then Sla
    else Src

unfoldable pub shift : ℕ → Instruction
shift w =
    if nat_lt w 0x0C00 then Shift (shift_operation (opcode 0x100 w)) (w % 16) (w / 16 % 16)
    else Unassigned

-- 0400 to 07FF: the code is above the operand; from 0780 on unassigned
unfoldable pub single_operation : ℕ → SingleOp
single_operation code =
    if code == 0x0440 then B
    else if code == 0x04C0 then Clr
    else if code == 0x0500 then Neg
    else if code == 0x0540 then Inv
    else if code == 0x0580 then Inc
    else if code == 0x05C0 then Inct
    else if code == 0x0600 then Dec
    else if code == 0x0640 then Dect
    else if code == 0x0680 then Bl
    else if code == 0x06C0 then Swpb
    else if code == 0x0700 then Seto
    else Abs

unfoldable pub single : ℕ → Instruction
single w =
    if ltb w 0x0780 then
    (if nat_eq (opcode 0x40 w) 0x0400 then Blwp (source w)
    else if opcode 0x40 w == 0x0480 then X (source w)
    else Single (single_operation (opcode 0x40 w)) (source w))
    else Unassigned

-- 0200 to 03FF: the code is above the low five bits. Four of these are the register where a form has one; the other bits do
-- not matter.
unfoldable pub immediate_operation : ℕ → ImmediateOp
immediate_operation code =
    if code == 0x0200 then Li
    else if code == 0x0220 then Ai
    else if code == 0x0240 then Andi
    else if code == 0x0260 then Ori
    else Ci

unfoldable pub control_operation : ℕ → ControlOp
control_operation code =
    if code == 0x0340 then Idle
    else if code == 0x0360 then Rset
    else if code == 0x0380 then Rtwp
    else if code == 0x03A0 then Ckon
    else if code == 0x03C0 then Ckof
    else Lrex

unfoldable pub immediate : ℕ → Instruction
immediate w =
    if nat_lt w 0x02A0 then Immediate (immediate_operation (opcode 0x20 w)) (w % 16)
    else if opcode 0x20 w == 0x02A0 then Stwp (w % 16)
    else if opcode 0x20 w == 0x02C0 then Stst (w % 16)
    else if opcode 0x20 w == 0x02E0 then Lwpi
    else if opcode 0x20 w == 0x0300 then Limi
    else if opcode 0x20 w == 0x0320 then Unassigned
    else Control (control_operation (opcode 0x20 w))

-- the instruction that a word is; `Words.in_gaps` has the words that are none
unfoldable pub decoded : ℕ → Instruction
decoded w =
    if nat_le 0x4000 w then dual w
    else if nat_le 0x2000 w then with_register w
    else if nat_le 0x1000 w then with_displacement w
    else if nat_le 0x0800 w then shift w
    else if nat_le 0x0400 w then single w
    else if nat_le 0x0200 w then immediate w
    else Unassigned

-- a general operand takes a further word where its mode is 2
unfoldable pub operand_words : Operand → ℕ
operand_words o = if o.mode == 2 then 1 else 0

-- how many words an instruction takes after its first; X counts only its own
unfoldable pub further_words : Instruction → ℕ
further_words (Dual o s d w) = operand_words s + operand_words d
further_words (Register o s r) = operand_words s
further_words (Xop s n) = operand_words s
further_words (Transfer o s n) = operand_words s
further_words (Bit o d) = 0
further_words (Jump o d) = 0
further_words (Shift o r n) = 0
further_words (Single o s) = operand_words s
further_words (Blwp s) = operand_words s
further_words (X s) = operand_words s
further_words (Immediate o r) = 1
further_words (Stwp r) = 0
further_words (Stst r) = 0
further_words Lwpi = 1
further_words Limi = 1
further_words (Control o) = 0
further_words Unassigned = 0
