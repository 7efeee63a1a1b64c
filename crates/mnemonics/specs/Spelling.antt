-- How the mnemonics are spelled: as in the data manual's list of instructions (document 002, table 5-6), and DATA (document 02).
use Prim.Native.String.{String}
use Rattle.memory.specs.declared.Width.{Width}
use Rattle.memory.specs.declared.Width.TheVariants.{Byte, Word}
use Rattle.isa.specs.declared.DualOp.{DualOp}
use Rattle.isa.specs.declared.DualOp.TheVariants.{Szc, S, C, A, Mov, Soc}
use Rattle.isa.specs.declared.RegisterOp.{RegisterOp}
use Rattle.isa.specs.declared.RegisterOp.TheVariants.{Coc, Czc, Xor, Mpy, Div}
use Rattle.isa.specs.declared.SingleOp.{SingleOp}
use Rattle.isa.specs.declared.SingleOp.TheVariants.{B, Clr, Neg, Inv, Inc, Inct, Dec, Dect, Bl, Swpb, Seto, Abs}
use Rattle.isa.specs.declared.TransferOp.{TransferOp}
use Rattle.isa.specs.declared.TransferOp.TheVariants.{Ldcr, Stcr}
use Rattle.isa.specs.declared.BitOp.{BitOp}
use Rattle.isa.specs.declared.BitOp.TheVariants.{Sbo, Sbz, Tb}
use Rattle.isa.specs.declared.JumpOp.{JumpOp}
use Rattle.isa.specs.declared.JumpOp.TheVariants.{Jmp, Jlt, Jle, Jeq, Jhe, Jgt, Jne, Jnc, Joc, Jno, Jl, Jh, Jop}
use Rattle.isa.specs.declared.ShiftOp.{ShiftOp}
use Rattle.isa.specs.declared.ShiftOp.TheVariants.{Sra, Srl, Sla, Src}
use Rattle.isa.specs.declared.ImmediateOp.{ImmediateOp}
use Rattle.isa.specs.declared.ImmediateOp.TheVariants.{Li, Ai, Andi, Ori, Ci}
use Rattle.isa.specs.declared.ControlOp.{ControlOp}
use Rattle.isa.specs.declared.ControlOp.TheVariants.{Idle, Rset, Rtwp, Ckon, Ckof, Lrex}
use Rattle.notation.specs.declared.Mnemonic.{Mnemonic}
use Rattle.notation.specs.declared.Mnemonic.TheVariants as mnemonic

-- the dual forms of words and, with a B more, of bytes
unfoldable pub dual_name : DualOp → Width → String
dual_name Szc Word = "SZC"
dual_name Szc Byte = "SZCB"
dual_name S Word = "S"
dual_name S Byte = "SB"
dual_name C Word = "C"
dual_name C Byte = "CB"
dual_name A Word = "A"
dual_name A Byte = "AB"
dual_name Mov Word = "MOV"
dual_name Mov Byte = "MOVB"
dual_name Soc Word = "SOC"
dual_name Soc Byte = "SOCB"

unfoldable pub register_name : RegisterOp → String
register_name Coc = "COC"
register_name Czc = "CZC"
register_name Xor = "XOR"
register_name Mpy = "MPY"
register_name Div = "DIV"

unfoldable pub transfer_name : TransferOp → String
transfer_name Ldcr = "LDCR"
transfer_name Stcr = "STCR"

unfoldable pub bit_name : BitOp → String
bit_name Sbo = "SBO"
bit_name Sbz = "SBZ"
bit_name Tb = "TB"

unfoldable pub jump_name : JumpOp → String
jump_name Jmp = "JMP"
jump_name Jlt = "JLT"
jump_name Jle = "JLE"
jump_name Jeq = "JEQ"
jump_name Jhe = "JHE"
jump_name Jgt = "JGT"
jump_name Jne = "JNE"
jump_name Jnc = "JNC"
jump_name Joc = "JOC"
jump_name Jno = "JNO"
jump_name Jl = "JL"
jump_name Jh = "JH"
jump_name Jop = "JOP"

unfoldable pub shift_name : ShiftOp → String
shift_name Sra = "SRA"
shift_name Srl = "SRL"
shift_name Sla = "SLA"
shift_name Src = "SRC"

unfoldable pub single_name : SingleOp → String
single_name B = "B"
single_name Clr = "CLR"
single_name Neg = "NEG"
single_name Inv = "INV"
single_name Inc = "INC"
single_name Inct = "INCT"
single_name Dec = "DEC"
single_name Dect = "DECT"
single_name Bl = "BL"
single_name Swpb = "SWPB"
single_name Seto = "SETO"
single_name Abs = "ABS"

unfoldable pub immediate_name : ImmediateOp → String
immediate_name Li = "LI"
immediate_name Ai = "AI"
immediate_name Andi = "ANDI"
immediate_name Ori = "ORI"
immediate_name Ci = "CI"

unfoldable pub control_name : ControlOp → String
control_name Idle = "IDLE"
control_name Rset = "RSET"
control_name Rtwp = "RTWP"
control_name Ckon = "CKON"
control_name Ckof = "CKOF"
control_name Lrex = "LREX"

unfoldable pub name : Mnemonic → String
name (mnemonic.Dual op w) = dual_name op w
name (mnemonic.Register op) = register_name op
name mnemonic.Xop = "XOP"
name (mnemonic.Transfer op) = transfer_name op
name (mnemonic.Bit op) = bit_name op
name (mnemonic.Jump op) = jump_name op
name (mnemonic.Shift op) = shift_name op
name (mnemonic.Single op) = single_name op
name mnemonic.Blwp = "BLWP"
name mnemonic.X = "X"
name (mnemonic.Immediate op) = immediate_name op
name mnemonic.Stwp = "STWP"
name mnemonic.Stst = "STST"
name mnemonic.Lwpi = "LWPI"
name mnemonic.Limi = "LIMI"
name (mnemonic.Control op) = control_name op
name mnemonic.Data = "DATA"
