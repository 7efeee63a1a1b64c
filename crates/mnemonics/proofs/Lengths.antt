-- No name has more than four letters, as each shows by itself.
use Prim.Native.Nat.{◌≤◌}
use native.Mathlib.Omega.{arith}
use lib.ListN.{length}
use Rattle.memory.specs.declared.Width.{Width}
use Rattle.memory.specs.declared.Width.TheVariants.{Byte, Word}
use Rattle.isa.specs.declared.DualOp.{DualOp}
use Rattle.isa.specs.declared.DualOp.TheVariants.{Szc, S, C, A, Mov, Soc}
use Rattle.isa.specs.declared.RegisterOp.{RegisterOp}
use Rattle.isa.specs.declared.RegisterOp.TheVariants.{Coc, Czc, Xor, Mpy, Div}
use Rattle.isa.specs.declared.SingleOp.{SingleOp}
use Rattle.isa.specs.declared.SingleOp.TheVariants.{B, Clr, Neg, Inv, Inc, Inct, Dec, Dect, Bl, Swpb, Seto, Abs}
use Rattle.isa.specs.declared.TransferOp.{TransferOp}
use Rattle.isa.specs.declared.TransferOp.TheVariants.{Ldcr, Stcr}
use Rattle.isa.specs.declared.BitOp.{BitOp}
use Rattle.isa.specs.declared.BitOp.TheVariants.{Sbo, Sbz, Tb}
use Rattle.isa.specs.declared.JumpOp.{JumpOp}
use Rattle.isa.specs.declared.JumpOp.TheVariants.{Jmp, Jlt, Jle, Jeq, Jhe, Jgt, Jne, Jnc, Joc, Jno, Jl, Jh, Jop}
use Rattle.isa.specs.declared.ShiftOp.{ShiftOp}
use Rattle.isa.specs.declared.ShiftOp.TheVariants.{Sra, Srl, Sla, Src}
use Rattle.isa.specs.declared.ImmediateOp.{ImmediateOp}
use Rattle.isa.specs.declared.ImmediateOp.TheVariants.{Li, Ai, Andi, Ori, Ci}
use Rattle.isa.specs.declared.ControlOp.{ControlOp}
use Rattle.isa.specs.declared.ControlOp.TheVariants.{Idle, Rset, Rtwp, Ckon, Ckof, Lrex}
use Rattle.notation.specs.declared.Mnemonic.{Mnemonic}
use Rattle.notation.specs.declared.Mnemonic.TheVariants as mnemonic
use Rattle.text.specs.Texts.{ascii}
use Rattle.mnemonics.specs.Spelling.{dual_name, register_name, transfer_name, bit_name, jump_name, shift_name, single_name, immediate_name, control_name, name}

dual_short : (op : DualOp) (w : Width) → length (ascii (dual_name op w)) ≤ 4
unfolding ascii dual_name
dual_short Szc Word = omega arith
dual_short Szc Byte = omega arith
dual_short S Word = omega arith
dual_short S Byte = omega arith
dual_short C Word = omega arith
dual_short C Byte = omega arith
dual_short A Word = omega arith
dual_short A Byte = omega arith
dual_short Mov Word = omega arith
dual_short Mov Byte = omega arith
dual_short Soc Word = omega arith
dual_short Soc Byte = omega arith

register_short : (op : RegisterOp) → length (ascii (register_name op)) ≤ 4
unfolding ascii register_name
register_short Coc = omega arith
register_short Czc = omega arith
register_short Xor = omega arith
register_short Mpy = omega arith
register_short Div = omega arith

transfer_short : (op : TransferOp) → length (ascii (transfer_name op)) ≤ 4
unfolding ascii transfer_name
transfer_short Ldcr = omega arith
transfer_short Stcr = omega arith

bit_short : (op : BitOp) → length (ascii (bit_name op)) ≤ 4
unfolding ascii bit_name
bit_short Sbo = omega arith
bit_short Sbz = omega arith
bit_short Tb = omega arith

jump_short : (op : JumpOp) → length (ascii (jump_name op)) ≤ 4
unfolding ascii jump_name
jump_short Jmp = omega arith
jump_short Jlt = omega arith
jump_short Jle = omega arith
jump_short Jeq = omega arith
jump_short Jhe = omega arith
jump_short Jgt = omega arith
jump_short Jne = omega arith
jump_short Jnc = omega arith
jump_short Joc = omega arith
jump_short Jno = omega arith
jump_short Jl = omega arith
jump_short Jh = omega arith
jump_short Jop = omega arith

shift_short : (op : ShiftOp) → length (ascii (shift_name op)) ≤ 4
unfolding ascii shift_name
shift_short Sra = omega arith
shift_short Srl = omega arith
shift_short Sla = omega arith
shift_short Src = omega arith

single_short : (op : SingleOp) → length (ascii (single_name op)) ≤ 4
unfolding ascii single_name
single_short B = omega arith
single_short Clr = omega arith
single_short Neg = omega arith
single_short Inv = omega arith
single_short Inc = omega arith
single_short Inct = omega arith
single_short Dec = omega arith
single_short Dect = omega arith
single_short Bl = omega arith
single_short Swpb = omega arith
single_short Seto = omega arith
single_short Abs = omega arith

immediate_short : (op : ImmediateOp) → length (ascii (immediate_name op)) ≤ 4
unfolding ascii immediate_name
immediate_short Li = omega arith
immediate_short Ai = omega arith
immediate_short Andi = omega arith
immediate_short Ori = omega arith
immediate_short Ci = omega arith

control_short : (op : ControlOp) → length (ascii (control_name op)) ≤ 4
unfolding ascii control_name
control_short Idle = omega arith
control_short Rset = omega arith
control_short Rtwp = omega arith
control_short Ckon = omega arith
control_short Ckof = omega arith
control_short Lrex = omega arith

pub name_short : (m : Mnemonic) → length (ascii (name m)) ≤ 4
unfolding ascii name
name_short (mnemonic.Dual op w) = dual_short op w
name_short (mnemonic.Register op) = register_short op
name_short mnemonic.Xop = omega arith
name_short (mnemonic.Transfer op) = transfer_short op
name_short (mnemonic.Bit op) = bit_short op
name_short (mnemonic.Jump op) = jump_short op
name_short (mnemonic.Shift op) = shift_short op
name_short (mnemonic.Single op) = single_short op
name_short mnemonic.Blwp = omega arith
name_short mnemonic.X = omega arith
name_short (mnemonic.Immediate op) = immediate_short op
name_short mnemonic.Stwp = omega arith
name_short mnemonic.Stst = omega arith
name_short mnemonic.Lwpi = omega arith
name_short mnemonic.Limi = omega arith
name_short (mnemonic.Control op) = control_short op
name_short mnemonic.Data = omega arith
