-- Which registers a microprogram loads, by induction on it. Of the instructions' forms only the context switch and IDLE load the flags,
-- so all others leave them as they were.
use Rattle.std.specs.Prelude.{if◌then◌else◌}
use Rattle.std.proofs.Common.{◌≡◌, ℕ, zero, suc, Bool, true, false, refl}
use Rattle.memory.specs.declared.Width.{Width}
use Rattle.memory.specs.declared.Width.TheVariants.{Word}
use Rattle.memory.specs.Memory.{loaded}
use Rattle.psi.specs.declared.CruBit.{CruBit}
use Rattle.psi.specs.Cru as Cru
use Rattle.isa.specs.declared.Operand.{Operand}
use Rattle.isa.specs.declared.DualOp.{DualOp}
use Rattle.isa.specs.declared.DualOp.TheVariants.{Szc, S, C, A, Mov, Soc}
use Rattle.isa.specs.declared.RegisterOp.{RegisterOp}
use Rattle.isa.specs.declared.RegisterOp.TheVariants.{Coc, Czc, Xor, Mpy, Div}
use Rattle.isa.specs.declared.SingleOp.{SingleOp}
use Rattle.isa.specs.declared.SingleOp.TheVariants.{B, Clr, Neg, Inv, Inc, Inct, Dec, Dect, Bl, Swpb, Seto, Abs}
use Rattle.isa.specs.declared.TransferOp.{TransferOp}
use Rattle.isa.specs.declared.TransferOp.TheVariants.{Ldcr, Stcr}
use Rattle.isa.specs.declared.BitOp.{BitOp}
use Rattle.isa.specs.declared.BitOp.TheVariants.{Sbo, Sbz, Tb}
use Rattle.isa.specs.declared.JumpOp.{JumpOp}
use Rattle.isa.specs.declared.ShiftOp.{ShiftOp}
use Rattle.isa.specs.declared.ImmediateOp.{ImmediateOp}
use Rattle.isa.specs.declared.ImmediateOp.TheVariants.{Li, Ai, Andi, Ori, Ci}
use Rattle.alu.specs.declared.Outcome.{Outcome}
use Rattle.alu.specs.declared.Pair.{Pair}
use Rattle.machine.specs.State.{Registers, Machine}
use Rattle.machine.specs.State as State
use Rattle.machine.specs.Micro.{Target, to_wp, to_pc, to_st, to_flags, Micro, done, look, assign, fetch, read, write, sense, drive, ◌>>=◌, registers, set, fetched, load, store, sensed, driven}
use Rattle.machine.specs.Perform.{perform, after_assign, after_fetch, after_read, after_write, after_sense, after_drive}
use Rattle.machine.specs.Operands.{register, set_register, indexed, stepped, operand}
use Rattle.machine.specs.Groups as G

-- no register is loaded but those that P allows
unfoldable pub Loads : (Target → Type 0) → {A : Type 0} → Micro A → Type 0
Loads P (done a) = Unit
Loads P (look k) = (r : Registers) → Loads P (k r)
Loads P (assign t x k) = P t × Loads P k
Loads P (fetch k) = (x : ℕ) → Loads P (k x)
Loads P (read w a k) = (x : ℕ) → Loads P (k x)
Loads P (write w a x k) = Loads P k
Loads P (sense b k) = (x : Bool) → Loads P (k x)
Loads P (drive b x k) = Loads P k

module _ (P : Target → Type 0) where
  pub loads_bind : {A B : Type 0} (p : Micro A) (f : A → Micro B) → Loads P p → ((a : A) → Loads P (f a)) → Loads P (p >>= f)
  unfolding Loads
  loads_bind (done a) f h g = g a
  loads_bind (look k) f h g = λ r. loads_bind (k r) f (h r) g
  loads_bind (assign t x k) f h g = (h.0, loads_bind k f h.1 g)
  loads_bind (fetch k) f h g = λ x. loads_bind (k x) f (h x) g
  loads_bind (read w a k) f h g = λ x. loads_bind (k x) f (h x) g
  loads_bind (write w a x k) f h g = loads_bind k f h g
  loads_bind (sense b k) f h g = λ x. loads_bind (k x) f (h x) g
  loads_bind (drive b x k) f h g = loads_bind k f h g

  loads_if : {A : Type 0} (b : Bool) (p q : Micro A) → Loads P p → Loads P q → Loads P (if b then p else q)
  loads_if true p q h k = h
  loads_if false p q h k = k

  -- each access by itself
  done_loads : {A : Type 0} (a : A) → Loads P (done a)
  unfolding Loads
  done_loads a = tt

  pub registers_loads : Loads P registers
  unfolding Loads registers
  registers_loads r = tt

  pub set_loads : (t : Target) (x : ℕ) → P t → Loads P (set t x)
  unfolding Loads set
  set_loads t x h = (h, tt)

  pub fetched_loads : Loads P fetched
  unfolding Loads fetched
  fetched_loads x = tt

  pub load_loads : (w : Width) (a : ℕ) → Loads P (load w a)
  unfolding Loads load
  load_loads w a x = tt

  store_loads : (w : Width) (a x : ℕ) → Loads P (store w a x)
  unfolding Loads store
  store_loads w a x = tt

  sensed_loads : (b : CruBit) → Loads P (sensed b)
  unfolding Loads sensed
  sensed_loads b x = tt

  driven_loads : (b : CruBit) (x : Bool) → Loads P (driven b x)
  unfolding Loads driven
  driven_loads b x = tt

  ruleset accesses = (loads_bind, loads_if, done_loads, registers_loads, fetched_loads, load_loads, store_loads, sensed_loads, driven_loads)

  -- a register in memory, and the address of an operand
  register_loads : (n : ℕ) → Loads P (register n)
  unfolding register
  register_loads n = search accesses

  set_register_loads : (n x : ℕ) → Loads P (set_register n x)
  unfolding set_register
  set_register_loads n x = search accesses

  indexed_loads : (n : ℕ) → Loads P (indexed n)
  unfolding indexed
  indexed_loads n = search (accesses, register_loads)

  stepped_loads : (w : Width) (n : ℕ) → Loads P (stepped w n)
  unfolding stepped
  stepped_loads w n = search (accesses, register_loads, set_register_loads)

  pub operand_loads : (w : Width) (o : Operand) → Loads P (operand w o)
  unfolding operand
  operand_loads w o = search (accesses, register_loads, indexed_loads, stepped_loads)

-- all registers but the flags
abbrev NotFlags : Target → Type 0
NotFlags to_wp = Unit
NotFlags to_pc = Unit
NotFlags to_st = Unit
NotFlags to_flags = ⊥

abbrev pub Flagless : {A : Type 0} → Micro A → Type 0
Flagless p = Loads NotFlags p

pub flags_left : {A : Type 0} (v : ℕ) (p : Micro A) (m : Machine) → Flagless p → (perform v p m).machine.state.flags ≡ m.state.flags
unfolding Loads perform
flags_left v (done a) m h = refl
flags_left v (look k) m h = flags_left v (k (State.registers m.state)) m (h _)
flags_left v (assign to_wp x k) m h = flags_left v k (after_assign to_wp x m) h.1
flags_left v (assign to_pc x k) m h = flags_left v k (after_assign to_pc x m) h.1
flags_left v (assign to_st x k) m h = flags_left v k (after_assign to_st x m) h.1
flags_left v (assign to_flags x k) m h = absurd h.0
flags_left v (fetch k) m h = flags_left v (k (loaded Word m.memory m.state.pc)) (after_fetch m) (h _)
flags_left v (read w a k) m h = flags_left v (k (loaded w m.memory a)) (after_read a m) (h _)
flags_left v (write w a x k) m h = flags_left v k (after_write w a x m) h
flags_left v (sense b k) m h = flags_left v (k (Cru.sensed m.state.psi v b).value) (after_sense v b m) (h _)
flags_left v (drive b x k) m h = flags_left v k (after_drive b x m) h

-- the forms, one by one
ruleset parts = (accesses, set_loads, register_loads, set_register_loads, operand_loads)

set_status_flagless : (f : ℕ → ℕ) → Flagless (G.set_status f)
unfolding G.set_status
set_status_flagless f = search parts

conclude_flagless : (w : Width) (a : ℕ) (f : ℕ → Outcome) → Flagless (G.conclude w a f)
unfolding G.conclude
conclude_flagless w a f = search parts

conclude_judged_flagless : (w : Width) (a x : ℕ) → Flagless (G.conclude_judged w a x)
unfolding G.conclude_judged
conclude_judged_flagless w a x = conclude_flagless w a _

ruleset ends = (parts, set_status_flagless, conclude_flagless, conclude_judged_flagless)

dual_effect_flagless : (op : DualOp) (w : Width) (s a : ℕ) → Flagless (G.dual_effect op w s a)
unfolding G.dual_effect
dual_effect_flagless Szc w s a = search ends
dual_effect_flagless S w s a = search ends
dual_effect_flagless C w s a = search ends
dual_effect_flagless A w s a = search ends
dual_effect_flagless Mov w s a = search ends
dual_effect_flagless Soc w s a = search ends

pub dual_flagless : (op : DualOp) (w : Width) (s d : Operand) → Flagless (G.dual op w s d)
unfolding G.dual
dual_flagless op w s d = search (ends, dual_effect_flagless)

set_pair_flagless : (n : ℕ) (p : Pair) → Flagless (G.set_pair n p)
unfolding G.set_pair
set_pair_flagless n p = search parts

divide_flagless : (n x : ℕ) → Flagless (G.divide n x)
unfolding G.divide
divide_flagless n x = search (ends, set_pair_flagless)

register_effect_flagless : (op : RegisterOp) (n x : ℕ) → Flagless (G.register_effect op n x)
unfolding G.register_effect G.set_equal
register_effect_flagless Coc n x = search ends
register_effect_flagless Czc n x = search ends
register_effect_flagless Xor n x = search ends
register_effect_flagless Mpy n x = search (ends, set_pair_flagless)
register_effect_flagless Div n x = divide_flagless n x

pub with_register_flagless : (op : RegisterOp) (s : Operand) (n : ℕ) → Flagless (G.with_register op s n)
unfolding G.with_register
with_register_flagless op s n = search (ends, register_effect_flagless)

cru_base_flagless : Flagless G.cru_base
unfolding G.cru_base
cru_base_flagless = search parts

drive_bits_flagless : (k : ℕ) (b : CruBit) (x : ℕ) → Flagless (G.drive_bits k b x)
unfolding G.drive_bits
drive_bits_flagless zero b x = search parts
drive_bits_flagless (suc k) b x = search (parts, drive_bits_flagless k)

sense_bits_flagless : (k : ℕ) (b : CruBit) → Flagless (G.sense_bits k b)
unfolding G.sense_bits
sense_bits_flagless zero b = search parts
sense_bits_flagless (suc k) b = search (parts, sense_bits_flagless k)

pub transfer_flagless : (op : TransferOp) (o : Operand) (n : ℕ) → Flagless (G.transfer op o n)
unfolding G.transfer G.load_cru G.store_cru
transfer_flagless Ldcr o n = search (ends, cru_base_flagless, drive_bits_flagless)
transfer_flagless Stcr o n = search (ends, cru_base_flagless, sense_bits_flagless)

pub access_bit_flagless : (op : BitOp) (d : ℕ) → Flagless (G.access_bit op d)
unfolding G.access_bit G.bit_effect G.set_equal
access_bit_flagless Sbo d = search (ends, cru_base_flagless)
access_bit_flagless Sbz d = search (ends, cru_base_flagless)
access_bit_flagless Tb d = search (ends, cru_base_flagless)

pub jump_flagless : (op : JumpOp) (d : ℕ) → Flagless (G.jump op d)
unfolding G.jump
jump_flagless op d = search parts

pub shift_flagless : (op : ShiftOp) (n c : ℕ) → Flagless (G.shift op n c)
unfolding G.shift G.shift_count
shift_flagless op n c = search ends

single_effect_flagless : (op : SingleOp) (a : ℕ) → Flagless (G.single_effect op a)
unfolding G.single_effect G.store_absolute
single_effect_flagless B a = search ends
single_effect_flagless Clr a = search ends
single_effect_flagless Neg a = search ends
single_effect_flagless Inv a = search ends
single_effect_flagless Inc a = search ends
single_effect_flagless Inct a = search ends
single_effect_flagless Dec a = search ends
single_effect_flagless Dect a = search ends
single_effect_flagless Bl a = search ends
single_effect_flagless Swpb a = search ends
single_effect_flagless Seto a = search ends
single_effect_flagless Abs a = search ends

pub single_flagless : (op : SingleOp) (o : Operand) → Flagless (G.single op o)
unfolding G.single
single_flagless op o = search (parts, single_effect_flagless)

immediate_effect_flagless : (op : ImmediateOp) (a d x : ℕ) → Flagless (G.immediate_effect op a d x)
unfolding G.immediate_effect
immediate_effect_flagless Li a d x = search ends
immediate_effect_flagless Ai a d x = search ends
immediate_effect_flagless Andi a d x = search ends
immediate_effect_flagless Ori a d x = search ends
immediate_effect_flagless Ci a d x = search ends

immediate_register_flagless : (op : ImmediateOp) (n : ℕ) → Flagless (G.immediate_register op n)
unfolding G.immediate_register
immediate_register_flagless Li n = search parts
immediate_register_flagless Ai n = search parts
immediate_register_flagless Andi n = search parts
immediate_register_flagless Ori n = search parts
immediate_register_flagless Ci n = search parts

pub immediate_flagless : (op : ImmediateOp) (n : ℕ) → Flagless (G.immediate op n)
unfolding G.immediate
immediate_flagless op n = search (parts, immediate_register_flagless, immediate_effect_flagless)

pub load_mask_flagless : Flagless G.load_mask
unfolding G.load_mask
load_mask_flagless = search ends

pub load_workspace_flagless : Flagless G.load_workspace
unfolding G.load_workspace
load_workspace_flagless = search parts

pub store_status_flagless : (n : ℕ) → Flagless (G.store_status n)
unfolding G.store_status
store_status_flagless n = search parts

pub store_workspace_flagless : (n : ℕ) → Flagless (G.store_workspace n)
unfolding G.store_workspace
store_workspace_flagless n = search parts

pub return_flagless : Flagless G.return
unfolding G.return
return_flagless = search parts depth 6
