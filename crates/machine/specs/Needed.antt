-- Document 02, Q-4: nothing is read whose value is not needed. What every form accesses, instruction by instruction; with the order of
-- dual forms, ABS, XOP, entries and RTWP (Order) these are all accesses of all instructions.
use Rattle.std.specs.Prelude.{◌≡◌, ℕ, zero, suc, ◌+◌, ◌/◌, ◌%◌, ◌<◌, true, false, List, [], ◌∷◌, ◌++◌, nat_le}
use Rattle.bits.specs.Bits.{bit, put}
use Rattle.bits.specs.Logic.{both, either, exclusive, without, inverted, swapped}
use Rattle.memory.specs.declared.Width.{Width}
use Rattle.memory.specs.declared.Width.TheVariants.{Word}
use Rattle.memory.specs.Memory.{loaded, bytes}
use Rattle.psi.specs.declared.CruBit.{CruBit}
use Rattle.psi.specs.Cru.{first_bit, beyond, displaced}
use Rattle.isa.specs.declared.Operand.{Operand}
use Rattle.isa.specs.declared.DualOp.TheVariants.{Szc, S, C, A, Mov, Soc}
use Rattle.isa.specs.declared.RegisterOp.{RegisterOp}
use Rattle.isa.specs.declared.RegisterOp.TheVariants.{Coc, Czc, Xor, Mpy, Div}
use Rattle.isa.specs.declared.SingleOp.{SingleOp}
use Rattle.isa.specs.declared.SingleOp.TheVariants.{B, Clr, Neg, Inv, Inc, Inct, Dec, Dect, Bl, Swpb, Seto}
use Rattle.isa.specs.declared.TransferOp.TheVariants.{Ldcr, Stcr}
use Rattle.isa.specs.declared.BitOp.TheVariants.{Sbo, Sbz, Tb}
use Rattle.isa.specs.declared.JumpOp.{JumpOp}
use Rattle.isa.specs.declared.ShiftOp.{ShiftOp}
use Rattle.isa.specs.declared.ImmediateOp.TheVariants.{Li, Ai, Andi, Ori, Ci}
use Rattle.isa.specs.declared.ControlOp.TheVariants.{Idle, Rset, Ckon, Ckof, Lrex}
use Rattle.isa.specs.declared.Instruction.{Instruction}
use Rattle.isa.specs.declared.Instruction.TheVariants.{Dual, Register, Xop, Transfer, Bit, Jump, Shift, Single, Blwp, X, Immediate, Stwp, Stst, Lwpi, Limi, Control, Unassigned}
use Rattle.alu.specs.declared.Pair.{Pair}
use Rattle.alu.specs.Sums.{sum, difference, negated}
use Rattle.alu.specs.Shifts.{amount, shifted}
use Rattle.alu.specs.Products.{product, divided}
use Rattle.machine.specs.State.{Machine, idle as idle-flag, no_sample}
use Rattle.machine.specs.declared.Deed.{Deed}
use Rattle.machine.specs.Micro.{Micro, to_flags}
use Rattle.machine.specs.Perform.{Performed, perform, after_assign, after_fetch, after_read, Access, was_fetched, was_read, was_written, was_sensed, was_driven, accesses}
use Rattle.machine.specs.Operands.{register_at, operand}
use Rattle.machine.specs.Groups as G
use Rattle.machine.specs.Execute.{instruction, again, execute, allowance}
use Rattle.machine.specs.Step.{proceed}
use Rattle.machine.specs.Order.{switching}

-- where register n is, and what it holds; the next word at the PC
abbrev pub place : ℕ → Machine → ℕ
place n m = register_at m.state.wp n

abbrev pub held : ℕ → Machine → ℕ
held n m = loaded Word m.memory (place n m)

abbrev pub further : Machine → ℕ
further m = loaded Word m.memory m.state.pc

-- register n read and stored; the next word at the PC fetched
abbrev pub reads : ℕ → Machine → Access
reads n m = was_read Word (place n m)

abbrev pub sets : ℕ → ℕ → Machine → Access
sets n x m = was_written Word (place n m) x

abbrev pub fetches : Machine → Access
fetches m = was_fetched m.state.pc

-- an operand read, and the result that f makes of it stored
abbrev pub rewrites : Width → ℕ → (ℕ → ℕ) → Machine → List Access
rewrites w a f m = was_read w a ∷ was_written w a (f (loaded w m.memory a)) ∷ []

-- a register and the word after it stored
abbrev pub sets_pair : ℕ → Pair → Machine → List Access
sets_pair n p m = sets n p.high m ∷ sets (n + 1) p.low m ∷ []

-- k CRU bits read, and written with the lowest bits of x, from a bit upwards
unfoldable pub sensed_from : ℕ → CruBit → List Access
sensed_from zero b = []
sensed_from (suc k) b = was_sensed b ∷ sensed_from k (beyond b 1)

unfoldable pub driven_from : ℕ → CruBit → ℕ → List Access
driven_from zero b x = []
driven_from (suc k) b x = was_driven b (bit 0 x) ∷ driven_from k (beyond b 1) (x / 2)

-- the CRU bit that R12 points at
abbrev pub base : Machine → CruBit
base m = first_bit (record { 0 = held 12 m })

-- the number that STCR finds in k bits, once R12 is read
abbrev pub found : ℕ → ℕ → Machine → ℕ
found v k m = (perform v (G.sense_bits k (base m)) (after_read (place 12 m) m)).value

-- COC, CZC, XOR, MPY and DIV from their source's address on: the source, and then what each does with its register
abbrev pub with_source : ℕ → RegisterOp → ℕ → Performed ℕ → List Access
with_source v op n from =
    was_read Word from.value
    ∷ accesses v (G.register_effect op n (loaded Word from.machine.memory from.value)) (after_read from.value from.machine)

-- STCR from its operand's address on: R12, the bits, and the store; the operand is not read.
abbrev pub stored_bits : ℕ → ℕ → Performed ℕ → List Access
stored_bits v k to =
    reads 12 to.machine
    ∷ (sensed_from k (base to.machine) ++ (was_written (G.transfer_width k) to.value (found v k to.machine) ∷ []))

-- LDCR from its operand's address on: the operand, R12, and then the bits.
abbrev pub loaded_bits : ℕ → Performed ℕ → List Access
loaded_bits k from =
    was_read (G.transfer_width k) from.value
    ∷ reads 12 from.machine
    ∷ driven_from k (base from.machine) (loaded (G.transfer_width k) from.machine.memory from.value)

-- X from its operand's address on: the word there, and then what that word's instruction accesses
abbrev pub executed : ℕ → ℕ → Performed ℕ → List Access
executed v k at =
    was_read Word at.value
    ∷ accesses v (execute k (loaded Word at.machine.memory at.value)) (after_read at.value at.machine)

-- X's accesses, with an allowance of k more after it
abbrev pub XInOrder : Type 0
XInOrder =
    (v k : ℕ) (o : Operand) (m : Machine)
    → accesses v (again (suc k) o) m ≡ accesses v (operand Word o) m ++ executed v k (perform v (operand Word o) m)

-- What an instruction accesses after the fetch of its first word is what its form does; an unassigned word nothing.
unfoldable pub by_form : ℕ → (Operand → Micro Deed) → Instruction → Machine → List Access
by_form v x (Dual op s d w) m = accesses v (G.dual op w s d) m
by_form v x (Register op s n) m = accesses v (G.with_register op s n) m
by_form v x (Xop o n) m = accesses v (G.switch_by_number o n) m
by_form v x (Transfer Ldcr o n) m = accesses v (G.load_cru (amount n) o) m
by_form v x (Transfer Stcr o n) m = accesses v (G.store_cru (amount n) o) m
by_form v x (Bit op d) m = accesses v (G.access_bit op d) m
by_form v x (Jump op d) m = accesses v (G.jump op d) m
by_form v x (Shift op n c) m = accesses v (G.shift op n c) m
by_form v x (Single op o) m = accesses v (G.single op o) m
by_form v x (Blwp o) m = accesses v (G.switch_by_operand o) m
by_form v x (X o) m = accesses v (x o) m
by_form v x (Immediate op n) m = accesses v (G.immediate op n) m
by_form v x (Stwp n) m = accesses v (G.store_workspace n) m
by_form v x (Stst n) m = accesses v (G.store_status n) m
by_form v x Lwpi m = accesses v G.load_workspace m
by_form v x Limi m = accesses v G.load_mask m
by_form v x (Control op) m = accesses v (G.command op) m
by_form v x Unassigned m = []

abbrev pub FormsAlone : Type 0
FormsAlone = (v : ℕ) (x : Operand → Micro Deed) (i : Instruction) (m : Machine) → accesses v (instruction x i) m ≡ by_form v x i m

-- the machine once no-sample is cleared, before an instruction is fetched
abbrev pub awake : Machine → Machine
awake m = after_assign to_flags (put no_sample false m.state.flags) m

-- A step without an entry fetches the word at the PC and executes it, unless the machine is idle.
abbrev pub Proceeding : Type 0
Proceeding =
    (v : ℕ) (m : Machine)
    → bit idle-flag m.state.flags ≡ false
    → accesses v proceed m ≡ fetches m ∷ accesses v (execute allowance (further m)) (after_fetch (awake m))

pub record Needed : Type 0 where
  pub form : FormsAlone
  -- the address of Rn, *Rn, @a, @a(Rn) and *Rn+: Rn itself is not read for its address, and R0 is no index
  pub direct : (v : ℕ) (w : Width) (n : ℕ) (m : Machine) → accesses v (operand w (record { mode = 0; register = n })) m ≡ []
  pub indirect :
      (v : ℕ) (w : Width) (n : ℕ) (m : Machine) → accesses v (operand w (record { mode = 1; register = n })) m ≡ reads n m ∷ []
  pub symbolic :
      (v : ℕ) (w : Width) (m : Machine) → accesses v (operand w (record { mode = 2; register = 0 })) m ≡ fetches m ∷ []
  pub indexed :
      (v : ℕ) (w : Width) (n : ℕ) (m : Machine)
      → 0 < n
      → accesses v (operand w (record { mode = 2; register = n })) m ≡ fetches m ∷ reads n m ∷ []
  pub increment :
      (v : ℕ) (w : Width) (n : ℕ) (m : Machine)
      → accesses v (operand w (record { mode = 3; register = n })) m ≡ reads n m ∷ sets n ((held n m + bytes w) % 65536) m ∷ []
  -- with a source's value x and a destination at a: MOV does not read its destination, C stores nothing
  pub szc : (v : ℕ) (w : Width) (x a : ℕ) (m : Machine) → accesses v (G.dual_effect Szc w x a) m ≡ rewrites w a (λ d. without d x) m
  pub s :
      (v : ℕ) (w : Width) (x a : ℕ) (m : Machine)
      → accesses v (G.dual_effect S w x a) m ≡ rewrites w a (λ d. (difference w d x m.state.st).value) m
  pub c : (v : ℕ) (w : Width) (x a : ℕ) (m : Machine) → accesses v (G.dual_effect C w x a) m ≡ was_read w a ∷ []
  pub add :
      (v : ℕ) (w : Width) (x a : ℕ) (m : Machine)
      → accesses v (G.dual_effect A w x a) m ≡ rewrites w a (λ d. (sum w d x m.state.st).value) m
  pub mov : (v : ℕ) (w : Width) (x a : ℕ) (m : Machine) → accesses v (G.dual_effect Mov w x a) m ≡ was_written w a x ∷ []
  pub soc : (v : ℕ) (w : Width) (x a : ℕ) (m : Machine) → accesses v (G.dual_effect Soc w x a) m ≡ rewrites w a (λ d. either d x) m
  -- a register form takes its source's address and value first
  pub with_register :
      (v : ℕ) (op : RegisterOp) (s : Operand) (n : ℕ) (m : Machine)
      → accesses v (G.with_register op s n) m ≡ accesses v (operand Word s) m ++ with_source v op n (perform v (operand Word s) m)
  -- with a source's value x and register n: COC and CZC store nothing; MPY reads its register whatever x is, and not the word after it; so
  -- does DIV, but where the quotient fits it then reads that word too
  pub coc : (v n x : ℕ) (m : Machine) → accesses v (G.register_effect Coc n x) m ≡ reads n m ∷ []
  pub czc : (v n x : ℕ) (m : Machine) → accesses v (G.register_effect Czc n x) m ≡ reads n m ∷ []
  pub xor : (v n x : ℕ) (m : Machine) → accesses v (G.register_effect Xor n x) m ≡ reads n m ∷ sets n (exclusive (held n m) x) m ∷ []
  pub mpy : (v n x : ℕ) (m : Machine) → accesses v (G.register_effect Mpy n x) m ≡ reads n m ∷ sets_pair n (product (held n m) x) m
  pub div_overflows :
      (v n x : ℕ) (m : Machine) → nat_le x (held n m) ≡ true → accesses v (G.register_effect Div n x) m ≡ reads n m ∷ []
  pub div_fits :
      (v n x : ℕ) (m : Machine)
      → nat_le x (held n m) ≡ false
      → accesses v (G.register_effect Div n x) m
      ≡ reads n m ∷ reads (n + 1) m ∷ sets_pair n (divided x (record { high = held n m; low = held (n + 1) m })) m
  -- STCR does not read its operand, and stores after the bits; LDCR's memory comes before its bits
  pub ldcr :
      (v k : ℕ) (o : Operand) (m : Machine)
      → accesses v (G.load_cru k o) m
      ≡ accesses v (operand (G.transfer_width k) o) m ++ loaded_bits k (perform v (operand (G.transfer_width k) o) m)
  pub stcr :
      (v k : ℕ) (o : Operand) (m : Machine)
      → accesses v (G.store_cru k o) m
      ≡ accesses v (operand (G.transfer_width k) o) m ++ stored_bits v k (perform v (operand (G.transfer_width k) o) m)
  pub sbo : (v d : ℕ) (m : Machine) → accesses v (G.access_bit Sbo d) m ≡ reads 12 m ∷ was_driven (displaced (base m) d) true ∷ []
  pub sbz : (v d : ℕ) (m : Machine) → accesses v (G.access_bit Sbz d) m ≡ reads 12 m ∷ was_driven (displaced (base m) d) false ∷ []
  pub tb : (v d : ℕ) (m : Machine) → accesses v (G.access_bit Tb d) m ≡ reads 12 m ∷ was_sensed (displaced (base m) d) ∷ []
  -- a jump's target is not accessed; a shift reads R0 only where its count is coded 0
  pub jump : (v : ℕ) (op : JumpOp) (d : ℕ) (m : Machine) → accesses v (G.jump op d) m ≡ []
  pub shift :
      (v : ℕ) (op : ShiftOp) (n c : ℕ) (m : Machine)
      → 0 < c
      → accesses v (G.shift op n c) m ≡ reads n m ∷ sets n (shifted op (held n m) c m.state.st).value m ∷ []
  pub shift_by_r0 :
      (v : ℕ) (op : ShiftOp) (n : ℕ) (m : Machine)
      → accesses v (G.shift op n 0) m
      ≡ reads n m ∷ reads 0 m ∷ sets n (shifted op (held n m) (held 0 m) m.state.st).value m ∷ []
  -- a single form takes its operand's address first
  pub single :
      (v : ℕ) (op : SingleOp) (o : Operand) (m : Machine)
      → accesses v (G.single op o) m
      ≡ accesses v (operand Word o) m
      ++ accesses v (G.single_effect op (perform v (operand Word o) m).value) (perform v (operand Word o) m).machine
  -- with an operand at a: B and BL do not read it, CLR and SETO only store
  pub b : (v a : ℕ) (m : Machine) → accesses v (G.single_effect B a) m ≡ []
  pub clr : (v a : ℕ) (m : Machine) → accesses v (G.single_effect Clr a) m ≡ was_written Word a 0 ∷ []
  pub neg :
      (v a : ℕ) (m : Machine) → accesses v (G.single_effect Neg a) m ≡ rewrites Word a (λ x. (negated x m.state.st).value) m
  pub inv : (v a : ℕ) (m : Machine) → accesses v (G.single_effect Inv a) m ≡ rewrites Word a inverted m
  pub inc :
      (v a : ℕ) (m : Machine) → accesses v (G.single_effect Inc a) m ≡ rewrites Word a (λ x. (sum Word x 1 m.state.st).value) m
  pub inct :
      (v a : ℕ) (m : Machine) → accesses v (G.single_effect Inct a) m ≡ rewrites Word a (λ x. (sum Word x 2 m.state.st).value) m
  pub dec :
      (v a : ℕ) (m : Machine)
      → accesses v (G.single_effect Dec a) m ≡ rewrites Word a (λ x. (difference Word x 1 m.state.st).value) m
  pub dect :
      (v a : ℕ) (m : Machine)
      → accesses v (G.single_effect Dect a) m ≡ rewrites Word a (λ x. (difference Word x 2 m.state.st).value) m
  pub bl : (v a : ℕ) (m : Machine) → accesses v (G.single_effect Bl a) m ≡ sets 11 m.state.pc m ∷ []
  pub swpb : (v a : ℕ) (m : Machine) → accesses v (G.single_effect Swpb a) m ≡ rewrites Word a swapped m
  pub seto : (v a : ℕ) (m : Machine) → accesses v (G.single_effect Seto a) m ≡ was_written Word a 0xFFFF ∷ []
  -- BLWP's operand is its vector; X reads its operand and executes it, and the ninth X does not even work out the address
  pub blwp :
      (v : ℕ) (o : Operand) (m : Machine)
      → accesses v (G.switch_by_operand o) m
      ≡ accesses v (operand Word o) m ++ switching (perform v (operand Word o) m).value (perform v (operand Word o) m).machine
  pub x : XInOrder
  pub ninth_x : (v : ℕ) (o : Operand) (m : Machine) → accesses v (again 0 o) m ≡ []
  -- LI, STWP and STST do not read their register; CI stores nothing
  pub li : (v n : ℕ) (m : Machine) → accesses v (G.immediate Li n) m ≡ fetches m ∷ sets n (further m) m ∷ []
  pub ai :
      (v n : ℕ) (m : Machine)
      → accesses v (G.immediate Ai n) m
      ≡ reads n m ∷ fetches m ∷ sets n (sum Word (held n m) (further m) m.state.st).value m ∷ []
  pub andi :
      (v n : ℕ) (m : Machine)
      → accesses v (G.immediate Andi n) m ≡ reads n m ∷ fetches m ∷ sets n (both (held n m) (further m)) m ∷ []
  pub ori :
      (v n : ℕ) (m : Machine)
      → accesses v (G.immediate Ori n) m ≡ reads n m ∷ fetches m ∷ sets n (either (held n m) (further m)) m ∷ []
  pub ci : (v n : ℕ) (m : Machine) → accesses v (G.immediate Ci n) m ≡ reads n m ∷ fetches m ∷ []
  pub stwp : (v n : ℕ) (m : Machine) → accesses v (G.store_workspace n) m ≡ sets n m.state.wp m ∷ []
  pub stst : (v n : ℕ) (m : Machine) → accesses v (G.store_status n) m ≡ sets n m.state.st m ∷ []
  pub lwpi : (v : ℕ) (m : Machine) → accesses v G.load_workspace m ≡ fetches m ∷ []
  pub limi : (v : ℕ) (m : Machine) → accesses v G.load_mask m ≡ fetches m ∷ []
  -- the control forms but RTWP access nothing, LREX no vector
  pub idle : (v : ℕ) (m : Machine) → accesses v (G.command Idle) m ≡ []
  pub rset : (v : ℕ) (m : Machine) → accesses v (G.command Rset) m ≡ []
  pub ckon : (v : ℕ) (m : Machine) → accesses v (G.command Ckon) m ≡ []
  pub ckof : (v : ℕ) (m : Machine) → accesses v (G.command Ckof) m ≡ []
  pub lrex : (v : ℕ) (m : Machine) → accesses v (G.command Lrex) m ≡ []
  -- an idle step does not even fetch the word at the PC
  pub executing_step : Proceeding
  pub idle_step : (v : ℕ) (m : Machine) → bit idle-flag m.state.flags ≡ true → accesses v proceed m ≡ []
