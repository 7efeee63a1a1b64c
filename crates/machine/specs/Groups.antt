-- The instructions, form by form, with document 01's order of accesses: the source's address, its increment and its value, then the
-- destination's; R12 after them; the result at the end. Document 02 (Q-4) adds that no access is made whose value nobody needs.
use Rattle.std.specs.Prelude.{ℕ, zero, suc, ◌+◌, ◌*◌, ◌/◌, ◌%◌, Bool, true, false, leb, ◌==◌, nat_le, if◌then◌else◌}
use Rattle.bits.specs.Bits.{one_if, bit, put}
use Rattle.bits.specs.Logic.{both, either, exclusive, without, inverted, swapped}
use Rattle.memory.specs.declared.Width.{Width}
use Rattle.memory.specs.declared.Width.TheVariants.{Byte, Word}
use Rattle.psi.specs.declared.CruBit.{CruBit}
use Rattle.psi.specs.Cru.{first_bit, beyond, displaced}
use Rattle.isa.specs.declared.Operand.{Operand}
use Rattle.isa.specs.declared.DualOp.{DualOp}
use Rattle.isa.specs.declared.DualOp.TheVariants.{Szc, S, C, A, Mov, Soc}
use Rattle.isa.specs.declared.RegisterOp.{RegisterOp}
use Rattle.isa.specs.declared.RegisterOp.TheVariants.{Coc, Czc, Xor, Mpy, Div}
use Rattle.isa.specs.declared.SingleOp.{SingleOp}
use Rattle.isa.specs.declared.SingleOp.TheVariants.{B, Clr, Neg, Inv, Inc, Inct, Dec, Dect, Bl, Swpb, Seto, Abs}
use Rattle.isa.specs.declared.TransferOp.{TransferOp}
use Rattle.isa.specs.declared.TransferOp.TheVariants.{Ldcr, Stcr}
use Rattle.isa.specs.declared.BitOp.{BitOp}
use Rattle.isa.specs.declared.BitOp.TheVariants.{Sbo, Sbz, Tb}
use Rattle.isa.specs.declared.JumpOp.{JumpOp}
use Rattle.isa.specs.declared.ShiftOp.{ShiftOp}
use Rattle.isa.specs.declared.ImmediateOp.{ImmediateOp}
use Rattle.isa.specs.declared.ImmediateOp.TheVariants.{Li, Ai, Andi, Ori, Ci}
use Rattle.isa.specs.declared.ControlOp.{ControlOp}
use Rattle.isa.specs.declared.ControlOp.TheVariants.{Idle, Rset, Rtwp, Ckon, Ckof, Lrex}
use Rattle.isa.specs.Isa.{target}
use Rattle.alu.specs.declared.Outcome.{Outcome}
use Rattle.alu.specs.declared.Pair.{Pair}
use Rattle.alu.specs.Status.{equal, overflow, extended, compared, parity, judged, jumps}
use Rattle.alu.specs.Sums.{sum, difference, negated, absolute}
use Rattle.alu.specs.Shifts.{amount, shifted}
use Rattle.alu.specs.Products.{product, divided}
use Rattle.machine.specs.State.{idle, no_sample}
use Rattle.machine.specs.Micro.{Micro, done, to_wp, to_pc, to_st, to_flags, ◌>>=◌, ◌>>◌, registers, set, fetched, load, store, sensed, driven}
use Rattle.machine.specs.Operands.{register_at, register, set_register, operand}

-- every form: ST becomes what f makes of it
unfoldable pub set_status : (ℕ → ℕ) → Micro (Unit {0})
set_status f = registers >>= λ r. set to_st (f r.st)

-- every form with a result: ST, and last the result at its address, are what f makes of ST
unfoldable pub conclude : Width → ℕ → (ℕ → Outcome) → Micro (Unit {0})
conclude w a f = registers >>= λ r. (set to_st (f r.st).st >> store w a (f r.st).value)

-- L>, A> and EQ compare the result with 0; byte forms set OP on odd parity; the result is stored last.
unfoldable pub conclude_judged : Width → ℕ → ℕ → Micro (Unit {0})
conclude_judged w a x = conclude w a (λ st. record { value = x; st = judged w x st })

-- SZC, S, C, A, MOV, SOC and SZCB, SB, CB, AB, MOVB, SOCB: what each does with the source's value and the destination's
-- address. C and CB compare the source with the destination, CB judges the source's parity. MOV does not read its destination.
unfoldable pub dual_effect : DualOp → Width → ℕ → ℕ → Micro (Unit {0})
dual_effect Szc w s a = load w a >>= λ d. conclude_judged w a (without d s)
dual_effect S w s a = load w a >>= λ d. conclude w a (difference w d s)
dual_effect C w s a = load w a >>= λ d. set_status (λ st. parity w s (compared w s d st))
dual_effect A w s a = load w a >>= λ d. conclude w a (sum w d s)
dual_effect Mov w s a = conclude_judged w a s
dual_effect Soc w s a = load w a >>= λ d. conclude_judged w a (either d s)

-- the dual forms: source before destination
unfoldable pub dual : DualOp → Width → Operand → Operand → Micro (Unit {0})
dual op w s d = do
  from ← operand w s
  x ← load w from
  to ← operand w d
  dual_effect op w x to

-- COC, CZC and TB: EQ alone
unfoldable pub set_equal : Bool → Micro (Unit {0})
set_equal b = set_status (put equal b)

-- MPY and DIV: a pair is the register and the word after it, with register 15 too.
unfoldable pub set_pair : ℕ → Pair → Micro (Unit {0})
set_pair n p = set_register n p.high >> set_register (n + 1) p.low

-- DIV of a pair by x. A quotient that would not fit a word sets OV and ends it there, so the low word is not even read.
unfoldable pub divide : ℕ → ℕ → Micro (Unit {0})
divide n x = do
  high ← register n
  (if leb x high then set_status (put overflow true)
      else (do
        low ← register (n + 1)
        set_status (put overflow false)
        set_pair n (divided x (record { high = high; low = low }))))

-- COC, CZC, XOR, MPY, DIV: what each does with its register and the source's value
unfoldable pub register_effect : RegisterOp → ℕ → ℕ → Micro (Unit {0})
register_effect Coc n x = register n >>= λ d. set_equal (without x d == 0)
register_effect Czc n x = register n >>= λ d. set_equal (both x d == 0)
register_effect Xor n x = do
  d ← register n
  r ← registers
  conclude_judged Word (register_at r.wp n) (exclusive d x)
register_effect Mpy n x = register n >>= λ d. set_pair n (product d x)
register_effect Div n x = divide n x

-- the forms with a general source and a register
unfoldable pub with_register : RegisterOp → Operand → ℕ → Micro (Unit {0})
with_register op s n = do
  from ← operand Word s
  x ← load Word from
  register_effect op n x

-- LDCR, STCR, SBO, SBZ, TB: the CRU bit that R12 points at
unfoldable pub cru_base : Micro CruBit
cru_base = register 12 >>= λ r. done (first_bit (record { 0 = r }))

-- LDCR counts upwards, lowest bit first: the k lowest bits of x go out from a bit on.
unfoldable pub drive_bits : ℕ → CruBit → ℕ → Micro (Unit {0})
drive_bits zero b x = done tt
drive_bits (suc k) b x = driven b (bit 0 x) >> drive_bits k (beyond b 1) (x / 2)

-- STCR counts upwards, lowest bit first: the number that k bits from a bit on are.
unfoldable pub sense_bits : ℕ → CruBit → Micro ℕ
sense_bits zero b = done 0
sense_bits (suc k) b = do
  x ← sensed b
  rest ← sense_bits k (beyond b 1)
  done (one_if x + 2 * rest)

-- LDCR and STCR of 1 to 8 bits have a byte operand.
unfoldable pub transfer_width : ℕ → Width
transfer_width k = if nat_le k 8 then Byte else Word

-- LDCR of k bits: the status is that of the operand, however many bits go out.
unfoldable pub load_cru : ℕ → Operand → Micro (Unit {0})
load_cru k o = do
  from ← operand (transfer_width k) o
  x ← load (transfer_width k) from
  b ← cru_base
  set_status (judged (transfer_width k) x)
  drive_bits k b x

-- STCR of k bits: the operand becomes the number that they are, so its bits above them are 0.
unfoldable pub store_cru : ℕ → Operand → Micro (Unit {0})
store_cru k o = do
  to ← operand (transfer_width k) o
  b ← cru_base
  x ← sense_bits k b
  conclude_judged (transfer_width k) to x

-- LDCR and STCR, with the count as coded
unfoldable pub transfer : TransferOp → Operand → ℕ → Micro (Unit {0})
transfer Ldcr o n = load_cru (amount n) o
transfer Stcr o n = store_cru (amount n) o

-- SBO writes 1, SBZ 0, TB makes EQ what it reads
unfoldable pub bit_effect : BitOp → CruBit → Micro (Unit {0})
bit_effect Sbo b = driven b true
bit_effect Sbz b = driven b false
bit_effect Tb b = sensed b >>= set_equal

-- SBO, SBZ and TB: a bit near the one that R12 points at
unfoldable pub access_bit : BitOp → ℕ → Micro (Unit {0})
access_bit op d = cru_base >>= λ b. bit_effect op (displaced b d)

-- JMP, JLT, JLE, JEQ, JHE, JGT, JNE, JNC, JOC, JNO, JL, JH, JOP
unfoldable pub jump : JumpOp → ℕ → Micro (Unit {0})
jump op d = registers >>= λ r.
    if jumps op r.st then set to_pc (target r.pc d) else done tt

-- a shift's count: R0 stands in for a coded 0 (`Shifts.amount`, which `shifted` takes, reads four bits of it)
unfoldable pub shift_count : ℕ → Micro ℕ
shift_count c = if c == 0 then register 0 else done c

-- SRA, SRL, SLA, SRC
unfoldable pub shift : ShiftOp → ℕ → ℕ → Micro (Unit {0})
shift op n c = do
  x ← register n
  k ← shift_count c
  r ← registers
  conclude Word (register_at r.wp n) (shifted op x k)

-- ABS stores only where the operand is negative.
unfoldable pub store_absolute : ℕ → ℕ → Micro (Unit {0})
store_absolute a x = if bit 15 x then store Word a (absolute x 0).value else done tt

-- B, CLR, NEG, INV, INC, INCT, DEC, DECT, BL, SWPB, SETO, ABS: what each does at its operand's address. BL puts the PC after
-- itself in R11.
unfoldable pub single_effect : SingleOp → ℕ → Micro (Unit {0})
single_effect B a = set to_pc a
single_effect Clr a = store Word a 0
single_effect Neg a = load Word a >>= λ x. conclude Word a (negated x)
single_effect Inv a = load Word a >>= λ x. conclude_judged Word a (inverted x)
single_effect Inc a = load Word a >>= λ x. conclude Word a (sum Word x 1)
single_effect Inct a = load Word a >>= λ x. conclude Word a (sum Word x 2)
single_effect Dec a = load Word a >>= λ x. conclude Word a (difference Word x 1)
single_effect Dect a = load Word a >>= λ x. conclude Word a (difference Word x 2)
single_effect Bl a = registers >>= λ r. (set to_pc a >> set_register 11 r.pc)
single_effect Swpb a = load Word a >>= λ x. store Word a (swapped x)
single_effect Seto a = store Word a 0xFFFF
single_effect Abs a = load Word a >>= λ x. (set_status (λ st. (absolute x st).st) >> store_absolute a x)

-- the single-operand forms but BLWP and X
unfoldable pub single : SingleOp → Operand → Micro (Unit {0})
single op o = operand Word o >>= single_effect op

-- LI, AI, ANDI, ORI, CI: what each does with the register's address and old value and the further word. CI compares the
-- register with the word.
unfoldable pub immediate_effect : ImmediateOp → ℕ → ℕ → ℕ → Micro (Unit {0})
immediate_effect Li a d x = conclude_judged Word a x
immediate_effect Ai a d x = conclude Word a (sum Word d x)
immediate_effect Andi a d x = conclude_judged Word a (both d x)
immediate_effect Ori a d x = conclude_judged Word a (either d x)
immediate_effect Ci a d x = set_status (compared Word d x)

-- LI, AI, ANDI, ORI, CI: the register's old value; LI does not read it.
unfoldable pub immediate_register : ImmediateOp → ℕ → Micro ℕ
immediate_register Li n = done 0
immediate_register Ai n = register n
immediate_register Andi n = register n
immediate_register Ori n = register n
immediate_register Ci n = register n

-- the immediate forms
unfoldable pub immediate : ImmediateOp → ℕ → Micro (Unit {0})
immediate op n = do
  d ← immediate_register op n
  x ← fetched
  r ← registers
  immediate_effect op (register_at r.wp n) d x

-- ST with another interrupt mask: LIMI, RSET and the entries
abbrev pub masked : ℕ → ℕ → ℕ
masked k st = st / 16 * 16 + k % 16

-- LIMI
unfoldable pub load_mask : Micro (Unit {0})
load_mask = fetched >>= λ x. set_status (masked x)

-- LWPI
unfoldable pub load_workspace : Micro (Unit {0})
load_workspace = fetched >>= set to_wp

-- STST
unfoldable pub store_status : ℕ → Micro (Unit {0})
store_status n = registers >>= λ r. set_register n r.st

-- STWP
unfoldable pub store_workspace : ℕ → Micro (Unit {0})
store_workspace n = registers >>= λ r. set_register n r.wp

-- All five entries (reset, LOAD, a level, XOP, BLWP): both vector words are read first, then old WP, PC and ST are stored in the
-- new R13, R14 and R15; no-sample is set.
unfoldable pub switch : ℕ → Micro (Unit {0})
switch vector = do
  wp ← load Word vector
  pc ← load Word ((vector + 2) % 65536)
  r ← registers
  set to_wp wp
  set_register 13 r.wp
  set_register 14 r.pc
  set_register 15 r.st
  set to_pc pc
  set to_flags (put no_sample true r.flags)

-- BLWP: the vector is its operand.
unfoldable pub switch_by_operand : Operand → Micro (Unit {0})
switch_by_operand o = operand Word o >>= switch

-- XOP n: the vector is at 40h + 4n; X is set, and the operand's address is put in the new R11.
unfoldable pub switch_by_number : Operand → ℕ → Micro (Unit {0})
switch_by_number o n = do
  a ← operand Word o
  switch (0x40 + 4 * n)
  set_status (put extended true)
  set_register 11 a

-- RTWP reads R13, R14 and R15, then loads WP, PC and all of ST.
unfoldable pub return : Micro (Unit {0})
return = do
  wp ← register 13
  pc ← register 14
  st ← register 15
  set to_wp wp
  set to_pc pc
  set to_st st

-- the control forms: IDLE, RSET (the mask alone), RTWP; CKON, CKOF and LREX change nothing here
unfoldable pub command : ControlOp → Micro (Unit {0})
command Idle = registers >>= λ r. set to_flags (put idle true r.flags)
command Rset = set_status (masked 0)
command Rtwp = return
command Ckon = done tt
command Ckof = done tt
command Lrex = done tt
