-- A word executed: its instruction's microprogram, and X.
use Rattle.std.specs.Prelude.{ℕ, zero, suc}
use Rattle.memory.specs.declared.Width.TheVariants.{Word}
use Rattle.isa.specs.declared.Operand.{Operand}
use Rattle.isa.specs.declared.ControlOp.{ControlOp}
use Rattle.isa.specs.declared.ControlOp.TheVariants.{Idle, Rset, Rtwp, Ckon, Ckof, Lrex}
use Rattle.isa.specs.declared.Instruction.{Instruction}
use Rattle.isa.specs.declared.Instruction.TheVariants.{Dual, Register, Xop, Transfer, Bit, Jump, Shift, Single, Blwp, X, Immediate, Stwp, Stst, Lwpi, Limi, Control, Unassigned}
use Rattle.isa.specs.Isa.{decoded}
use Rattle.machine.specs.declared.Deed.{Deed}
use Rattle.machine.specs.declared.Deed.TheVariants as deed
use Rattle.machine.specs.Micro.{Micro, done, ◌>>=◌, ◌>>◌, load}
use Rattle.machine.specs.Operands.{operand}
use Rattle.machine.specs.Groups as G

-- RTWP returns (the book goes by it); the other control forms are ordinary.
abbrev pub command_deed : ControlOp → Deed
command_deed Idle = deed.Ordinary
command_deed Rset = deed.Ordinary
command_deed Rtwp = deed.Returned
command_deed Ckon = deed.Ordinary
command_deed Ckof = deed.Ordinary
command_deed Lrex = deed.Ordinary

-- an instruction, where `again` is what X does with its operand
unfoldable pub instruction : (Operand → Micro Deed) → Instruction → Micro Deed
instruction again (Dual op s d w) = G.dual op w s d >> done deed.Ordinary
instruction again (Register op s n) = G.with_register op s n >> done deed.Ordinary
instruction again (Xop s n) = G.switch_by_number s n >> done deed.Switched
instruction again (Transfer op o n) = G.transfer op o n >> done deed.Ordinary
instruction again (Bit op d) = G.access_bit op d >> done deed.Ordinary
instruction again (Jump op d) = G.jump op d >> done deed.Ordinary
instruction again (Shift op n c) = G.shift op n c >> done deed.Ordinary
instruction again (Single op o) = G.single op o >> done deed.Ordinary
instruction again (Blwp o) = G.switch_by_operand o >> done deed.Switched
instruction again (X o) = again o
instruction again (Immediate op n) = G.immediate op n >> done deed.Ordinary
instruction again (Stwp n) = G.store_workspace n >> done deed.Ordinary
instruction again (Stst n) = G.store_status n >> done deed.Ordinary
instruction again Lwpi = G.load_workspace >> done deed.Ordinary
instruction again Limi = G.load_mask >> done deed.Ordinary
instruction again (Control op) = G.command op >> done (command_deed op)
instruction again Unassigned = done deed.Unassigned

-- a word executed, where `again` is what X does with its operand
abbrev pub execute_by : (Operand → Micro Deed) → ℕ → Micro Deed
execute_by again w = instruction again (decoded w)

-- X executes the word at its operand's address and takes further words from after itself. The allowance is how many more X the
-- step may execute; one beyond it is read as an unassigned word, with no operand worked out.
unfoldable pub again : ℕ → Operand → Micro Deed
again zero o = done deed.Unassigned
again (suc k) o = (operand Word o >>= load Word) >>= execute_by (again k)

-- a word executed with an allowance of X
unfoldable pub execute : ℕ → ℕ → Micro Deed
execute k = execute_by (again k)

-- a step may execute eight X
abbrev pub allowance : ℕ
allowance = 8
