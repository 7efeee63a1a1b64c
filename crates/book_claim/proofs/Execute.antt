-- What an executed word means for the book, by induction on the allowance of X and by cases on the instruction: BLWP and XOP end in a
-- context switch, RTWP loads R13 to R15, and X is steady until it executes a word again.
use Prim.Native.Nat.{ℕ, zero, suc, ◌%◌}
use mathlib.Core.Path.{◌≡◌, refl}
use Rattle.memory.specs.declared.Width.TheVariants.{Word}
use Rattle.memory.specs.Memory.{loaded}
use Rattle.isa.specs.declared.Operand.{Operand}
use Rattle.isa.specs.declared.ControlOp.{ControlOp}
use Rattle.isa.specs.declared.ControlOp.TheVariants.{Idle, Rset, Rtwp, Ckon, Ckof, Lrex}
use Rattle.isa.specs.declared.Instruction.{Instruction}
use Rattle.isa.specs.declared.Instruction.TheVariants.{Dual, Register, Xop, Transfer, Bit, Jump, Shift, Single, Blwp, X, Immediate, Stwp, Stst, Lwpi, Limi, Control, Unassigned}
use Rattle.isa.specs.Isa.{decoded}
use Rattle.machine.specs.declared.Deed.{Deed}
use Rattle.machine.specs.declared.Deed.TheVariants as deed
use Rattle.machine.specs.State.{Machine}
use Rattle.machine.specs.Micro.{Micro, done, ◌>>=◌, ◌>>◌, registers, set, load}
use Rattle.machine.specs.Perform.{perform, accesses, fetches, even}
use Rattle.machine.specs.Operands.{register_at, register, operand}
use Rattle.machine.specs.Groups as G
use Rattle.machine.specs.Execute.{command_deed, instruction, again, execute}
use Rattle.machine.proofs.Loads.{loads_bind, operand_loads, load_loads}
use Rattle.book_claim.proofs.Does.{Judgement, Does, Movable, after_steady, then_done}
use Rattle.book_claim.proofs.Switch.{noted, Standing, Entered, entered_movable, blwp_saves, xop_operand_saves}

-- WP, PC and ST were loaded from R13, R14 and R15 of a workspace
pub record Taken (workspace : ℕ) (n : Machine) : Type 0 where
  pub wp : n.state.wp ≡ even (loaded Word n.memory (register_at workspace 13))
  pub pc : n.state.pc ≡ even (loaded Word n.memory (register_at workspace 14))
  pub st : n.state.st ≡ loaded Word n.memory (register_at workspace 15) % 65536

-- what an instruction of each kind has done
unfoldable pub Meant : Judgement Deed
Meant deed.Ordinary m n words = Unit
Meant deed.Unassigned m n words = Unit
Meant deed.Switched m n words = Standing n (noted m n words)
Meant deed.Returned m n words = Taken m.state.wp n

pub meant_movable : Movable Meant
unfolding Meant
meant_movable deed.Ordinary l m n i j h d = tt
meant_movable deed.Unassigned l m n i j h d = tt
meant_movable deed.Switched l m n i j h d = entered_movable deed.Switched l m n i j h d
meant_movable deed.Returned l m n i j h d = rw (← h.wp) d

-- nothing is claimed of an ordinary instruction
ordinary : (p : Micro (Unit {0})) → Does Meant (p >> done deed.Ordinary)
unfolding Meant
ordinary p = then_done (λ u m n i. Unit) Meant (λ u. deed.Ordinary) (λ u m n i t. tt) p (λ v m h. tt)

unassigned : Does Meant (done deed.Unassigned)
unfolding Meant perform
unassigned v m h = tt

switched : (p : Micro (Unit {0})) → Does Entered p → Does Meant (p >> done deed.Switched)
unfolding Meant
switched p d = then_done Entered Meant (λ u. deed.Switched) (λ u m n i s. s) p d

returned : Does Meant (G.return >> done deed.Returned)
unfolding Meant perform accesses fetches G.return register registers set load
returned v m h = record { wp = refl; pc = refl; st = refl }

commanded : (op : ControlOp) → Does Meant (G.command op >> done (command_deed op))
unfolding G.command
commanded Idle = ordinary (G.command Idle)
commanded Rset = ordinary (G.command Rset)
commanded Rtwp = returned
commanded Ckon = ordinary (G.command Ckon)
commanded Ckof = ordinary (G.command Ckof)
commanded Lrex = ordinary (G.command Lrex)

module _ (again : Operand → Micro Deed) (means : (o : Operand) → Does Meant (again o)) where
  instruction_means : (i : Instruction) → Does Meant (instruction again i)
  unfolding instruction
  instruction_means (Dual op s d w) = ordinary (G.dual op w s d)
  instruction_means (Register op s n) = ordinary (G.with_register op s n)
  instruction_means (Xop s n) = switched (G.switch_by_number s n) (xop_operand_saves s n)
  instruction_means (Transfer op o n) = ordinary (G.transfer op o n)
  instruction_means (Bit op d) = ordinary (G.access_bit op d)
  instruction_means (Jump op d) = ordinary (G.jump op d)
  instruction_means (Shift op n c) = ordinary (G.shift op n c)
  instruction_means (Single op o) = ordinary (G.single op o)
  instruction_means (Blwp o) = switched (G.switch_by_operand o) (blwp_saves o)
  instruction_means (X o) = means o
  instruction_means (Immediate op n) = ordinary (G.immediate op n)
  instruction_means (Stwp n) = ordinary (G.store_workspace n)
  instruction_means (Stst n) = ordinary (G.store_status n)
  instruction_means Lwpi = ordinary G.load_workspace
  instruction_means Limi = ordinary G.load_mask
  instruction_means (Control op) = commanded op
  instruction_means Unassigned = unassigned

-- what X does with its operand, by induction on the allowance
x_means : (k : ℕ) (o : Operand) → Does Meant (again k o)
unfolding again execute
x_means zero o = unassigned
x_means (suc k) o =
    after_steady Meant meant_movable (operand Word o >>= load Word) (execute k)
    (loads_bind _ (operand Word o) (load Word) (operand_loads _ Word o) (load_loads _ Word))
    (λ w. instruction_means (again k) (x_means k) (decoded w))

pub executed : (k w : ℕ) → Does Meant (execute k w)
unfolding execute
executed k w = instruction_means (again k) (x_means k) (decoded w)
