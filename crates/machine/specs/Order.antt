-- The order of accesses that document 01 fixes: of dual forms, of entries, of RTWP; and ABS, which stores a negative operand only.
use Rattle.std.specs.Prelude.{◌≡◌, ℕ, ◌+◌, ◌*◌, ◌%◌, List, [], ◌∷◌, ◌++◌, if◌then◌else◌}
use Rattle.bits.specs.Bits.{bit}
use Rattle.memory.specs.declared.Width.{Width}
use Rattle.memory.specs.declared.Width.TheVariants.{Word}
use Rattle.memory.specs.Memory.{loaded}
use Rattle.isa.specs.declared.Operand.{Operand}
use Rattle.isa.specs.declared.DualOp.{DualOp}
use Rattle.isa.specs.declared.SingleOp.TheVariants.{Abs}
use Rattle.alu.specs.Sums.{absolute}
use Rattle.machine.specs.State.{Machine}
use Rattle.machine.specs.Perform.{Performed, perform, even, Access, was_read, was_written, after_read, accesses}
use Rattle.machine.specs.Operands.{register_at, operand}
use Rattle.machine.specs.Groups.{dual, dual_effect, single_effect, switch, switch_by_number, return}

-- Source before destination; for each the address, then the increment stored, then the value read.
abbrev pub DualInOrder : Type 0
DualInOrder =
    (v : ℕ) (op : DualOp) (w : Width) (s d : Operand) (m : Machine)
    → accesses v (dual op w s d) m ≡ accesses v (operand w s) m ++ rest v op w d (perform v (operand w s) m)
  where
    -- from the source's address on
    rest : ℕ → DualOp → Width → Operand → Performed ℕ → List Access
    rest v op w d from =
        was_read w from.value
        ∷ (accesses v (operand w d) (after_read from.value from.machine)
        ++ last v op w (loaded w from.machine.memory from.value) (perform v (operand w d) (after_read from.value from.machine)))
      where
        -- from the destination's address on
        last : ℕ → DualOp → Width → ℕ → Performed ℕ → List Access
        last v op w x to = accesses v (dual_effect op w x to.value) to.machine

-- ABS reads its operand, and stores it only where it is negative.
abbrev pub AbsInOrder : Type 0
AbsInOrder =
    (v a : ℕ) (m : Machine)
    → accesses v (single_effect Abs a) m
    ≡ was_read Word a ∷ (if bit 15 (loaded Word m.memory a) then (was_written Word a (absolute (loaded Word m.memory a) 0).value ∷ []) else [])

-- where register n of the workspace is that a vector leads to
abbrev pub new_register : ℕ → ℕ → Machine → ℕ
new_register n vector m = register_at (even (loaded Word m.memory vector)) n

-- Both vector words are read first, then old WP, PC and ST are stored in the new R13, R14 and R15.
abbrev pub switching : ℕ → Machine → List Access
switching vector m =
    was_read Word vector
    ∷ was_read Word ((vector + 2) % 65536)
    ∷ was_written Word (new_register 13 vector m) m.state.wp
    ∷ was_written Word (new_register 14 vector m) m.state.pc
    ∷ was_written Word (new_register 15 vector m) m.state.st
    ∷ []

abbrev pub SwitchInOrder : Type 0
SwitchInOrder = (v vector : ℕ) (m : Machine) → accesses v (switch vector) m ≡ switching vector m

-- XOP n: the operand's address is worked out, the switch saves ST without X, and the address is put in the new R11.
abbrev pub XopInOrder : Type 0
XopInOrder =
    (v : ℕ) (o : Operand) (n : ℕ) (m : Machine)
    → accesses v (switch_by_number o n) m
    ≡ accesses v (operand Word o) m
    ++ (switching (0x40 + 4 * n) (perform v (operand Word o) m).machine
    ++ (was_written Word (new_register 11 (0x40 + 4 * n) (perform v (operand Word o) m).machine) (perform v (operand Word o) m).value ∷ []))

-- RTWP reads R13, R14 and R15 of the workspace that it leaves, and stores nothing.
abbrev pub ReturnInOrder : Type 0
ReturnInOrder =
    (v : ℕ) (m : Machine)
    → accesses v return m
    ≡ was_read Word (register_at m.state.wp 13)
    ∷ was_read Word (register_at m.state.wp 14)
    ∷ was_read Word (register_at m.state.wp 15)
    ∷ []
