-- What is done after a microprogram is its deed; and the words of LDCR and STCR are the range 3000 to 37FF.
use Rattle.std.specs.Prelude.{if◌then◌else◌}
use Prim.Native.Nat.{ℕ, ◌/◌, ◌%◌}
use mathlib.Core.Path.{◌≡◌, refl}
use mathlib.Core.Bool.{Bool, true, false}
use mathlib.Core.Logic.{◌≢◌}
use native.Mathlib.Omega.{arith}
use lib.Dec.{eqb}
use borrow.Author.Tests.{eqb-false, ne_eqb}
use Rattle.isa.specs.declared.Instruction.TheVariants.{Register, Transfer}
use Rattle.isa.specs.declared.TransferOp.TheVariants.{Ldcr, Stcr}
use Rattle.isa.specs.Isa.{opcode, source, register_operation, with_register}
use Rattle.machine.proofs.Bind.{perform_bind, perform_done}
use Rattle.machine.specs.declared.Deed.{Deed}
use Rattle.machine.specs.State.{Machine}
use Rattle.machine.specs.Micro.{Micro, done, ◌>>◌}
use Rattle.machine.specs.Perform.{perform, performed}

-- a microprogram, and then its deed
pub ends : (v : ℕ) (p : Micro (Unit {0})) (d : Deed) (m n : Machine) → perform v p m ≡ performed tt n → perform v (p >> done d) m ≡ performed d n
ends v p d m n e = rw (perform_bind, e, perform_done)

-- LDCR has the code 3000, STCR the other in that range
pub transfers : (w : ℕ) → opcode 0x800 w ≡ 0x3000 → with_register w ≡ Transfer (if eqb (opcode 0x400 w) 0x3000 then Ldcr else Stcr) (source w) (w / 64 % 16)
unfolding with_register
transfers w h = rw (ne_eqb (opcode 0x400 w) 0x2C00 (omega arith)) (by_test (eqb (opcode 0x400 w) 0x3000) refl)
  where
    by_test : (t : Bool) → eqb (opcode 0x400 w) 0x3000 ≡ t
        → (if eqb (opcode 0x400 w) 0x3000 then Transfer Ldcr (source w) (w / 64 % 16)
        else if eqb (opcode 0x400 w) 0x3400 then Transfer Stcr (source w) (w / 64 % 16)
        else Register (register_operation (opcode 0x400 w)) (source w) (w / 64 % 16))
        ≡ Transfer (if eqb (opcode 0x400 w) 0x3000 then Ldcr else Stcr) (source w) (w / 64 % 16)
    by_test true e = rw e
    by_test false e = rw (e, let stcr : opcode 0x400 w ≡ 0x3400 = omega (arith, eqb-false (opcode 0x400 w) 0x3000 e) in stcr)

-- outside that range, and XOP apart, a register goes with the operand
pub registers : (w : ℕ) → opcode 0x400 w ≢ 0x2C00 → opcode 0x800 w ≢ 0x3000 → with_register w ≡ Register (register_operation (opcode 0x400 w)) (source w) (w / 64 % 16)
unfolding with_register
registers w n h =
    rw (ne_eqb (opcode 0x400 w) 0x2C00 n, ne_eqb (opcode 0x400 w) 0x3000 (omega arith), ne_eqb (opcode 0x400 w) 0x3400 (omega arith))
