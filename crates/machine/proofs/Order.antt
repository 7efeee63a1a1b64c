-- The accesses of each definition, read off it: those of a dual form and of XOP follow those of the operand before them, and ABS goes
-- by its test.
use Rattle.std.specs.Prelude.{if◌then◌else◌}
use Rattle.std.proofs.Common.{◌≡◌, ℕ, Bool, true, false, [], ◌∷◌, refl, ap}
use Rattle.bits.specs.Bits.{bit}
use Rattle.memory.specs.declared.Width.TheVariants.{Word}
use Rattle.memory.specs.Memory.{loaded}
use Rattle.machine.specs.State.{Machine}
use Rattle.machine.specs.Micro.{done, registers, set, load, store}
use Rattle.machine.specs.Perform.{accesses, was_read, was_written}
use Rattle.machine.specs.Operands.{register, set_register, operand}
use Rattle.machine.specs.Groups.{set_status, dual, store_absolute, single_effect, switch, switch_by_number, return}
use Rattle.machine.specs.Order.{DualInOrder, AbsInOrder, SwitchInOrder, XopInOrder, ReturnInOrder}
use Rattle.machine.proofs.Bind.{accesses_bind}

pub dual_in_order : DualInOrder
unfolding accesses load dual
dual_in_order v op w s d m = rw (accesses_bind v (operand w s), accesses_bind v (operand w d))

stored_or_not :
    (v a x : ℕ) (m : Machine) (b : Bool)
    → accesses v (if b then store Word a x else done tt) m ≡ (if b then (was_written Word a x ∷ []) else [])
unfolding accesses store
stored_or_not v a x m true = refl
stored_or_not v a x m false = refl

pub abs_in_order : AbsInOrder
unfolding accesses registers set load set_status store_absolute single_effect
abs_in_order v a m = ap (was_read Word a ∷◌) (stored_or_not v a _ _ (bit 15 (loaded Word m.memory a)))

pub switch_in_order : SwitchInOrder
unfolding accesses registers set load store set_register switch
switch_in_order v vector m = refl

pub xop_in_order : XopInOrder
unfolding accesses registers set load store set_register set_status switch switch_by_number
xop_in_order v o n m = accesses_bind v (operand Word o) _ m

pub return_in_order : ReturnInOrder
unfolding accesses registers set load register return
return_in_order v m = refl
