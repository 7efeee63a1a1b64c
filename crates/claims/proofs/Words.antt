-- A microprogram followed by another fetches the words of the first and then those of the second; only `fetched` fetches, and
-- it stands in the indexed operand and in the forms with an immediate word.
use Rattle.std.specs.Prelude.{if◌then◌else◌}
use Prim.Native.Nat.{ℕ, zero, suc, ◌+◌}
use mathlib.Core.Path.{◌≡◌, refl, ap, ◌∙◌, fun_ext}
use mathlib.Core.Bool.{Bool, true, false}
use native.Mathlib.Omega.{arith}
use native.Mathlib.Nat.{zero-add, add-zero}
use borrow.Author.Tests.{eqb-true}
use lib.Dec.{eqb, leb}
use Rattle.bits.specs.Bits.{bit}
use Rattle.memory.specs.declared.Width.{Width}
use Rattle.memory.specs.declared.Width.TheVariants.{Word}
use Rattle.psi.specs.declared.CruBit.{CruBit}
use Rattle.psi.proofs.Cases.{either_way}
use Rattle.isa.specs.declared.Operand.{Operand}
use Rattle.isa.specs.declared.DualOp.{DualOp}
use Rattle.isa.specs.declared.DualOp.TheVariants.{Szc, S, C, A, Mov, Soc}
use Rattle.isa.specs.declared.RegisterOp.{RegisterOp}
use Rattle.isa.specs.declared.RegisterOp.TheVariants.{Coc, Czc, Xor, Mpy, Div}
use Rattle.isa.specs.declared.SingleOp.{SingleOp}
use Rattle.isa.specs.declared.SingleOp.TheVariants.{B, Clr, Neg, Inv, Inc, Inct, Dec, Dect, Bl, Swpb, Seto, Abs}
use Rattle.isa.specs.declared.TransferOp.{TransferOp}
use Rattle.isa.specs.declared.TransferOp.TheVariants.{Ldcr, Stcr}
use Rattle.isa.specs.declared.BitOp.{BitOp}
use Rattle.isa.specs.declared.BitOp.TheVariants.{Sbo, Sbz, Tb}
use Rattle.isa.specs.declared.JumpOp.{JumpOp}
use Rattle.isa.specs.declared.ShiftOp.{ShiftOp}
use Rattle.isa.specs.declared.ImmediateOp.{ImmediateOp}
use Rattle.isa.specs.declared.ImmediateOp.TheVariants.{Li, Ai, Andi, Ori, Ci}
use Rattle.isa.specs.declared.ControlOp.{ControlOp}
use Rattle.isa.specs.declared.ControlOp.TheVariants.{Idle, Rset, Rtwp, Ckon, Ckof, Lrex}
use Rattle.isa.specs.declared.Instruction.{Instruction}
use Rattle.isa.specs.declared.Instruction.TheVariants.{Dual, Register, Xop, Transfer, Bit, Jump, Shift, Single, Blwp, X, Immediate, Stwp, Stst, Lwpi, Limi, Control, Unassigned}
use Rattle.isa.specs.Isa.{decoded, operand_words, further_words}
use Rattle.alu.specs.declared.Outcome.{Outcome}
use Rattle.alu.specs.declared.Pair.{Pair}
use Rattle.alu.specs.Status.{jumps}
use Rattle.machine.specs.State.{Machine}
use Rattle.machine.specs.Micro.{Micro, Target, done, ◌>>=◌, ◌>>◌, registers, set, fetched, load, store, sensed, driven}
use Rattle.machine.specs.Perform.{perform, accesses, fetches}
use Rattle.machine.specs.Operands.{register, set_register, indexed, stepped, operand}
use Rattle.machine.specs.Groups as G
use Rattle.machine.specs.Execute.{instruction, again, execute}
use Rattle.machine.proofs.Bind.{accesses_bind, fetches_append}
use Rattle.claims.specs.Words.{words, counted, AnnouncedWordsAreFetched, executed, ExecutedWordsAreFetched}

pub words_bind :
    {A B : Type 0} (v : ℕ) (p : Micro A) (f : A → Micro B) (m : Machine)
    → words v (p >>= f) m ≡ words v p m + words v (f (perform v p m).value) (perform v p m).machine
words_bind v p f m = ap fetches (accesses_bind v p f m) ∙ fetches_append _ _

-- a microprogram that always fetches n words
abbrev Takes : {A : Type 0} → ℕ → ℕ → Micro A → Type 0
Takes v n p = (m : Machine) → words v p m ≡ n

module _ (v : ℕ) where
  -- each access by itself
  of_done : {A : Type 0} (a : A) → Takes v 0 (done a)
  unfolding accesses fetches
  of_done a m = refl

  of_registers : Takes v 0 registers
  unfolding accesses fetches registers
  of_registers m = refl

  of_set : (t : Target) (x : ℕ) → Takes v 0 (set t x)
  unfolding accesses fetches set
  of_set t x m = refl

  pub of_fetched : Takes v 1 fetched
  unfolding accesses fetches fetched
  of_fetched m = refl

  pub of_load : (w : Width) (a : ℕ) → Takes v 0 (load w a)
  unfolding accesses fetches load
  of_load w a m = refl

  of_store : (w : Width) (a x : ℕ) → Takes v 0 (store w a x)
  unfolding accesses fetches store
  of_store w a x m = refl

  of_sensed : (b : CruBit) → Takes v 0 (sensed b)
  unfolding accesses fetches sensed
  of_sensed b m = refl

  of_driven : (b : CruBit) (x : Bool) → Takes v 0 (driven b x)
  unfolding accesses fetches driven
  of_driven b x m = refl

  ruleset single = (words_bind, of_done, of_registers, of_set, of_fetched, of_load, of_store, of_sensed, of_driven)

  -- registers and operands
  of_register : (n : ℕ) → Takes v 0 (register n)
  unfolding register
  of_register n m = simp single

  of_set_register : (n x : ℕ) → Takes v 0 (set_register n x)
  unfolding set_register
  of_set_register n x m = simp single

  of_index : (b : Bool) (n : ℕ) → Takes v 0 (if b then done 0 else register n)
  of_index b n = either_way (Takes v 0) b (λ _. of_done 0) (λ _. of_register n)

  of_indexed : (n : ℕ) → Takes v 1 (indexed n)
  unfolding indexed
  of_indexed n m = simp (single, of_index)

  of_stepped : (w : Width) (n : ℕ) → Takes v 0 (stepped w n)
  unfolding stepped
  of_stepped w n m = simp (single, of_register, of_set_register)

  of_further : (b : Bool) (w : Width) (n : ℕ) → Takes v (if b then 1 else 0) (if b then indexed n else stepped w n)
  of_further true w n m = of_indexed n m
  of_further false w n m = of_stepped w n m

  pub of_operand : (w : Width) (o : Operand) → Takes v (operand_words o) (operand w o)
  unfolding operand operand_words
  of_operand w o m =
      either_way (λ (p : Micro ℕ). words v p m ≡ operand_words o) (eqb o.mode 0)
      (λ e. rw (eqb-true o.mode 0 e) (simp single))
      (λ e. either_way (λ (p : Micro ℕ). words v p m ≡ operand_words o) (eqb o.mode 1)
      (λ f. rw (eqb-true o.mode 1 f) (of_register _ m))
      (λ f. of_further (eqb o.mode 2) w o.register m))

  ruleset plain = (single, of_register, of_set_register, of_operand)

  -- the groups
  of_set_status : (f : ℕ → ℕ) → Takes v 0 (G.set_status f)
  unfolding G.set_status
  of_set_status f m = simp plain

  of_conclude : (w : Width) (a : ℕ) (f : ℕ → Outcome) → Takes v 0 (G.conclude w a f)
  unfolding G.conclude
  of_conclude w a f m = simp plain

  of_conclude_judged : (w : Width) (a x : ℕ) → Takes v 0 (G.conclude_judged w a x)
  unfolding G.conclude_judged
  of_conclude_judged w a x m = of_conclude w a _ m

  ruleset ends = (plain, of_set_status, of_conclude, of_conclude_judged)

  of_dual_effect : (op : DualOp) (w : Width) (s a : ℕ) → Takes v 0 (G.dual_effect op w s a)
  unfolding G.dual_effect
  of_dual_effect Szc w s a m = simp ends
  of_dual_effect S w s a m = simp ends
  of_dual_effect C w s a m = simp ends
  of_dual_effect A w s a m = simp ends
  of_dual_effect Mov w s a m = simp ends
  of_dual_effect Soc w s a m = simp ends

  of_dual : (op : DualOp) (w : Width) (s d : Operand) → Takes v (operand_words s + operand_words d) (G.dual op w s d)
  unfolding G.dual
  of_dual op w s d m = simp (ends, of_dual_effect) (omega arith)

  of_set_equal : (b : Bool) → Takes v 0 (G.set_equal b)
  unfolding G.set_equal
  of_set_equal b m = of_set_status _ m

  of_set_pair : (n : ℕ) (p : Pair) → Takes v 0 (G.set_pair n p)
  unfolding G.set_pair
  of_set_pair n p m = simp ends

  of_divide : (n x : ℕ) → Takes v 0 (G.divide n x)
  unfolding G.divide
  of_divide n x m =
      rw (words_bind, of_register, zero-add)
      (either_way (Takes v 0) (leb x _) (λ _. of_set_status _) (λ _ m. simp (ends, of_set_pair)) _)

  of_register_effect : (op : RegisterOp) (n x : ℕ) → Takes v 0 (G.register_effect op n x)
  unfolding G.register_effect
  of_register_effect Coc n x m = simp (ends, of_set_equal)
  of_register_effect Czc n x m = simp (ends, of_set_equal)
  of_register_effect Xor n x m = simp ends
  of_register_effect Mpy n x m = simp (ends, of_set_pair)
  of_register_effect Div n x m = of_divide n x m

  of_with_register : (op : RegisterOp) (s : Operand) (n : ℕ) → Takes v (operand_words s) (G.with_register op s n)
  unfolding G.with_register
  of_with_register op s n m = simp (ends, of_register_effect) (omega arith)

  of_cru_base : Takes v 0 G.cru_base
  unfolding G.cru_base
  of_cru_base m = simp ends

  of_drive_bits : (k : ℕ) (b : CruBit) (x : ℕ) → Takes v 0 (G.drive_bits k b x)
  unfolding G.drive_bits
  of_drive_bits zero b x m = of_done tt m
  of_drive_bits (suc k) b x m = rw (words_bind, of_driven, of_drive_bits k _ _)

  of_sense_bits : (k : ℕ) (b : CruBit) → Takes v 0 (G.sense_bits k b)
  unfolding G.sense_bits
  of_sense_bits zero b m = of_done 0 m
  of_sense_bits (suc k) b m = rw (words_bind, of_sensed, words_bind, of_sense_bits k _, of_done)

  of_load_cru : (k : ℕ) (o : Operand) → Takes v (operand_words o) (G.load_cru k o)
  unfolding G.load_cru
  of_load_cru k o m = simp (ends, of_cru_base, of_drive_bits) (omega arith)

  of_store_cru : (k : ℕ) (o : Operand) → Takes v (operand_words o) (G.store_cru k o)
  unfolding G.store_cru
  of_store_cru k o m = simp (ends, of_cru_base, of_sense_bits) (omega arith)

  of_transfer : (op : TransferOp) (o : Operand) (n : ℕ) → Takes v (operand_words o) (G.transfer op o n)
  unfolding G.transfer
  of_transfer Ldcr o n m = of_load_cru _ o m
  of_transfer Stcr o n m = of_store_cru _ o m

  of_bit_effect : (op : BitOp) (b : CruBit) → Takes v 0 (G.bit_effect op b)
  unfolding G.bit_effect
  of_bit_effect Sbo b m = of_driven b true m
  of_bit_effect Sbz b m = of_driven b false m
  of_bit_effect Tb b m = simp (ends, of_set_equal)

  of_access_bit : (op : BitOp) (d : ℕ) → Takes v 0 (G.access_bit op d)
  unfolding G.access_bit
  of_access_bit op d m = simp (ends, of_cru_base, of_bit_effect)

  of_jump : (op : JumpOp) (d : ℕ) → Takes v 0 (G.jump op d)
  unfolding G.jump
  of_jump op d m =
      rw (words_bind, of_registers, zero-add)
      (either_way (Takes v 0) (jumps op _) (λ _. of_set _ _) (λ _. of_done tt) _)

  of_shift_count : (c : ℕ) → Takes v 0 (G.shift_count c)
  unfolding G.shift_count
  of_shift_count c = either_way (Takes v 0) (eqb c 0) (λ _. of_register 0) (λ _. of_done c)

  of_shift : (op : ShiftOp) (n c : ℕ) → Takes v 0 (G.shift op n c)
  unfolding G.shift
  of_shift op n c m = simp (ends, of_shift_count)

  of_store_absolute : (a x : ℕ) → Takes v 0 (G.store_absolute a x)
  unfolding G.store_absolute
  of_store_absolute a x = either_way (Takes v 0) (bit 15 x) (λ _. of_store Word a _) (λ _. of_done tt)

  of_single_effect : (op : SingleOp) (a : ℕ) → Takes v 0 (G.single_effect op a)
  unfolding G.single_effect
  of_single_effect B a m = simp ends
  of_single_effect Clr a m = simp ends
  of_single_effect Neg a m = simp ends
  of_single_effect Inv a m = simp ends
  of_single_effect Inc a m = simp ends
  of_single_effect Inct a m = simp ends
  of_single_effect Dec a m = simp ends
  of_single_effect Dect a m = simp ends
  of_single_effect Bl a m = simp ends
  of_single_effect Swpb a m = simp ends
  of_single_effect Seto a m = simp ends
  of_single_effect Abs a m = simp (ends, of_store_absolute)

  of_single : (op : SingleOp) (o : Operand) → Takes v (operand_words o) (G.single op o)
  unfolding G.single
  of_single op o m = simp (ends, of_single_effect) (omega arith)

  of_immediate_effect : (op : ImmediateOp) (a d x : ℕ) → Takes v 0 (G.immediate_effect op a d x)
  unfolding G.immediate_effect
  of_immediate_effect Li a d x m = simp ends
  of_immediate_effect Ai a d x m = simp ends
  of_immediate_effect Andi a d x m = simp ends
  of_immediate_effect Ori a d x m = simp ends
  of_immediate_effect Ci a d x m = simp ends

  of_immediate_register : (op : ImmediateOp) (n : ℕ) → Takes v 0 (G.immediate_register op n)
  unfolding G.immediate_register
  of_immediate_register Li n = of_done 0
  of_immediate_register Ai n = of_register n
  of_immediate_register Andi n = of_register n
  of_immediate_register Ori n = of_register n
  of_immediate_register Ci n = of_register n

  of_immediate : (op : ImmediateOp) (n : ℕ) → Takes v 1 (G.immediate op n)
  unfolding G.immediate
  of_immediate op n m = simp (ends, of_immediate_register, of_immediate_effect)

  of_load_mask : Takes v 1 G.load_mask
  unfolding G.load_mask
  of_load_mask m = simp ends

  of_load_workspace : Takes v 1 G.load_workspace
  unfolding G.load_workspace
  of_load_workspace m = simp ends

  of_store_status : (n : ℕ) → Takes v 0 (G.store_status n)
  unfolding G.store_status
  of_store_status n m = simp ends

  of_store_workspace : (n : ℕ) → Takes v 0 (G.store_workspace n)
  unfolding G.store_workspace
  of_store_workspace n m = simp ends

  of_switch : (vector : ℕ) → Takes v 0 (G.switch vector)
  unfolding G.switch
  of_switch vector m = simp ends

  of_switch_by_operand : (o : Operand) → Takes v (operand_words o) (G.switch_by_operand o)
  unfolding G.switch_by_operand
  of_switch_by_operand o m = simp (ends, of_switch) (omega arith)

  of_switch_by_number : (o : Operand) (n : ℕ) → Takes v (operand_words o) (G.switch_by_number o n)
  unfolding G.switch_by_number
  of_switch_by_number o n m = simp (ends, of_switch) (omega arith)

  of_return : Takes v 0 G.return
  unfolding G.return
  of_return m = simp ends

  of_command : (op : ControlOp) → Takes v 0 (G.command op)
  unfolding G.command
  of_command Idle m = simp ends
  of_command Rset m = simp ends
  of_command Rtwp m = of_return m
  of_command Ckon m = of_done tt m
  of_command Ckof m = of_done tt m
  of_command Lrex m = of_done tt m

-- an instruction's microprogram, and then what it says it did
then_done : {A B : Type 0} (v : ℕ) (p : Micro A) (b : B) (m : Machine) → words v (p >> done b) m ≡ words v p m
then_done v p b m = rw (words_bind, of_done, add-zero)

pub announced_words_are_fetched : AnnouncedWordsAreFetched
unfolding instruction further_words counted
announced_words_are_fetched v again (Dual op s d w) m = rw (then_done, of_dual)
announced_words_are_fetched v again (Register op s n) m = rw (then_done, of_with_register)
announced_words_are_fetched v again (Xop s n) m = rw (then_done, of_switch_by_number)
announced_words_are_fetched v again (Transfer op s n) m = rw (then_done, of_transfer)
announced_words_are_fetched v again (Bit op d) m = rw (then_done, of_access_bit)
announced_words_are_fetched v again (Jump op d) m = rw (then_done, of_jump)
announced_words_are_fetched v again (Shift op n c) m = rw (then_done, of_shift)
announced_words_are_fetched v again (Single op s) m = rw (then_done, of_single)
announced_words_are_fetched v again (Blwp s) m = rw (then_done, of_switch_by_operand)
announced_words_are_fetched v again (X s) m = refl
announced_words_are_fetched v again (Immediate op n) m = rw (then_done, of_immediate)
announced_words_are_fetched v again (Stwp n) m = rw (then_done, of_store_workspace)
announced_words_are_fetched v again (Stst n) m = rw (then_done, of_store_status)
announced_words_are_fetched v again Lwpi m = rw (then_done, of_load_workspace)
announced_words_are_fetched v again Limi m = rw (then_done, of_load_mask)
announced_words_are_fetched v again (Control op) m = rw (then_done, of_command)
announced_words_are_fetched v again Unassigned m = of_done v _ m

counted_same : (f g : Operand → ℕ) (i : Instruction) → ((o : Operand) → f o ≡ g o) → counted f i ≡ counted g i
counted_same f g i e = ap (λ h. counted h i) (fun_ext e)

pub executed_words_are_fetched : ExecutedWordsAreFetched
unfolding execute again executed further_words
executed_words_are_fetched v zero w m =
    announced_words_are_fetched v _ (decoded w) m ∙ counted_same _ _ (decoded w) (λ o. of_done v _ m)
executed_words_are_fetched v (suc k) w m =
    announced_words_are_fetched v _ (decoded w) m
    ∙ counted_same _ _ (decoded w)
    (λ o. rw (words_bind, words_bind, of_operand, of_load, add-zero) (ap (operand_words o +◌) (executed_words_are_fetched v k _ _)))
