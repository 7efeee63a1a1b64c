-- The accesses are read off the definitions; those of a transfer's bits by induction on their number.
use Rattle.std.proofs.Common.{◌≡◌, ℕ, zero, suc, ◌/◌, [], ◌∷◌, refl, ap, ◌∙◌, append_assoc, append-nil, arith, ne_eqb}
use Rattle.bits.specs.Bits.{bit}
use Rattle.memory.specs.declared.Width.TheVariants.{Word}
use Rattle.psi.specs.declared.CruBit.{CruBit}
use Rattle.psi.specs.Cru.{beyond}
use Rattle.psi.proofs.Cases.{either_way}
use Rattle.isa.specs.declared.TransferOp.TheVariants.{Ldcr, Stcr}
use Rattle.isa.specs.declared.Instruction.TheVariants.{Dual, Register, Xop, Transfer, Bit, Jump, Shift, Single, Blwp, X, Immediate, Stwp, Stst, Lwpi, Limi, Control, Unassigned}
use Rattle.alu.specs.Status.{jumps}
use Rattle.alu.specs.Shifts.{amount}
use Rattle.machine.specs.State.{Machine, idle}
use Rattle.machine.specs.Micro.{Micro, done, ◌>>=◌, registers, set, fetched, load, store, sensed, driven}
use Rattle.machine.specs.Perform.{perform, accesses, after_fetch, was_sensed, was_driven}
use Rattle.machine.specs.Operands.{register, set_register, indexed, stepped, operand}
use Rattle.machine.specs.Groups as G
use Rattle.machine.specs.Execute.{instruction, again, execute, allowance}
use Rattle.machine.specs.Step.{Kind, proceed}
use Rattle.machine.specs.Needed.{sensed_from, driven_from, XInOrder, by_form, FormsAlone, fetches, further, awake, Proceeding, Needed}
use Rattle.machine.proofs.Bind.{perform_bind, accesses_bind}

-- what is said at the end takes no access
then_done : {A B : Type 0} (v : ℕ) (p : Micro A) (f : A → B) (m : Machine) → accesses v (p >>= λ a. done (f a)) m ≡ accesses v p m
unfolding accesses
then_done v p f m = accesses_bind v p _ m ∙ append-nil _

module _ (v : ℕ) where
  senses : (k : ℕ) (b : CruBit) (m : Machine) → accesses v (G.sense_bits k b) m ≡ sensed_from k b
  unfolding accesses sensed G.sense_bits sensed_from
  senses zero b m = refl
  senses (suc k) b m = ap (was_sensed b ∷◌) (then_done v (G.sense_bits k (beyond b 1)) _ _ ∙ senses k (beyond b 1) _)

  drives : (k : ℕ) (b : CruBit) (x : ℕ) (m : Machine) → accesses v (G.drive_bits k b x) m ≡ driven_from k b x
  unfolding accesses driven G.drive_bits driven_from
  drives zero b x m = refl
  drives (suc k) b x m = ap (was_driven b (bit 0 x) ∷◌) (drives k (beyond b 1) (x / 2) _)

x_in_order : XInOrder
unfolding perform accesses load again execute
x_in_order v k o m =
    accesses_bind v (operand Word o >>= load Word) (execute k) m
    ∙ rw (accesses_bind v (operand Word o) (load Word), perform_bind v (operand Word o) (load Word)) (append_assoc (accesses v (operand Word o) m) _ _)

forms_alone : FormsAlone
unfolding accesses instruction by_form G.transfer
forms_alone v x (Dual op s d w) m = then_done v (G.dual op w s d) _ m
forms_alone v x (Register op s n) m = then_done v (G.with_register op s n) _ m
forms_alone v x (Xop o n) m = then_done v (G.switch_by_number o n) _ m
forms_alone v x (Transfer Ldcr o n) m = then_done v (G.load_cru (amount n) o) _ m
forms_alone v x (Transfer Stcr o n) m = then_done v (G.store_cru (amount n) o) _ m
forms_alone v x (Bit op d) m = then_done v (G.access_bit op d) _ m
forms_alone v x (Jump op d) m = then_done v (G.jump op d) _ m
forms_alone v x (Shift op n c) m = then_done v (G.shift op n c) _ m
forms_alone v x (Single op o) m = then_done v (G.single op o) _ m
forms_alone v x (Blwp o) m = then_done v (G.switch_by_operand o) _ m
forms_alone v x (X o) m = refl
forms_alone v x (Immediate op n) m = then_done v (G.immediate op n) _ m
forms_alone v x (Stwp n) m = then_done v (G.store_workspace n) _ m
forms_alone v x (Stst n) m = then_done v (G.store_status n) _ m
forms_alone v x Lwpi m = then_done v G.load_workspace _ m
forms_alone v x Limi m = then_done v G.load_mask _ m
forms_alone v x (Control op) m = then_done v (G.command op) _ m
forms_alone v x Unassigned m = refl

proceeding : Proceeding
unfolding accesses registers set fetched proceed
proceeding v m h =
    either_way (λ (p : Micro Kind). accesses v p m ≡ fetches m ∷ accesses v (execute allowance (further m)) (after_fetch (awake m))) (bit idle m.state.flags)
    (λ t. cc)
    (λ f. ap (fetches m ∷◌) (then_done v (execute allowance (further m)) _ _))

pub needed : Needed
unfolding accesses registers set fetched load store sensed driven register set_register indexed stepped operand G.set_status G.conclude G.conclude_judged G.set_equal G.set_pair G.divide G.dual_effect G.register_effect G.with_register G.cru_base G.load_cru G.store_cru G.bit_effect G.access_bit G.jump G.shift_count G.shift G.single_effect G.single G.immediate_effect G.immediate_register G.immediate G.load_mask G.load_workspace G.store_status G.store_workspace G.switch G.switch_by_operand G.command again execute proceed
needed =
    record {
      form = forms_alone;
      direct = λ v w n m. refl;
      indirect = λ v w n m. refl;
      symbolic = λ v w m. refl;
      indexed = λ v w n m h. rw (ne_eqb n 0 (omega arith));
      increment = λ v w n m. refl;
      szc = λ v w x a m. refl;
      s = λ v w x a m. refl;
      c = λ v w x a m. refl;
      add = λ v w x a m. refl;
      mov = λ v w x a m. refl;
      soc = λ v w x a m. refl;
      with_register = λ v op s n m. accesses_bind v (operand Word s) _ m;
      coc = λ v n x m. refl;
      czc = λ v n x m. refl;
      xor = λ v n x m. refl;
      mpy = λ v n x m. refl;
      div_overflows = λ v n x m h. rw h;
      div_fits = λ v n x m h. rw h;
      ldcr = λ v k o m. rw (accesses_bind v (operand (G.transfer_width k) o), drives v k);
      stcr = λ v k o m. rw (accesses_bind v (operand (G.transfer_width k) o), accesses_bind v (G.sense_bits k _), senses v k);
      sbo = λ v d m. refl;
      sbz = λ v d m. refl;
      tb = λ v d m. refl;
      jump = λ v op d m. either_way (λ (p : Micro (Unit {0})). accesses v p m ≡ []) (jumps op m.state.st) (λ t. refl) (λ f. refl);
      shift = λ v op n c m h. rw (ne_eqb c 0 (omega arith));
      shift_by_r0 = λ v op n m. refl;
      single = λ v op o m. accesses_bind v (operand Word o) (G.single_effect op) m;
      b = λ v a m. refl;
      clr = λ v a m. refl;
      neg = λ v a m. refl;
      inv = λ v a m. refl;
      inc = λ v a m. refl;
      inct = λ v a m. refl;
      dec = λ v a m. refl;
      dect = λ v a m. refl;
      bl = λ v a m. refl;
      swpb = λ v a m. refl;
      seto = λ v a m. refl;
      blwp = λ v o m. accesses_bind v (operand Word o) G.switch m;
      x = x_in_order;
      ninth_x = λ v o m. refl;
      li = λ v n m. refl;
      ai = λ v n m. refl;
      andi = λ v n m. refl;
      ori = λ v n m. refl;
      ci = λ v n m. refl;
      stwp = λ v n m. refl;
      stst = λ v n m. refl;
      lwpi = λ v m. refl;
      limi = λ v m. refl;
      idle = λ v m. refl;
      rset = λ v m. refl;
      ckon = λ v m. refl;
      ckof = λ v m. refl;
      lrex = λ v m. refl;
      executing_step = proceeding;
      idle_step = λ v m h. either_way (λ (p : Micro Kind). accesses v p m ≡ []) (bit idle m.state.flags) (λ t. refl) (λ f. cc);
    }
