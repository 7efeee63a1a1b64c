-- A word is executed with both flags cleared; then the context switch sets only no-sample, IDLE only idle, and nothing else loads
-- the flags, at once or after X's operands. An entry sets no-sample and clears idle. So flags of at most 2 stay so.
use Rattle.std.proofs.Common.{◌≡◌, ℕ, zero, suc, ◌/◌, ◌%◌, ◌≤◌, false, refl, ◌∙◌, arith}
use borrow.Author.Tests.{eqb-false}
use Rattle.bits.specs.Bits.{bit, put}
use Rattle.memory.specs.declared.Width.TheVariants.{Word}
use Rattle.psi.specs.Pins.{parted}
use Rattle.psi.proofs.Cases.{either_way}
use Rattle.psi.proofs.Kept.{kept_formed}
use Rattle.isa.specs.declared.Operand.{Operand}
use Rattle.isa.specs.declared.ControlOp.{ControlOp}
use Rattle.isa.specs.declared.ControlOp.TheVariants.{Idle, Rset, Rtwp, Ckon, Ckof, Lrex}
use Rattle.isa.specs.declared.Instruction.{Instruction}
use Rattle.isa.specs.declared.Instruction.TheVariants.{Dual, Register, Xop, Transfer, Bit, Jump, Shift, Single, Blwp, X, Immediate, Stwp, Stst, Lwpi, Limi, Control, Unassigned}
use Rattle.isa.specs.Isa.{decoded}
use Rattle.machine.specs.declared.Deed.{Deed}
use Rattle.machine.specs.declared.Deed.TheVariants as deed
use Rattle.machine.specs.declared.Signal.{Signal}
use Rattle.machine.specs.declared.Signal.TheVariants.{Reset as reset, Load as Load-Line, Level as level, Nothing as none}
use Rattle.machine.specs.State.{Machine, idle}
use Rattle.machine.specs.Micro.{Micro, done, ◌>>=◌, ◌>>◌, registers, set, fetched, load, store}
use Rattle.machine.specs.Perform.{perform}
use Rattle.machine.specs.Operands.{set_register, operand}
use Rattle.machine.specs.Groups as G
use Rattle.machine.specs.Execute.{command_deed, instruction, again, execute, allowance}
use Rattle.machine.specs.Step.{Kind, was_reset, was_load, was_idle, was_level, ran, vector, entry_status, enter, proceed, boundary, clocked, stepping, step}
use Rattle.machine.specs.Flags.{FlagsByWord, FlagsByStep, StepsTellTheFlags, KeepsWellFormed}
use Rattle.machine.proofs.Bind.{perform_bind, perform_done}
use Rattle.machine.proofs.Laws.{keeps_even, keeps_the_psi_formed, Form, form, formed}
use Rattle.machine.proofs.ReadOnly.{keeps_read_only}
use Rattle.machine.proofs.Loads as Loads

-- what a microprogram's value and the flags after it are, where it begins with cleared flags
Leads : {A : Type 0} → (A → ℕ → Type 0) → Micro A → Type 0
Leads J p = (v : ℕ) (m : Machine) → m.state.flags ≡ 0 → J (perform v p m).value (perform v p m).machine.state.flags

leaves : {A : Type 0} (p : Micro A) → Loads.Flagless p → Leads (λ a f. f ≡ 0) p
unfolding Leads
leaves p h v m e = Loads.flags_left v p m h ∙ e

follows : {A B : Type 0} (J : B → ℕ → Type 0) (p : Micro A) (f : A → Micro B) → Loads.Flagless p → ((a : A) → Leads J (f a)) → Leads J (p >>= f)
unfolding Leads
follows J p f h g v m e = rw (perform_bind v p f m) (g _ v _ (leaves p h v m e))

ends : {A B : Type 0} (J : A → ℕ → Type 0) (K : B → ℕ → Type 0) (g : A → B) → ((a : A) (f : ℕ) → J a f → K (g a) f) → (p : Micro A) → Leads J p → Leads K (p >>= λ a. done (g a))
unfolding Leads perform
ends J K g turn p h v m e = rw (perform_bind v p (λ a. done (g a)) m) (turn _ _ (h v m e))

-- only no-sample is set
abbrev Unsampled : {A : Type 0} → A → ℕ → Type 0
Unsampled a f = f ≡ 2

switches : (a : ℕ) → Leads Unsampled (G.switch a)
unfolding Leads perform put G.switch registers set load store set_register
switches a v m e = rw e

switches_by_operand : (o : Operand) → Leads Unsampled (G.switch_by_operand o)
unfolding G.switch_by_operand
switches_by_operand o = follows Unsampled (operand Word o) _ (Loads.operand_loads _ Word o) switches

switches_by_number : (o : Operand) (n : ℕ) → Leads Unsampled (G.switch_by_number o n)
unfolding Leads perform put G.switch_by_number G.switch G.set_status registers set load store set_register
switches_by_number o n = follows Unsampled (operand Word o) _ (Loads.operand_loads _ Word o) (λ a v m e. rw e)

switched : (p : Micro (Unit {0})) → Leads Unsampled p → Leads FlagsByWord (p >> done deed.Switched)
unfolding FlagsByWord
switched p h = ends Unsampled FlagsByWord (λ u. deed.Switched) (λ u f e. e) p h

ordinary : (p : Micro (Unit {0})) → Loads.Flagless p → Leads FlagsByWord (p >> done deed.Ordinary)
unfolding FlagsByWord
ordinary p h = ends (λ u f. f ≡ 0) FlagsByWord (λ u. deed.Ordinary) (λ u f e. omega arith) p (leaves p h)

unassigned : Leads FlagsByWord (done deed.Unassigned)
unfolding Leads FlagsByWord perform
unassigned v m e = e

commands : (op : ControlOp) → Leads FlagsByWord (G.command op >> done (command_deed op))
unfolding Leads FlagsByWord perform put G.command G.set_status registers set
commands Idle v m e = rw e (omega arith)
commands Rset v m e = omega arith
commands Rtwp v m e = ends (λ u f. f ≡ 0) FlagsByWord (λ u. deed.Returned) (λ u f z. z) G.return (leaves G.return Loads.return_flagless) v m e
commands Ckon v m e = omega arith
commands Ckof v m e = omega arith
commands Lrex v m e = omega arith

module _ (again : Operand → Micro Deed) (leads : (o : Operand) → Leads FlagsByWord (again o)) where
  instructs : (i : Instruction) → Leads FlagsByWord (instruction again i)
  unfolding instruction
  instructs (Dual op s d w) = ordinary (G.dual op w s d) (Loads.dual_flagless op w s d)
  instructs (Register op s n) = ordinary (G.with_register op s n) (Loads.with_register_flagless op s n)
  instructs (Xop s n) = switched (G.switch_by_number s n) (switches_by_number s n)
  instructs (Transfer op o n) = ordinary (G.transfer op o n) (Loads.transfer_flagless op o n)
  instructs (Bit op d) = ordinary (G.access_bit op d) (Loads.access_bit_flagless op d)
  instructs (Jump op d) = ordinary (G.jump op d) (Loads.jump_flagless op d)
  instructs (Shift op n c) = ordinary (G.shift op n c) (Loads.shift_flagless op n c)
  instructs (Single op o) = ordinary (G.single op o) (Loads.single_flagless op o)
  instructs (Blwp o) = switched (G.switch_by_operand o) (switches_by_operand o)
  instructs (X o) = leads o
  instructs (Immediate op n) = ordinary (G.immediate op n) (Loads.immediate_flagless op n)
  instructs (Stwp n) = ordinary (G.store_workspace n) (Loads.store_workspace_flagless n)
  instructs (Stst n) = ordinary (G.store_status n) (Loads.store_status_flagless n)
  instructs Lwpi = ordinary G.load_workspace Loads.load_workspace_flagless
  instructs Limi = ordinary G.load_mask Loads.load_mask_flagless
  instructs (Control op) = commands op
  instructs Unassigned = unassigned

instructs_again : (k : ℕ) (o : Operand) → Leads FlagsByWord (again k o)
unfolding again
instructs_again zero o = unassigned
instructs_again (suc k) o =
    follows FlagsByWord (operand Word o >>= load Word) _
    (Loads.loads_bind _ (operand Word o) (load Word) (Loads.operand_loads _ Word o) (Loads.load_loads _ Word))
    (λ w. instructs (again k) (instructs_again k) (decoded w))

executes : (k w : ℕ) → Leads FlagsByWord (execute k w)
unfolding execute
executes k w = instructs (again k) (instructs_again k) (decoded w)

-- a step without an entry: idle, or a word executed with both flags cleared
runs_word : (e : ℕ) → Leads (λ k f. FlagsByStep k e f) (fetched >>= λ w. execute allowance w >>= λ d. done (ran d))
unfolding FlagsByStep
runs_word e =
    follows (λ k f. FlagsByStep k e f) fetched _ (Loads.fetched_loads _)
    (λ w. ends FlagsByWord (λ k f. FlagsByStep k e f) ran (λ d f h. h) (execute allowance w) (executes allowance w))

awake : (f : ℕ) → bit idle f ≡ false → f % 2 ≡ 0
unfolding bit
awake f e = omega (arith, eqb-false (f / 1 % 2) 1 e)

-- what is said of a microprogram at a boundary
abbrev Tells : Micro Kind → Type 0
Tells p = (v : ℕ) (m : Machine) → FlagsByStep (perform v p m).value m.state.flags (perform v p m).machine.state.flags

proceeds : Tells proceed
unfolding Leads FlagsByStep perform put proceed registers set
proceeds v m =
    either_way (λ (p : Micro Kind). FlagsByStep (perform v p m).value m.state.flags (perform v p m).machine.state.flags)
    (bit idle m.state.flags) (λ t. (t, refl)) (λ f. runs_word m.state.flags v _ (omega (arith, awake m.state.flags f)))

-- an entry, from any flags
enters : (a : ℕ) (f : ℕ → ℕ) (v : ℕ) (m : Machine) → (perform v (enter a f) m).machine.state.flags ≡ 2
unfolding perform put enter G.switch G.set_status registers set load store set_register
enters a f v m = omega arith

bounds : (g : Signal) → Tells (boundary g)
unfolding boundary FlagsByStep
bounds reset v m = rw (perform_bind, perform_done) (enters (vector reset) (entry_status reset) v m)
bounds Load-Line v m = rw (perform_bind, perform_done) (enters (vector Load-Line) (entry_status Load-Line) v m)
bounds (level k) v m = rw (perform_bind, perform_done) (enters (vector (level k)) (entry_status (level k)) v m)
bounds none v m = proceeds v m

pub steps_tell_the_flags : StepsTellTheFlags
unfolding step stepping registers perform
steps_tell_the_flags word m = bounds _ _ _

-- so flags of at most 2 stay so, whatever the step was
at_most_2 : (k : Kind) (e f : ℕ) → FlagsByStep k e f → e ≤ 2 → f ≤ 2
unfolding FlagsByStep FlagsByWord
at_most_2 was_reset e f h l = omega arith
at_most_2 was_load e f h l = omega arith
at_most_2 (was_level k) e f h l = omega arith
at_most_2 was_idle e f h l = omega (arith, h.1)
at_most_2 (ran deed.Ordinary) e f h l = omega arith
at_most_2 (ran deed.Unassigned) e f h l = omega arith
at_most_2 (ran deed.Switched) e f h l = omega arith
at_most_2 (ran deed.Returned) e f h l = omega arith

-- and a well-formed state stays one, at a boundary and over a step
pub boundary_form : (g : Signal) (v : ℕ) (m : Machine) → Form m.state → Form (perform v (boundary g) m).machine.state
boundary_form g v m f =
    record {
      even = keeps_even v (boundary g) m f.even;
      flags = at_most_2 _ _ _ (bounds g v m) f.flags;
      first = rw (keeps_read_only v (boundary g) m) f.first;
      psi = keeps_the_psi_formed v (boundary g) m f.psi;
    }

clocked_form : (cycles : ℕ) (m : Machine) → Form m.state → Form (clocked cycles m).state
clocked_form cycles m f =
    record {
      even = record { wp = f.even.wp; pc = f.even.pc };
      flags = f.flags;
      first = f.first;
      psi = kept_formed.cycles cycles f.psi;
    }

pub step_form : (word : ℕ) (m : Machine) → Form m.state → Form (step word m).machine.state
unfolding step stepping registers perform
step_form word m f = boundary_form _ _ (clocked (parted word).cycles m) (clocked_form (parted word).cycles m f)

pub keeps_well_formed : KeepsWellFormed
keeps_well_formed word m w = formed _ (step_form word m (form m.state w))
