-- What a step answers, and what a run hands on of it (Q-6).
use Rattle.std.specs.Prelude.{ℕ, zero, suc, ◌≤◌, ◌≡◌, Bool, true, false, List, [], ◌∷◌, ◌↔◌, get_or, if◌then◌else◌}
use Rattle.bits.specs.Bits.{bit}
use Rattle.memory.specs.declared.Width.TheVariants.{Word}
use Rattle.memory.specs.Memory.{loaded}
use Rattle.psi.specs.Pins.{parted}
use Rattle.isa.specs.declared.Operand.{Operand}
use Rattle.isa.specs.declared.Instruction.{Instruction}
use Rattle.isa.specs.declared.Instruction.TheVariants as isa
use Rattle.isa.specs.Isa.{decoded}
use Rattle.machine.specs.declared.State.{State}
use Rattle.machine.specs.declared.Signal.TheVariants.{Nothing as none}
use Rattle.machine.specs.declared.StepAnswer.TheVariants.{Nothing, Level, Instruction as instruction, Idle, Unassigned}
use Rattle.machine.specs.State.{Machine, at, idle}
use Rattle.machine.specs.Perform.{after_fetch, was_fetched, accesses}
use Rattle.machine.specs.Execute.{execute, allowance}
use Rattle.machine.specs.Step.{clocked}
use Rattle.machine.specs.Answer.{answer}
use Rattle.machine.specs.Needed.{awake}
use Rattle.machine.specs.Run.{run}
use Rattle.book.specs.Book.{step_accesses}
use Rattle.claims.specs.Interrupts.{at_step}
use Rattle.claims.specs.Words.{found}

-- The level of an answer is 1 to 4.
abbrev pub LevelsInRange : Type 0
LevelsInRange = (word : ℕ) (m : Machine) (k : ℕ) → answer word m ≡ Level k → (1 ≤ k) × (k ≤ 4)

-- A step that is done answers something.
abbrev pub StepsAnswer : Type 0
StepsAnswer = (word : ℕ) (m : Machine) → answer word m ≡ Nothing → ⊥

-- Where the answer is an unassigned word its PC is the one before the step: whether the word stood there, or X led to it.
abbrev pub UnassignedTellsThePc : Type 0
UnassignedTellsThePc = (word : ℕ) (m : Machine) (pc : ℕ) → answer word m ≡ Unassigned pc → pc ≡ m.state.pc

-- whether an instruction meets an unassigned word: where the word itself is unassigned; X, where f says so of its operand; no other does
unfoldable pub meets_by : (Operand → Bool) → Instruction → Bool
meets_by f (isa.Dual o s d w) = false
meets_by f (isa.Register o s r) = false
meets_by f (isa.Xop s n) = false
meets_by f (isa.Transfer o s n) = false
meets_by f (isa.Bit o d) = false
meets_by f (isa.Jump o d) = false
meets_by f (isa.Shift o r n) = false
meets_by f (isa.Single o s) = false
meets_by f (isa.Blwp s) = false
meets_by f (isa.X o) = f o
meets_by f (isa.Immediate o r) = false
meets_by f (isa.Stwp r) = false
meets_by f (isa.Stst r) = false
meets_by f isa.Lwpi = false
meets_by f isa.Limi = false
meets_by f (isa.Control o) = false
meets_by f isa.Unassigned = true

-- whether a word that is executed meets one: X goes on with the word at its operand's address, with one X fewer allowed, and an X beyond
-- the allowance is one
unfoldable pub meets : ℕ → ℕ → ℕ → Machine → Bool
meets zero v w m = meets_by (λ o. true) (decoded w)
meets (suc k) v w m = meets_by (λ o. meets k v (found v m o).value (found v m o).machine) (decoded w)

-- at a step's boundary neither reset nor LOAD nor a level is taken
abbrev pub NotEntered : ℕ → Machine → Type 0
NotEntered word m = at_step word m ≡ none

-- the machine that executes the word at the PC: its clock has advanced, no-sample is cleared, and the PC is past the word
abbrev pub executing : ℕ → Machine → Machine
executing word m =
    after_fetch (awake (clocked (parted word).cycles m))

-- Then an idle machine's step is idling, and any other's executes the word at the PC: an unassigned word with that PC, if it meets one, or
-- else an instruction.
abbrev pub IdleSteps : Type 0
IdleSteps = (word : ℕ) (m : Machine) → NotEntered word m → bit idle m.state.flags ≡ true → answer word m ≡ Idle

abbrev pub ExecutingSteps : Type 0
ExecutingSteps =
    (word : ℕ) (m : Machine)
    → NotEntered word m
    → bit idle m.state.flags ≡ false
    → answer word m
    ≡ (if meets allowance (parted word).levels (loaded Word m.memory m.state.pc) (executing word m)
    then Unassigned m.state.pc
    else instruction)

-- What they access (Q-4): an idle step nothing; any other the word at the PC, and what that word's instruction accesses.
abbrev pub IdleStepsAccess : Type 0
IdleStepsAccess = (word : ℕ) (m : Machine) → NotEntered word m → bit idle m.state.flags ≡ true → step_accesses word m ≡ []

abbrev pub ExecutingStepsAccess : Type 0
ExecutingStepsAccess =
    (word : ℕ) (m : Machine)
    → NotEntered word m
    → bit idle m.state.flags ≡ false
    → step_accesses word m
    ≡ was_fetched m.state.pc
    ∷ accesses (parted word).levels (execute allowance (loaded Word m.memory m.state.pc)) (executing word m)

-- A run hands on what its last step answers: after k + 1 steps that of the step with record k, from what k steps leave.
abbrev pub LastStep : Type 0
LastStep =
    (m : List ℕ) (s : State) (records : List ℕ) (steps stop k : ℕ)
    → (run m s records steps stop).answer.steps ≡ suc k
    → (run m s records steps stop).answer.last
    ≡ answer (get_or records k 0) (at (run m s records k stop).answer.state (run m s records k stop).memory)

-- It hands on nothing exactly if no step was done.
abbrev pub NothingExactly : Type 0
NothingExactly =
    (m : List ℕ) (s : State) (records : List ℕ) (steps stop : ℕ)
    → ((run m s records steps stop).answer.last ≡ Nothing) ↔ ((run m s records steps stop).answer.steps ≡ 0)

-- So the level that it hands on is 1 to 4.
abbrev pub LastLevelInRange : Type 0
LastLevelInRange =
    (m : List ℕ) (s : State) (records : List ℕ) (steps stop k : ℕ)
    → (run m s records steps stop).answer.last ≡ Level k
    → (1 ≤ k) × (k ≤ 4)
