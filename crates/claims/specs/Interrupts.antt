-- Entries are taken exactly when document 01 says, by what the step answers (Q-6).
use Rattle.std.specs.Prelude.{ℕ, ◌+◌, ◌%◌, ◌≤◌, ◌<◌, ◌≡◌, true, false, ◌↔◌}
use Rattle.bits.specs.Bits.{bit}
use Rattle.psi.specs.declared.Psi.{Psi}
use Rattle.psi.specs.Clock.{advanced}
use Rattle.psi.specs.Pins.{parted, requested, code}
use Rattle.psi.specs.RequestLaws.{NoneBelow}
use Rattle.machine.specs.State.{Machine, registers, no_sample}
use Rattle.machine.specs.Perform.{perform}
use Rattle.machine.specs.declared.Signal.{Signal}
use Rattle.machine.specs.declared.Signal.TheVariants.{Reset as reset, Load as load, Nothing as none, Level as level}
use Rattle.machine.specs.declared.StepAnswer.{StepAnswer}
use Rattle.machine.specs.declared.StepAnswer.TheVariants.{Nothing, Reset, Load, Level, Instruction, Idle, Unassigned}
use Rattle.machine.specs.Step.{signal, admitted, boundary, clocked, step}
use Rattle.machine.specs.Answer.{answer}

-- request n is the lowest that is both enabled and active
pub record Lowest (s : Psi) (v n : ℕ) : Type 0 where
  pub from_1 : 0 < n
  pub to_15 : n < 16
  pub is_requested : requested s v n ≡ true
  pub none_lower : NoneBelow s v n

-- the same at a step with a pin record: after the clock has advanced, at the record's levels
abbrev pub LowestAt : ℕ → Machine → ℕ → Type 0
LowestAt word m n = Lowest (advanced (parted word).cycles m.state.psi) (parted word).levels n

-- requests are sampled at this step
abbrev pub Sampled : Machine → Type 0
Sampled m = bit no_sample m.state.flags ≡ false

-- the lowest request stands for level k, from 1 to 4, and the mask admits it
abbrev pub Admitted : ℕ → Machine → ℕ → Type 0
Admitted word m k =
    (n : ℕ) × LowestAt word m n × (n % 8 ≡ k + 2) × (1 ≤ k) × (k ≤ 4) × (k ≤ m.state.st % 16)

-- Where requests are sampled, level k is entered exactly if the lowest request stands for it and the mask admits it.
abbrev pub LevelsExactly : Type 0
LevelsExactly =
    (word : ℕ) (m : Machine) (k : ℕ) → Sampled m → (answer word m ≡ Level k) ↔ Admitted word m k

-- Where they are not sampled, no level and no LOAD is entered.
abbrev pub NoneUnsampled : Type 0
NoneUnsampled =
    (word : ℕ) (m : Machine) (k : ℕ)
    → bit no_sample m.state.flags ≡ true
    → (answer word m ≡ Level k → ⊥) × (answer word m ≡ Load → ⊥)

-- LOAD is entered exactly if the lowest request's number is 2 modulo 8 and requests are sampled.
abbrev pub LoadExactly : Type 0
LoadExactly =
    (word : ℕ) (m : Machine)
    → (answer word m ≡ Load) ↔ (Sampled m × ((n : ℕ) × LowestAt word m n × (n % 8 ≡ 2)))

-- Reset is entered, at every boundary, exactly if the lowest request's number is 0 or 1 modulo 8.
abbrev pub ResetExactly : Type 0
ResetExactly =
    (word : ℕ) (m : Machine) → (answer word m ≡ Reset) ↔ ((n : ℕ) × LowestAt word m n × (n % 8 < 2))

-- the request code at a step, and what of it is taken
abbrev pub code_at : ℕ → Machine → ℕ
code_at word m = code (clocked (parted word).cycles m).state.psi (parted word).levels

unfoldable pub at_step : ℕ → Machine → Signal
at_step word m = admitted (registers m.state) (signal (code_at word m))

-- what a step with an answer took at its boundary: an entry, or none
unfoldable pub taken : StepAnswer → Signal
taken Nothing = none
taken Reset = reset
taken Load = load
taken (Level k) = level k
taken Instruction = none
taken Idle = none
taken (Unassigned pc) = none

-- The answer says what the step did: it is that entry, or going on without one, once the clock has advanced.
abbrev pub AnswersTell : Type 0
AnswersTell =
    (word : ℕ) (m : Machine)
    → step word m ≡ perform (parted word).levels (boundary (taken (answer word m))) (clocked (parted word).cycles m)
