-- Document 02, Q-7: the read-only part over a step and over a run.
use Rattle.std.specs.Prelude.{ℕ, ◌%◌, ◌≡◌, List}
use Rattle.machine.specs.declared.State.{State}
use Rattle.machine.specs.State.{Machine, at, no_rom}
use Rattle.machine.specs.Laws.{Unaltered}
use Rattle.machine.specs.Step.{step}
use Rattle.machine.specs.Run.{run, power_up}

-- A step keeps the read-only address.
abbrev pub StepKeepsReadOnly : Type 0
StepKeepsReadOnly = (word : ℕ) (m : Machine) → (step word m).machine.state.rom ≡ m.state.rom

-- Where it is even, as in every well-formed state, every byte from there on is as before the step.
abbrev pub StepKeepsThePart : Type 0
StepKeepsThePart = (word : ℕ) (m : Machine) → m.state.rom % 2 ≡ 0 → Unaltered m (step word m).machine

-- The same of a run, whatever its arguments are: a state that is not well formed is refused.
abbrev pub RunKeepsThePart : Type 0
RunKeepsThePart =
    (m : List ℕ) (s : State) (records : List ℕ) (steps stop : ℕ)
    → Unaltered (at s m) (at (run m s records steps stop).answer.state (run m s records steps stop).memory)

-- A machine that powers up has nothing read-only, and so has the blank state of a refusal.
abbrev pub PowerUpHasNoRom : Type 0
PowerUpHasNoRom = (m : List ℕ) → (power_up m).answer.state.rom ≡ no_rom
