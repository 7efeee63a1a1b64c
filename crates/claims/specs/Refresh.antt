-- Document 02, Q-4: the read register over a step.
use Rattle.std.specs.Prelude.{ℕ, ◌≡◌, true, false, List, ◌∷◌, ◌++◌}
use Rattle.psi.specs.Psi.{control}
use Rattle.psi.specs.Clock.{advanced}
use Rattle.psi.specs.Pins.{parted}
use Rattle.machine.specs.State.{Machine}
use Rattle.machine.specs.Perform.{Access}
use Rattle.machine.specs.Step.{step}
use Rattle.machine.specs.Refresh.{seen, all_seen, refreshes, some_refreshes, steady}
use Rattle.book.specs.Book.{step_accesses}

-- What the PSI is after a step comes of the clock and of the step's accesses alone.
abbrev pub StepPsi : Type 0
StepPsi =
    (word : ℕ) (m : Machine)
    → (step word m).machine.state.psi
    ≡ all_seen (parted word).levels (step_accesses word m) (advanced (parted word).cycles m.state.psi)

-- Frozen: in clock mode, if no access of a step refreshes the read register, it is as before the step, however long the clock ran.
abbrev pub StepFrozen : Type 0
StepFrozen =
    (word : ℕ) (m : Machine)
    → control m.state.psi ≡ true
    → some_refreshes (step_accesses word m) ≡ false
    → (step word m).machine.state.psi.reading ≡ m.state.psi.reading

-- Refreshed: if some access of a step refreshes it and none after that changes the decrementer, it is the decrementer after the step.
abbrev pub StepRefreshed : Type 0
StepRefreshed =
    (word : ℕ) (m : Machine) (before : List Access) (a : Access) (after : List Access)
    → step_accesses word m ≡ before ++ (a ∷ after)
    → refreshes a ≡ true
    → steady (parted word).levels after (seen (parted word).levels a (all_seen (parted word).levels before (advanced (parted word).cycles m.state.psi))) ≡ true
    → (step word m).machine.state.psi.reading ≡ (step word m).machine.state.psi.decrementer
