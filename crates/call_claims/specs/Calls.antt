-- What holds of every machine that calls of run come to: its state is well formed, so idle and no-sample are never set together.
use Rattle.std.specs.Prelude.{ℕ, ◌≡◌, true, false, ◌&&◌, List, []}
use Rattle.bits.specs.Bits.{bit}
use Rattle.machine.specs.declared.State.{State}
use Rattle.machine.specs.State.{Machine, at, idle, no_sample, well_formed}
use Rattle.machine.specs.Run.{power_up}
use Rattle.book.specs.Book.{all_moments}
use Rattle.book_claim.specs.Claim.{Seen, calls, Chained, Each}

-- P holds of every machine that a list of calls of run comes to: after each of their steps, and as each call left it
abbrev pub Throughout : (Machine → Type 0) → State → List ℕ → List Seen → Type 0
Throughout P s m seen =
    Each (λ x. P x.after) (all_moments (at s m) [] (calls seen))
    × Each (λ x. P (at x.answer.state x.memory)) seen

abbrev pub Formed : Machine → Type 0
Formed m = well_formed m.state ≡ true

-- From a well-formed state every list of calls comes to well-formed states alone: any memory, records, counts and stop addresses.
abbrev pub CallsKeepWellFormed : Type 0
CallsKeepWellFormed =
    (s : State) (m : List ℕ) (seen : List Seen) → Formed (at s m) → Chained s m seen → Throughout Formed s m seen

-- Power up gives a well-formed state, on any memory, and so do all calls from there.
abbrev pub WellFormedFromPowerUp : Type 0
WellFormedFromPowerUp =
    (m : List ℕ) (seen : List Seen)
    → Chained (power_up m).answer.state (power_up m).memory seen
    → Formed (at (power_up m).answer.state (power_up m).memory)
    × Throughout Formed (power_up m).answer.state (power_up m).memory seen

-- A well-formed state is not idle with no-sample set: Q-12's case, which document 01 had a rule for.
abbrev pub NeverIdleUnsampled : Type 0
NeverIdleUnsampled =
    (s : State) → well_formed s ≡ true → (bit idle s.flags && bit no_sample s.flags) ≡ false
