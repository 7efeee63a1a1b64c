-- The flags after a step, by what the step was; so a step keeps a state well formed.
use Rattle.std.specs.Prelude.{◌≡◌, ℕ, ◌^◌, ◌≤◌, true}
use Rattle.bits.specs.Bits.{bit}
use Rattle.machine.specs.declared.Deed.{Deed}
use Rattle.machine.specs.declared.Deed.TheVariants.{Ordinary, Unassigned, Switched, Returned}
use Rattle.machine.specs.State.{Machine, idle, no_sample, well_formed}
use Rattle.machine.specs.Step.{Kind, was_reset, was_load, was_idle, was_level, ran, step}

-- which flags are set after an executed word, also one that X executes: after BLWP and XOP only no-sample, after RTWP and an unassigned
-- word none, after any other instruction at most idle, which IDLE sets
unfoldable pub FlagsByWord : Deed → ℕ → Type 0
FlagsByWord Ordinary f = f ≤ 2 ^ idle
FlagsByWord Unassigned f = f ≡ 0
FlagsByWord Switched f = f ≡ 2 ^ no_sample
FlagsByWord Returned f = f ≡ 0

-- which are set after a step that began with flags e: after reset, LOAD and an interrupt only no-sample; an idle step changes none
unfoldable pub FlagsByStep : Kind → ℕ → ℕ → Type 0
FlagsByStep was_reset e f = f ≡ 2 ^ no_sample
FlagsByStep was_load e f = f ≡ 2 ^ no_sample
FlagsByStep was_idle e f = (bit idle e ≡ true) × (f ≡ e)
FlagsByStep (was_level k) e f = f ≡ 2 ^ no_sample
FlagsByStep (ran d) e f = FlagsByWord d f

abbrev pub StepsTellTheFlags : Type 0
StepsTellTheFlags =
    (word : ℕ) (m : Machine) → FlagsByStep (step word m).value m.state.flags (step word m).machine.state.flags

-- A well-formed state stays well formed: of the flags that holds of a step, not of every microprogram.
abbrev pub KeepsWellFormed : Type 0
KeepsWellFormed =
    (word : ℕ) (m : Machine) → well_formed m.state ≡ true → well_formed (step word m).machine.state ≡ true
