-- No step alters the read-only part of a machine whose read-only address is even, so by induction no run does; an accepted run begins
-- with such a machine, and a refused one does nothing.
use Prim.Native.Nat.{ℕ, ◌%◌}
use mathlib.Core.Path.{◌≡◌, refl}
use mathlib.Core.List.{List}
use lib.Dec.{eqb}
use lib.ListN.{length}
use borrow.Author.Tests.{eqb-true}
use Rattle.psi.proofs.Cases.{either_way}
use Rattle.machine.specs.State.{Machine, at, no_rom}
use Rattle.machine.specs.Laws.{Unaltered}
use Rattle.machine.specs.Step.{step}
use Rattle.machine.specs.Run.{Ran, runs, run_refusal, RunResult, run, power_up_refusal, StateResult, power_up}
use Rattle.machine.proofs.Laws.{form}
use Rattle.machine.proofs.ReadOnly as Machine
use Rattle.claims.specs.ReadOnly.{StepKeepsReadOnly, StepKeepsThePart, RunKeepsThePart, PowerUpHasNoRom}
use Rattle.claims.proofs.Runs.{every_run, ready}

pub step_keeps_read_only : StepKeepsReadOnly
step_keeps_read_only = Machine.step_keeps_read_only

pub step_keeps_the_part : StepKeepsThePart
step_keeps_the_part = Machine.step_unaltered

Kept : ℕ → List ℕ → Machine → Ran → Type 0
Kept n rs m x = m.state.rom % 2 ≡ 0 → Unaltered m x.machine

runs_kept : (stop n : ℕ) (rs : List ℕ) (m : Machine) → Kept n rs m (runs stop n rs m)
unfolding Kept
runs_kept stop =
    every_run stop Kept (λ n rs m o e. record { address = refl; part = λ i h. refl })
    (λ n r rs m x p later e.
    let u = Machine.step_unaltered r m e in
    Machine.unaltered_then m (step r m).machine x.machine u (later (rw u.address e)))

pub run_keeps_the_part : RunKeepsThePart
unfolding run Kept
run_keeps_the_part m s records steps stop =
    either_way (λ (r : RunResult). Unaltered (at s m) (at r.answer.state r.memory)) (eqb (run_refusal (length m) s (length records) steps) 0)
    (λ t. runs_kept stop steps records (at s m) (form s (ready (at s m) records steps (eqb-true _ _ t)).0.formed).first.even)
    (λ f. record { address = refl; part = λ i h. refl })

-- power up is an entry from the blank state
pub power_up_has_no_rom : PowerUpHasNoRom
unfolding power_up
power_up_has_no_rom m =
    either_way (λ (r : StateResult). r.answer.state.rom ≡ no_rom) (eqb (power_up_refusal (length m)) 0)
    (λ t. Machine.keeps_read_only _ _ _) (λ f. refl)
