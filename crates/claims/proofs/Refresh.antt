-- A step is one microprogram from a machine whose clock has advanced; in clock mode the clock leaves the read register.
use mathlib.Core.Path.{◌∙◌}
use Rattle.psi.specs.Pins.{parted}
use Rattle.machine.specs.Step.{clocked, step}
use Rattle.machine.proofs.Refresh.{psi_by_accesses, frozen, refreshed}
use Rattle.book.specs.Book.{step_accesses}
use Rattle.claims.specs.Refresh.{StepPsi, StepFrozen, StepRefreshed}
use Rattle.claims.proofs.Clock.{held_clock}

pub step_psi : StepPsi
unfolding step step_accesses
step_psi word m = psi_by_accesses _ _ (clocked (parted word).cycles m)

pub step_frozen : StepFrozen
unfolding step step_accesses
step_frozen word m c f = frozen _ _ (clocked (parted word).cycles m) f ∙ held_clock _ m.state.psi c

pub step_refreshed : StepRefreshed
unfolding step step_accesses
step_refreshed word m = refreshed _ _ (clocked (parted word).cycles m)
