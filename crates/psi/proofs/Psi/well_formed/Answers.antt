-- The code is the definition with its conjunctions grouped otherwise.
use mathlib.Core.Bool.{and_assoc}
use Rattle.psi.specs.Formed.{well_formed}
use Rattle.psi.proofs.Psi.well_formed.Goals as goal

pub returns : goal.returns
unfolding well_formed
returns c = rw (c.without-latches.ensures, c.control.ensures) (simp and_assoc)
