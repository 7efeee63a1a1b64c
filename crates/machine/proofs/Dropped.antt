-- The examples of dropped stores hold: the kernel computes the table from the definitions.
use Rattle.std.proofs.Common.{refl}
use Rattle.memory.specs.Memory.{place, places, touched}
use Rattle.machine.specs.Perform.{dropped, reached, written}
use Rattle.machine.specs.Cases.{every}
use Rattle.machine.specs.Dropped.{table, DropsHold, PlacesHold}

pub drops_hold : DropsHold
unfolding every table
drops_hold = tt

pub places_hold : PlacesHold
unfolding place places touched dropped reached written
places_hold = refl
