-- Steps begin with well-formed states alone, whose read-only address is even, and such a step leaves the read-only part unaltered.
use mathlib.Core.Path.{refl}
use mathlib.Core.List.{[]}
use Rattle.machine.specs.State.{at}
use Rattle.machine.specs.Laws.{Unaltered}
use Rattle.machine.specs.Step.{step}
use Rattle.machine.proofs.Laws.{form}
use Rattle.machine.proofs.ReadOnly.{step_unaltered, unaltered_then}
use Rattle.call_claims.specs.ReadOnly.{CallsKeepTheReadOnlyPart}
use Rattle.call_claims.proofs.Calls.{all_kept}

pub calls_keep_the_read_only_part : CallsKeepTheReadOnlyPart
calls_keep_the_read_only_part s m seen c =
    all_kept (Unaltered (at s m))
    (λ word x f u. unaltered_then (at s m) x (step word x).machine u (step_unaltered word x (form x.state f).first.even))
    (at s m) [] seen (record { address = refl; part = λ i h. refl }) c
