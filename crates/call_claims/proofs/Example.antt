-- The example: the kernel computes its five steps; `Cases.every` opens what the machine computes with.
use mathlib.Core.Path.{refl}
use native.Mathlib.Omega.{arith}
use Rattle.machine.specs.Perform as Perform
use Rattle.machine.specs.Cases as Cases
use Rattle.book.specs.Book as Book
use Rattle.book_claim.specs.Claim as Claim
use Rattle.call_claims.specs.Example as Example

pub example_holds : Example.ExampleHolds
unfolding Cases.every Perform.accesses Perform.fetches Perform.written Book.turn Book.step_accesses Book.note Book.event_of Book.event Book.moment Book.moments Book.book_after Book.call_moments Book.call_machine Book.all_moments Claim.calls Claim.Chained Claim.Each Example.flags_after
example_holds = (refl, (refl, (refl, tt)), refl, refl, refl, λ t. absurd (omega (arith, t.0.0)))
