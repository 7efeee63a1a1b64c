-- The example: the kernel computes its four steps; `Cases.every` opens what the machine computes with. In the other one R13 is still 0.
use mathlib.Core.Path.{refl}
use native.Mathlib.Omega.{arith}
use Rattle.memory.specs.Memory as Memory
use Rattle.machine.specs.Perform as Perform
use Rattle.machine.specs.Cases as Cases
use Rattle.book.specs.Book as Book
use Rattle.book_claim.specs.Claim as Claim
use Rattle.book_claim.specs.Example as Example

pub example_holds : Example.ExampleHolds
unfolding Cases.every Memory.places Memory.touched Memory.covers Memory.disjoint Perform.accesses Perform.fetches Perform.reached Perform.written Book.turn Book.step_accesses Book.note Book.event_of Book.event Book.moment Book.moments Book.book_after Book.call_moments Book.call_machine Book.all_moments Claim.save_places Claim.Each Claim.Avoided Claim.InWorkspace Claim.Saved Example.books
example_holds = (
  (
    record { avoids = tt; in_place = tt; saved = (omega arith, (omega arith, (omega arith, (omega arith, (omega arith, (omega arith, tt)))))) },
    (
      record { avoids = (refl, tt); in_place = tt; saved = (omega arith, (omega arith, (omega arith, (omega arith, (omega arith, (omega arith, tt)))))) },
      (
        record { avoids = (refl, (refl, tt)); in_place = refl; saved = tt },
        (record { avoids = (refl, tt); in_place = refl; saved = tt }, tt),
      ),
    ),
  ),
  refl,
)

pub dropped_words_are_not_kept : Example.DroppedWordsAreNotKept
unfolding Cases.every Perform.accesses Perform.fetches Perform.reached Perform.written Book.turn Book.step_accesses Book.note Book.event_of Book.event Book.moment Book.moments Book.book_after Book.call_moments Book.call_machine Book.all_moments Claim.Each
dropped_words_are_not_kept k = absurd (omega (arith, k.0.stand.0.wp))
