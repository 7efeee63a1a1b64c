-- The examples hold: the kernel computes each row from the definitions; `Cases.every` opens what the machine computes with.
use mathlib.Core.Path.{refl}
use Rattle.memory.specs.Memory as Memory
use Rattle.machine.specs.Perform as Perform
use Rattle.machine.specs.Cases as Cases
use Rattle.book.specs.Book as Book
use Rattle.book.specs.Examples as Examples

pub examples_hold : Examples.ExamplesHold
unfolding Cases.every Perform.accesses Perform.fetches Perform.written Book.turn Book.step_accesses Book.note Book.event_of Book.event Book.moment Book.moments Book.book_after Book.call_moments Book.call_machine Book.all_moments Examples.table Examples.left Examples.Hold
examples_hold =
    (refl, (refl, (refl, (refl, (refl, (refl, (refl, (refl, (refl, (refl, (refl, (refl, (refl, (refl, (refl, (refl, (refl, (refl, (refl, tt)))))))))))))))))))

pub stores_hold : Examples.StoresHold
unfolding Cases.every Memory.places Memory.touched Perform.accesses Perform.reached Perform.written Book.step_accesses Book.moment
stores_hold = (refl, refl)
