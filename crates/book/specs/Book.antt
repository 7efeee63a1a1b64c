-- The book of open entries, as document 01 words it: it follows the steps that the rules give, and nothing else.
use Rattle.std.specs.Prelude.{ℕ, zero, suc, ◌+◌, ◌*◌, ◌%◌, true, false, List, [], ◌∷◌, ◌++◌, eqb, length, if◌then◌else◌}
use Rattle.psi.specs.Pins.{parted}
use Rattle.machine.specs.declared.Deed.TheVariants.{Ordinary, Unassigned, Switched, Returned}
use Rattle.machine.specs.State.{Machine, at}
use Rattle.machine.specs.Perform.{Access, accesses, fetches, written}
use Rattle.machine.specs.Step.{Kind, was_reset, was_load, was_idle, was_level, ran, clocked, stepping, step}
use Rattle.machine.specs.Run.{run_refusal, run}

-- a note: the new WP, and the WP, PC and ST that are noted
pub record Note : Type 0 where
  pub workspace : ℕ
  pub wp : ℕ
  pub pc : ℕ
  pub st : ℕ

abbrev pub Book : Type 0
Book = List Note

-- what a step means for the book
pub data Event : Type 0 where
  opened : Note → Event
  returned cleared other : Event

-- An entry adds a note, RTWP removes the latest if there is one, reset removes all; every other step leaves the book.
unfoldable pub turn : Event → Book → Book
turn (opened n) b = n ∷ b
turn returned [] = []
turn returned (n ∷ b) = b
turn cleared b = []
turn other b = b

-- the accesses that a step with a pin record makes
unfoldable pub step_accesses : ℕ → Machine → List Access
step_accesses word m =
    accesses (parted word).levels (stepping (parted word).levels (clocked (parted word).cycles m)) (clocked (parted word).cycles m)

-- the note of an entry: the new WP, and WP, PC and ST from before the step, PC higher by 2 for each of n words
unfoldable pub note : ℕ → Machine → ℕ → Note
note word m n =
    record {
      workspace = (step word m).machine.state.wp;
      wp = m.state.wp;
      pc = (m.state.pc + 2 * n) % 65536;
      st = m.state.st;
    }

-- A level entered, LOAD, XOP or BLWP adds a note; for XOP and BLWP the noted PC counts the words fetched at the PC.
unfoldable pub event_of : ℕ → Machine → Kind → Event
event_of word m was_reset = cleared
event_of word m was_load = opened (note word m 0)
event_of word m was_idle = other
event_of word m (was_level k) = opened (note word m 0)
event_of word m (ran Ordinary) = other
event_of word m (ran Unassigned) = other
event_of word m (ran Switched) = opened (note word m (fetches (step_accesses word m)))
event_of word m (ran Returned) = returned

unfoldable pub event : ℕ → Machine → Event
event word m = event_of word m (step word m).value

-- a step by the rules: the machine before and after it, the book before it, what it means for the book, and the places of
-- all bytes that it stores into; of a dropped store there are none (Q-7)
pub record Moment : Type 0 where
  pub before : Machine
  pub after : Machine
  pub book : Book
  pub event : Event
  pub writes : List ℕ

unfoldable pub moment : ℕ → Machine → Book → Moment
moment word m b =
    record {
      before = m;
      after = (step word m).machine;
      book = b;
      event = event word m;
      writes = written m.state.rom (step_accesses word m);
    }

-- the steps of a run by the rules, with the book carried along
unfoldable pub moments : ℕ → ℕ → List ℕ → Machine → Book → List Moment
moments stop zero rs m b = []
moments stop (suc n) [] m b = []
moments stop (suc n) (r ∷ rs) m b =
    elim (eqb m.state.pc stop) [
      | true ↦ []
      | false ↦ moment r m b ∷ moments stop n rs (step r m).machine (turn (event r m) b)
    ]

-- the book after some steps
unfoldable pub book_after : Book → List Moment → Book
book_after b [] = b
book_after b (x ∷ xs) = book_after (turn x.event x.book) xs

-- the arguments of a call of run, besides the state and the memory
pub record Call : Type 0 where
  pub records : List ℕ
  pub steps : ℕ
  pub stop : ℕ

-- the steps of one call: none if it is refused
unfoldable pub call_moments : Machine → Book → Call → List Moment
call_moments m b c =
    if eqb (run_refusal (length m.memory) m.state (length c.records) c.steps) 0
    then moments c.stop c.steps c.records m b
    else []

-- the machine after one call, by the rules
unfoldable pub call_machine : Machine → Call → Machine
call_machine m c =
    at (run m.memory m.state c.records c.steps c.stop).answer.state
    (run m.memory m.state c.records c.steps c.stop).memory

-- the steps of a list of calls
unfoldable pub all_moments : Machine → Book → List Call → List Moment
all_moments m b [] = []
all_moments m b (c ∷ cs) =
    call_moments m b c ++ all_moments (call_machine m c) (book_after b (call_moments m b c)) cs
