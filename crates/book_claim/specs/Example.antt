-- A worked example: an interrupt, in it a BLWP through X, and the two returns, in three calls, where memory is read-only right above the
-- last save word. The premises hold of it, so the claim is not empty.
use Rattle.std.specs.Prelude.{ℕ, ◌-◌, ◌^◌, ◌≡◌, List, [], ◌∷◌}
use Rattle.machine.specs.State.{Machine, at}
use Rattle.machine.specs.Cases.{word, poked, never, quiet, zeros}
use Rattle.book.specs.Book.{Note, Book, turn, Moment, Call, all_moments}
use Rattle.book_claim.specs.Claim.{Each, Respected, Kept}

-- WP 0300h, PC 0100h, mask 4; request 3 is enabled; the read-only address as given
abbrev pub from : ℕ → Machine
from first =
    at
    (record {
      wp = 0x300;
      pc = 0x100;
      st = 4;
      flags = 0;
      psi = record { mask = 8; direction = 0; latch = 0; load = 0; decrementer = 0; reading = 0; phase = 0; pending = 0 };
      rom = first;
    })
    (poked
    (word 0x004 0x200 ∷ word 0x006 0x400  -- the vector of level 1
    ∷ word 0x400 0x481 ∷ word 0x202 0x420 ∷ word 0x402 0x500  -- X R1, where R1 has BLWP @0500h: its further word is after X
    ∷ word 0x500 0x240 ∷ word 0x502 0x600  -- the vector of the BLWP
    ∷ word 0x600 0x380 ∷ word 0x404 0x380  -- RTWP, twice
    ∷ [])
    zeros)

abbrev call : List ℕ → ℕ → Call
call rs n = record { records = rs; steps = n; stop = never }

-- INT3 low
abbrev request : ℕ
request = quiet 0 - 2 ^ 2

-- The interrupt and the BLWP; a call that is refused, for it asks for a step and has no record; the returns. The last save word is at
-- 025Eh.
abbrev pub steps : List Moment
steps =
    all_moments (from 0x260) []
    (call (request ∷ quiet 0 ∷ []) 2
    ∷ call [] 1
    ∷ call (quiet 0 ∷ quiet 0 ∷ []) 2
    ∷ [])

abbrev interrupt : Note
interrupt = record { workspace = 0x200; wp = 0x300; pc = 0x100; st = 4 }

-- the noted PC counts X's word and BLWP's further word
abbrev blwp : Note
blwp = record { workspace = 0x240; wp = 0x200; pc = 0x404; st = 0 }

-- the book after each of some steps
unfoldable pub books : List Moment → List Book
books [] = []
books (x ∷ xs) = turn x.event x.book ∷ books xs

abbrev pub ExampleHolds : Type 0
ExampleHolds =
    Each Respected steps
    × (books steps ≡ (interrupt ∷ []) ∷ (blwp ∷ interrupt ∷ []) ∷ (interrupt ∷ []) ∷ [] ∷ [])

-- The premise about the read-only part is needed: from 0200h on it has the interrupt's save words, whose stores are dropped, so that the
-- note does not stand.
abbrev pub DroppedWordsAreNotKept : Type 0
DroppedWordsAreNotKept = Each Kept (all_moments (from 0x200) [] (call (request ∷ []) 1 ∷ [])) → ⊥
