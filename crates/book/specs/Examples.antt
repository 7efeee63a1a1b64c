-- Examples of the book's rules, as one table under one claim: a machine, its book, calls, and the book after them, written out.
use Rattle.std.specs.Prelude.{ℕ, ◌-◌, ◌^◌, ◌≡◌, List, [], ◌∷◌}
use Rattle.machine.specs.State.{Machine, at, no_rom}
use Rattle.machine.specs.Cases.{word, poked, never, quiet, zeros}
use Rattle.book.specs.Book.{Note, Book, moment, Call, all_moments, book_after}

-- the vectors, two words each, and instructions at addresses of their own
abbrev memory : List ℕ
memory =
    poked
    (word 0x0000 0x0200 ∷ word 0x0002 0x0400  -- reset
    ∷ word 0x0004 0x0220 ∷ word 0x0006 0x0420  -- level 1
    ∷ word 0x3FFC 0x0240 ∷ word 0x3FFE 0x0440  -- LOAD
    ∷ word 0x0044 0x0260 ∷ word 0x0046 0x0460  -- XOP 1
    ∷ word 0x0500 0x0280 ∷ word 0x0502 0x0480  -- the operand of BLWP
    ∷ word 0x0100 0x03A0  -- CKON
    ∷ word 0x0110 0x2C41  -- XOP R1,1
    ∷ word 0x0120 0x0420 ∷ word 0x0122 0x0500  -- BLWP @0500h
    ∷ word 0x0130 0x04A0 ∷ word 0x0132 0x0304 ∷ word 0x0134 0x0500  -- X @0304h, that is R2, and the further word of what it executes
    ∷ word 0x0304 0x0420  -- R2: BLWP @
    ∷ word 0x0140 0x0380  -- RTWP
    ∷ word 0x0150 0x0483  -- X R3
    ∷ word 0x0306 0x0380  -- R3: RTWP
    ∷ word 0x0170 0x0340  -- IDLE
    ∷ word 0x0480 0x0380  -- RTWP, where BLWP leads to
    ∷ word 0x0124 0x2C41  -- XOP R1,1, after BLWP
    ∷ [])
    zeros

-- WP 0300h, ST 0004h, PC and the read-only address as given; requests 1, 2 and 3 are enabled
abbrev from : ℕ → ℕ → Machine
from first pc =
    at
    (record {
      wp = 0x300;
      pc = pc;
      st = 4;
      flags = 0;
      psi = record { mask = 0xE; direction = 0; latch = 0; load = 0; decrementer = 0; reading = 0; phase = 0; pending = 0 };
      rom = first;
    })
    memory

-- pin INTn low, all others high, no cycles
abbrev low : ℕ → ℕ
low n = quiet 0 - 2 ^ (n - 1)

-- a call that asks for so many steps and has these records
abbrev call : ℕ → List ℕ → Call
call n rs = record { records = rs; steps = n; stop = never }

-- a note of the machine above: the new WP and the PC
abbrev noted : ℕ → ℕ → Note
noted workspace pc = record { workspace = workspace; wp = 0x300; pc = pc; st = 4 }

-- a book with two entries open
abbrev latest : Note
latest = record { workspace = 0x340; wp = 0x360; pc = 0x600; st = 0xC001 }

abbrev earlier : Note
earlier = record { workspace = 0x360; wp = 0x380; pc = 0x700; st = 0x2002 }

abbrev two : Book
two = latest ∷ earlier ∷ []

-- a row: the read-only address, where the machine is, its book, calls one after the other, and the book after them
pub record Row : Type 0 where
  pub rom : ℕ
  pub pc : ℕ
  pub book : Book
  pub calls : List Call
  pub after : Book

-- a row with one call, and nothing read-only
abbrev row : ℕ → Book → Call → Book → Row
row pc book c after = record { rom = no_rom; pc = pc; book = book; calls = c ∷ []; after = after }

unfoldable pub table : List Row
table =
    -- level 1, LOAD, XOP, BLWP, BLWP through X
    row 0x100 [] (call 1 (low 3 ∷ [])) (noted 0x220 0x100 ∷ [])
    ∷ row 0x100 two (call 1 (low 2 ∷ [])) (noted 0x240 0x100 ∷ two)
    ∷ row 0x110 [] (call 1 (quiet 0 ∷ [])) (noted 0x260 0x112 ∷ [])
    ∷ row 0x120 two (call 1 (quiet 0 ∷ [])) (noted 0x280 0x124 ∷ two)
    ∷ row 0x130 [] (call 1 (quiet 0 ∷ [])) (noted 0x280 0x136 ∷ [])
    -- RTWP, RTWP through X, RTWP with no entry open
    ∷ row 0x140 two (call 1 (quiet 0 ∷ [])) (earlier ∷ [])
    ∷ row 0x150 two (call 1 (quiet 0 ∷ [])) (earlier ∷ [])
    ∷ row 0x140 [] (call 1 (quiet 0 ∷ [])) []
    -- reset, with two entries open
    ∷ row 0x100 two (call 1 (low 1 ∷ [])) []
    -- a call that is refused, for it asks for two steps and has one record; the pins would have it reset
    ∷ row 0x100 two (call 2 (low 1 ∷ [])) two
    -- CKON; an unassigned word; IDLE, and an idle step
    ∷ row 0x100 two (call 1 (quiet 0 ∷ [])) two
    ∷ row 0x160 two (call 1 (quiet 0 ∷ [])) two
    ∷ row 0x170 two (call 2 (quiet 0 ∷ quiet 0 ∷ [])) two
    -- BLWP, RTWP and XOP in one call; the same one, stopped before its last step
    ∷ row 0x120 two (call 3 (quiet 0 ∷ quiet 0 ∷ quiet 0 ∷ [])) (noted 0x260 0x126 ∷ two)
    ∷ row 0x120 two (record { records = quiet 0 ∷ quiet 0 ∷ quiet 0 ∷ []; steps = 3; stop = 0x124 }) two
    -- BLWP in a call, a refused call whose pins would have it reset, RTWP in a third call
    ∷ record {
      rom = no_rom;
      pc = 0x120;
      book = two;
      calls = call 1 (quiet 0 ∷ []) ∷ call 2 (low 1 ∷ []) ∷ call 1 (quiet 0 ∷ []) ∷ [];
      after = two;
    }
    -- the same BLWP where its save words, from 029Ah on, are read-only, and so dropped: the note is as before
    ∷ record { rom = 0x29A; pc = 0x120; book = two; calls = call 1 (quiet 0 ∷ []) ∷ []; after = noted 0x280 0x124 ∷ two }
    -- level 1 with all its save words dropped; the same call refused, for an odd read-only address
    ∷ record { rom = 0x200; pc = 0x100; book = []; calls = call 1 (low 3 ∷ []) ∷ []; after = noted 0x220 0x100 ∷ [] }
    ∷ record { rom = 0x201; pc = 0x100; book = two; calls = call 1 (low 3 ∷ []) ∷ []; after = two }
    ∷ []

-- the book after a row's calls
unfoldable pub left : Row → Book
left r = book_after r.book (all_moments (from r.rom r.pc) r.book r.calls)

unfoldable pub Hold : List Row → Type 0
Hold [] = Unit
Hold (r ∷ rs) = (left r ≡ r.after) × Hold rs

-- the claim
abbrev pub ExamplesHold : Type 0
ExamplesHold = Hold table

-- Which bytes BLWP stores into (Q-7): those of its save words, and where memory is read-only from the second of these on, the first's.
abbrev pub StoresHold : Type 0
StoresHold =
    ((moment (quiet 0) (from no_rom 0x120) []).writes ≡ 0x29A ∷ 0x29B ∷ 0x29C ∷ 0x29D ∷ 0x29E ∷ 0x29F ∷ [])
    × ((moment (quiet 0) (from 0x29C 0x120) []).writes ≡ 0x29A ∷ 0x29B ∷ [])
