-- A worked example of Q-12's case: level 1 is entered and at once idles by X, idles on, and is woken by LOAD, in two calls. The premises
-- hold of it, so the claim is not empty. Two of LOAD's save words are read-only (Q-7).
use Rattle.std.specs.Prelude.{ℕ, ◌-◌, ◌^◌, ◌≤◌, ◌≡◌, List, [], ◌∷◌}
use Rattle.memory.specs.declared.Width.TheVariants.{Word}
use Rattle.memory.specs.Memory.{loaded}
use Rattle.machine.specs.State.{Machine, at}
use Rattle.machine.specs.Run.{run}
use Rattle.machine.specs.Cases.{word, poked, never, quiet, zeros}
use Rattle.book.specs.Book.{Moment, Call, call_machine, all_moments}
use Rattle.book_claim.specs.Claim.{Seen, calls, Chained}
use Rattle.call_claims.specs.Calls.{Throughout, Formed}

-- WP 0300h, PC 0100h, mask 4; requests 2 and 3 are enabled; read-only from 025Ch on
abbrev start : Machine
start =
    at
    (record {
      wp = 0x300;
      pc = 0x100;
      st = 4;
      flags = 0;
      psi = record { mask = 0xC; direction = 0; latch = 0; load = 0; decrementer = 0; reading = 0; phase = 0; pending = 0 };
      rom = 0x25C;
    })
    (poked
    (word 0x0004 0x0200 ∷ word 0x0006 0x0400  -- the vector of level 1
    ∷ word 0x0400 0x0481 ∷ word 0x0202 0x0340  -- X R1, where R1 has IDLE
    ∷ word 0x3FFC 0x0240 ∷ word 0x3FFE 0x0440  -- the vector of LOAD
    ∷ [])
    zeros)

-- what is observed of a call
abbrev observed : Machine → Call → Seen
observed m c =
    record {
      call = c;
      answer = (run m.memory m.state c.records c.steps c.stop).answer;
      memory = (run m.memory m.state c.records c.steps c.stop).memory;
    }

-- INT3 low, IDLE, an idle step; an idle step, though INT3 is low, for the mask is 0; INT2 low
abbrev first : Call
first = record { records = (quiet 0 - 2 ^ 2) ∷ quiet 0 ∷ quiet 0 ∷ []; steps = 3; stop = never }

abbrev second : Call
second = record { records = (quiet 0 - 2 ^ 2) ∷ (quiet 0 - 2 ^ 1) ∷ []; steps = 2; stop = never }

abbrev seen : List Seen
seen = observed start first ∷ observed (call_machine start first) second ∷ []

-- the flags after each of some steps
unfoldable pub flags_after : List Moment → List ℕ
flags_after [] = []
flags_after (x ∷ xs) = x.after.state.flags ∷ flags_after xs

-- LOAD's save words after both calls; level 1's WP is 0200h, and its PC and ST are not 0 then
abbrev below_and_above : List ℕ
below_and_above =
    let m : List ℕ = (call_machine (call_machine start first) second).memory in
    loaded Word m 0x25A ∷ loaded Word m 0x25C ∷ loaded Word m 0x25E ∷ []

-- No-sample, then idle alone, then no-sample. `Throughout` looks at every step: the first call ends with idle alone, but that a machine
-- has nothing but idle does not hold throughout it.
abbrev pub ExampleHolds : Type 0
ExampleHolds =
    Formed start
    × Chained start.state start.memory seen
    × (flags_after (all_moments start [] (calls seen)) ≡ 2 ∷ 1 ∷ 1 ∷ 1 ∷ 2 ∷ [])
    × ((call_machine start first).state.flags ≡ 1)
    × (below_and_above ≡ 0x0200 ∷ 0 ∷ 0 ∷ [])
    × (Throughout (λ m. m.state.flags ≤ 1) start.state start.memory (observed start first ∷ []) → ⊥)
