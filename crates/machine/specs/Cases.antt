-- Cases: a start, pin records, and what the run must leave. Whether a case holds is a truth value computed from the definitions.
use Rattle.std.specs.Prelude.{ℕ, ◌+◌, ◌-◌, ◌*◌, ◌^◌, Bool, true, false, ◌&&◌, List, [], ◌∷◌, length, replicate, ◌==◌}
use Rattle.memory.specs.declared.Width.TheVariants.{Word}
use Rattle.memory.specs.Memory.{size, stored}
use Rattle.psi.specs.declared.Psi.{Psi}
use Rattle.psi.specs.Clock.{advanced}
use Rattle.psi.specs.Pins.{code}
use Rattle.machine.specs.declared.State.{State}
use Rattle.machine.specs.Answer.{number, value}
use Rattle.machine.specs.Run.{RunResult, run, RunAnswer}
use Rattle.machine.specs.Rules as Rules

-- a word at an address
pub record Poke : Type 0 where
  pub at : ℕ
  pub word : ℕ

abbrev pub word : ℕ → ℕ → Poke
word a x = record { at = a; word = x }

-- a memory with these words put into it, the last one first
unfoldable pub poked : List Poke → List ℕ → List ℕ
poked [] m = m
poked (p ∷ ps) m = stored Word (poked ps m) p.at p.word

abbrev pub zeros : List ℕ
zeros = replicate size 0

pub data Case : Type 0 where
  -- from a state and a memory, the records one by one, no stop: the answer, and the words put into that memory; every other
  -- byte stays
  replayed : State → List ℕ → List ℕ → RunAnswer → List Poke → Case
  -- the pending flag after so many cycles
  clocked : Psi → ℕ → ℕ → Case
  -- the request code at these levels
  coded : Psi → ℕ → ℕ → Case

unfoldable pub same_psi : Psi → Psi → Bool
same_psi p q =
    (p.mask == q.mask)
    && (p.direction == q.direction
    && (p.latch == q.latch
    && (p.load == q.load
    && (p.decrementer == q.decrementer
    && (p.reading == q.reading
    && (p.phase == q.phase
    && p.pending == q.pending))))))

unfoldable pub same_answer : RunAnswer → RunAnswer → Bool
same_answer a b =
    (a.number == b.number)
    && (a.steps == b.steps
    && (a.unassigned == b.unassigned
    && (a.state.wp == b.state.wp
    && (a.state.pc == b.state.pc
    && (a.state.st == b.state.st
    && (a.state.flags == b.state.flags
    && (a.state.rom == b.state.rom
    && (same_psi a.state.psi b.state.psi
    && (number a.last == number b.last
    && value a.last == value b.last)))))))))

-- two memories byte by byte
unfoldable pub same_bytes : List ℕ → List ℕ → Bool
same_bytes [] [] = true
same_bytes [] (y ∷ ys) = false
same_bytes (x ∷ xs) [] = false
same_bytes (x ∷ xs) (y ∷ ys) = elim (x == y) [ true ↦ same_bytes xs ys | false ↦ false ]

-- no stop address: an odd one
abbrev pub never : ℕ
never = 1

unfoldable pub holds : Case → Bool
holds (replayed s start records answer after) = judge (run start s records (length records) never)
  where
    judge : RunResult → Bool
    judge r = same_answer r.answer answer && same_bytes r.memory (poked after start)
holds (clocked p n pending) = (advanced n p).pending == pending
holds (coded p v c) = code p v == c

-- whether every case holds; it is computed from the rules, which the line below opens
unfoldable pub every : List Case → Bool
unfolding Rules.all poked same_psi same_answer same_bytes holds
every [] = true
every (c ∷ cs) = elim (holds c) [ true ↦ every cs | false ↦ false ]

-- all pins high, so many cycles
abbrev pub quiet : ℕ → ℕ
quiet cycles = 2 ^ 22 - 1 + cycles * 2 ^ 22
