-- What holds of every line: how long it is, and that its number of words is the number that the machine fetches.
use Rattle.std.specs.Prelude.{ℕ, suc, ◌+◌, ◌≤◌, ◌≡◌, List, length}
use Rattle.memory.specs.declared.Width.TheVariants.{Word}
use Rattle.memory.specs.Memory.{loaded}
use Rattle.isa.specs.declared.Operand.{Operand}
use Rattle.isa.specs.declared.Instruction.{Instruction}
use Rattle.isa.specs.declared.Instruction.TheVariants.{Dual, Register, Xop, Transfer, Bit, Jump, Shift, Single, Blwp, X, Immediate, Stwp, Stst, Lwpi, Limi, Control, Unassigned}
use Rattle.isa.specs.Isa.{decoded}
use Rattle.machine.specs.State.{Machine}
use Rattle.machine.specs.Micro.{◌>>=◌, fetched}
use Rattle.machine.specs.Perform.{after_fetch}
use Rattle.machine.specs.Execute.{execute}
use Rattle.claims.specs.Words.{words, found}
use Rattle.listing.specs.Listing.{line_at, word_count, least_buffer}

-- Every line fits the smallest buffer.
abbrev pub LinesFit : Type 0
LinesFit = (m : List ℕ) (a : ℕ) → length (line_at m a) ≤ least_buffer

-- what f says of X's operand, and 0 for every other instruction
unfoldable pub for_x : (Operand → ℕ) → Instruction → ℕ
for_x f (X o) = f o
for_x f (Dual o s d w) = 0
for_x f (Register o s r) = 0
for_x f (Xop s n) = 0
for_x f (Transfer o s n) = 0
for_x f (Bit o d) = 0
for_x f (Jump o d) = 0
for_x f (Shift o r n) = 0
for_x f (Single o s) = 0
for_x f (Blwp s) = 0
for_x f (Immediate o r) = 0
for_x f (Stwp r) = 0
for_x f (Stst r) = 0
for_x f Lwpi = 0
for_x f Limi = 0
for_x f (Control o) = 0
for_x f Unassigned = 0

-- the words of what X executes: the word at its operand's address, once that is read, with one X fewer allowed
unfoldable pub executed_by_x : ℕ → ℕ → Machine → Operand → ℕ
executed_by_x v k m o = words v (execute k (found v m o).value) (found v m o).machine

-- The instruction at the PC fetches as many words as are reported for it, its first included; where it is X, those of the word that
-- it executes come on top. (Not more is said of them: an instruction may store over its own further words before it fetches them.)
abbrev pub WordCountIsFetched : Type 0
WordCountIsFetched =
    (v k : ℕ) (m : Machine)
    → words v (fetched >>= execute (suc k)) m
    ≡ word_count m.memory m.state.pc + for_x (executed_by_x v k (after_fetch m)) (decoded (loaded Word m.memory m.state.pc))
