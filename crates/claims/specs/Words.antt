-- The further words that `decode` announces are those that the microprogram fetches.
use Rattle.std.specs.Prelude.{ℕ, zero, suc, ◌+◌, ◌≡◌}
use Rattle.memory.specs.declared.Width.TheVariants.{Word}
use Rattle.isa.specs.declared.Operand.{Operand}
use Rattle.isa.specs.declared.Instruction.{Instruction}
use Rattle.isa.specs.declared.Instruction.TheVariants.{Dual, Register, Xop, Transfer, Bit, Jump, Shift, Single, Blwp, X, Immediate, Stwp, Stst, Lwpi, Limi, Control, Unassigned}
use Rattle.isa.specs.Isa.{decoded, further_words}
use Rattle.machine.specs.declared.Deed.{Deed}
use Rattle.machine.specs.State.{Machine}
use Rattle.machine.specs.Micro.{Micro, ◌>>=◌, load}
use Rattle.machine.specs.Perform.{Performed, perform, accesses, fetches}
use Rattle.machine.specs.Operands.{operand}
use Rattle.machine.specs.Execute.{instruction, execute}

-- the words that a microprogram fetches at the PC
abbrev pub words : {A : Type 0} → ℕ → Micro A → Machine → ℕ
words v p m = fetches (accesses v p m)

-- an instruction's words: those announced for it, but for X what f says
unfoldable pub counted : (Operand → ℕ) → Instruction → ℕ
counted f (X o) = f o
counted f (Dual o s d w) = further_words (Dual o s d w)
counted f (Register o s r) = further_words (Register o s r)
counted f (Xop s n) = further_words (Xop s n)
counted f (Transfer o s n) = further_words (Transfer o s n)
counted f (Bit o d) = further_words (Bit o d)
counted f (Jump o d) = further_words (Jump o d)
counted f (Shift o r n) = further_words (Shift o r n)
counted f (Single o s) = further_words (Single o s)
counted f (Blwp s) = further_words (Blwp s)
counted f (Immediate o r) = further_words (Immediate o r)
counted f (Stwp r) = further_words (Stwp r)
counted f (Stst r) = further_words (Stst r)
counted f Lwpi = further_words Lwpi
counted f Limi = further_words Limi
counted f (Control o) = further_words (Control o)
counted f Unassigned = further_words Unassigned

-- Every instruction but X fetches the words announced for it, and X what `again` fetches, which is what X does with its operand.
abbrev pub AnnouncedWordsAreFetched : Type 0
AnnouncedWordsAreFetched =
    (v : ℕ) (again : Operand → Micro Deed) (i : Instruction) (m : Machine)
    → words v (instruction again i) m ≡ counted (λ o. words v (again o) m) i

-- the word at the address of X's operand, which X executes, and the machine then
abbrev pub found : ℕ → Machine → Operand → Performed ℕ
found v m o = perform v (operand Word o >>= load Word) m

-- the further words of a word that is executed: X takes those announced for it, and then those of the word that it executes, with
-- one X fewer allowed; an X beyond the allowance takes none
unfoldable pub executed : ℕ → ℕ → ℕ → Machine → ℕ
executed zero v w m = counted (λ o. 0) (decoded w)
executed (suc k) v w m =
    counted (λ o. further_words (X o) + executed k v (found v m o).value (found v m o).machine) (decoded w)

-- Executing a word fetches those words.
abbrev pub ExecutedWordsAreFetched : Type 0
ExecutedWordsAreFetched = (v k w : ℕ) (m : Machine) → words v (execute k w) m ≡ executed k v w m
