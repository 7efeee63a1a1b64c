-- The words of a microprogram followed by another are those of both; `AnnouncedWordsAreFetched` has those of each instruction.
use Prim.Native.Nat.{ℕ, suc, ◌+◌, ◌*◌, ◌/◌, ◌%◌}
use mathlib.Core.Path.{◌≡◌, ap, ◌∙◌}
use mathlib.Core.List.{List}
use native.Mathlib.Omega.{arith}
use native.Mathlib.Nat.{add-zero}
use Rattle.memory.specs.declared.Width.TheVariants.{Word}
use Rattle.memory.specs.Memory.{place, loaded, number}
use Rattle.isa.specs.declared.Operand.{Operand}
use Rattle.isa.specs.declared.Instruction.{Instruction}
use Rattle.isa.specs.declared.Instruction.TheVariants.{Dual, Register, Xop, Transfer, Bit, Jump, Shift, Single, Blwp, X, Immediate, Stwp, Stst, Lwpi, Limi, Control, Unassigned}
use Rattle.isa.specs.Isa.{decoded, further_words}
use Rattle.machine.specs.State.{Machine}
use Rattle.machine.specs.declared.Deed.{Deed}
use Rattle.machine.specs.Micro.{Micro, ◌>>=◌, fetched}
use Rattle.machine.specs.Perform.{perform, after_fetch}
use Rattle.machine.specs.Execute.{instruction, execute_by, again, execute}
use Rattle.claims.specs.Words.{words, counted}
use Rattle.claims.proofs.Words.{words_bind, of_fetched, of_load, of_operand, announced_words_are_fetched}
use Rattle.listing.specs.Listing.{word_count, words_at}
use Rattle.listing.proofs.Longest.{line_short}
use Rattle.listing_claims.specs.Claims.{for_x, executed_by_x, LinesFit, WordCountIsFetched}

pub lines_fit : LinesFit
lines_fit = line_short

-- a word's address loses its lowest bit anyway
even_too : (m : List ℕ) (a : ℕ) → loaded Word m (a / 2 * 2) ≡ loaded Word m a
unfolding loaded place
even_too m a = ap (λ (x : ℕ). number 2 m (x % 16384)) (omega arith)

reported : (m : Machine) → word_count m.memory m.state.pc ≡ suc (further_words (decoded (loaded Word m.memory m.state.pc)))
unfolding word_count words_at
reported m = ap (λ (w : ℕ). suc (further_words (decoded w))) (even_too m.memory m.state.pc)

-- where f has for X the words announced for it and g more
with_more : (f g : Operand → ℕ) (i : Instruction) → ((o : Operand) → f o ≡ further_words (X o) + g o) → counted f i ≡ further_words i + for_x g i
unfolding counted for_x
with_more f g (X o) h = h o
with_more f g (Dual o s d w) h = omega arith
with_more f g (Register o s r) h = omega arith
with_more f g (Xop s n) h = omega arith
with_more f g (Transfer o s n) h = omega arith
with_more f g (Bit o d) h = omega arith
with_more f g (Jump o d) h = omega arith
with_more f g (Shift o r n) h = omega arith
with_more f g (Single o s) h = omega arith
with_more f g (Blwp s) h = omega arith
with_more f g (Immediate o r) h = omega arith
with_more f g (Stwp r) h = omega arith
with_more f g (Stst r) h = omega arith
with_more f g Lwpi h = omega arith
with_more f g Limi h = omega arith
with_more f g (Control o) h = omega arith
with_more f g Unassigned h = omega arith

-- the first word, and then those of its instruction
first_too : (v : ℕ) (again : Operand → Micro Deed) (m : Machine)
    → words v (fetched >>= execute_by again) m
    ≡ suc (words v (instruction again (decoded (loaded Word m.memory m.state.pc))) (after_fetch m))
unfolding perform fetched
first_too v again m = words_bind v fetched (execute_by again) m ∙ rw (of_fetched) (omega arith)

-- X takes its operand's words, and then those of the word that it executes
x_words : (v k : ℕ) (m : Machine) (o : Operand) → words v (again (suc k) o) m ≡ further_words (X o) + executed_by_x v k m o
unfolding again execute executed_by_x further_words
x_words v k m o = rw (words_bind, words_bind, of_operand, of_load, add-zero)

pub word_count_is_fetched : WordCountIsFetched
unfolding execute
word_count_is_fetched v k m =
    let i = decoded (loaded Word m.memory m.state.pc) in
    let more = for_x (executed_by_x v k (after_fetch m)) i in
    let first : suc (further_words i + more) ≡ word_count m.memory m.state.pc + more = omega (arith, reported m) in
    first_too v (again (suc k)) m
    ∙ ap suc (announced_words_are_fetched v (again (suc k)) i (after_fetch m) ∙ with_more _ _ i (x_words v k (after_fetch m)))
    ∙ first
