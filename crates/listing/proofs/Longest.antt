-- No line has more than 48 bytes: four digits of the address, five bytes for each of at most three words, a space and four
-- letters, and two operands of at most eleven bytes behind a space and a comma.
use Rattle.std.specs.Prelude.{if◌then◌else◌}
use Rattle.std.proofs.Common.{◌≡◌, ℕ, ◌+◌, ◌*◌, ◌/◌, ◌%◌, ◌<◌, ◌≤◌, Bool, true, false, eqb, List, [], ◌∷◌, length, refl, arith, length-append, length-take}
use Rattle.isa.specs.declared.Operand.{Operand}
use Rattle.isa.specs.declared.Instruction.{Instruction}
use Rattle.isa.specs.declared.Instruction.TheVariants as isa
use Rattle.isa.specs.Isa.{decoded, further_words}
use Rattle.isa.specs.Words.{General, Fields}
use Rattle.isa.proofs.Words.{fields_in_range}
use Rattle.text.specs.Texts.{ascii, decimal}
use Rattle.text.proofs.Laws.{hex_length, decimal_length}
use Rattle.notation.specs.declared.Words.{Words}
use Rattle.notation.specs.declared.Notation.{Notation}
use Rattle.notation.specs.declared.Written.{Written}
use Rattle.notation.specs.declared.Operands.TheVariants.{None, One, Two}
use Rattle.notation.specs.Forms.{notation_of, general}
use Rattle.mnemonics.proofs.Lengths.{name_short}
use Rattle.operand_text.specs.Kinds as Kinds
use Rattle.operand_text.proofs.Lengths.{register_length, word_length, general_length, displacement_length}
use Rattle.listing.specs.Listing.{spaced, used, statement, line, line_of, line_at, words_at, list_refusal, ListResult, list}

pub spaced_length : (ws : List ℕ) → length (spaced ws) ≡ 5 * length ws
unfolding spaced ascii
spaced_length [] = refl
spaced_length (w ∷ ws) = rw (length-append) (omega (arith, hex_length w, spaced_length ws))

used_length : (n : ℕ) (ws : Words) → length (used n ws) ≤ 3
unfolding used
used_length n ws = rw (length-take) (omega arith)

-- no operand of an instruction's is longer than eleven bytes, of whichever kind
register_short : (r : ℕ) → r < 16 → length (Kinds.register r) ≤ 11
register_short r h = omega (arith, register_length 1 r (omega arith))

general_short : (o : Operand) (w : ℕ) → General o → length (Kinds.written (general o w)) ≤ 11
unfolding Kinds.written general
general_short o w h = general_length 1 o _ (omega (arith, h.1))

number_short : (n : ℕ) → n < 16 → length (decimal n) ≤ 11
number_short n h = omega (arith, decimal_length 1 n (omega arith))

displacement_short : (d : ℕ) → length (Kinds.displacement (d % 256)) ≤ 11
displacement_short d = omega (arith, displacement_length (d % 256) (omega arith))

word_short : (w : ℕ) → length (Kinds.word w) ≤ 11
word_short w = rw (word_length) (omega arith)

-- what follows the mnemonic: nothing, one operand or two
none : length (Kinds.operands None) ≤ 24
unfolding Kinds.operands
none = omega arith

one : (x : Written) → length (Kinds.written x) ≤ 11 → length (Kinds.operands (One x)) ≤ 24
unfolding Kinds.operands ascii
one x h = omega (arith, h)

two : (x y : Written) → length (Kinds.written x) ≤ 11 → length (Kinds.written y) ≤ 11 → length (Kinds.operands (Two x y)) ≤ 24
unfolding Kinds.operands ascii
two x y h k = rw (length-append, length-append) (omega (arith, h, k))

operands_length : (a : ℕ) (ws : Words) (i : Instruction) → Fields i → length (Kinds.operands (notation_of a ws i).operands) ≤ 24
unfolding notation_of Kinds.written
operands_length a ws (isa.Dual op s d w) f = two _ _ (general_short s _ f.0) (general_short d _ f.1)
operands_length a ws (isa.Register op s r) f = two _ _ (general_short s _ f.0) (register_short r f.1)
operands_length a ws (isa.Xop s n) f = two _ _ (general_short s _ f.0) (number_short n f.1)
operands_length a ws (isa.Transfer op o n) f = two _ _ (general_short o _ f.0) (number_short n f.1)
operands_length a ws (isa.Bit op d) f = one _ (displacement_short d)
operands_length a ws (isa.Jump op d) f = one _ (word_short _)
operands_length a ws (isa.Shift op r n) f = two _ _ (register_short r f.0) (number_short n f.1)
operands_length a ws (isa.Single op o) f = one _ (general_short o _ f)
operands_length a ws (isa.Blwp o) f = one _ (general_short o _ f)
operands_length a ws (isa.X o) f = one _ (general_short o _ f)
operands_length a ws (isa.Immediate op r) f = two _ _ (register_short r f) (word_short _)
operands_length a ws (isa.Stwp r) f = one _ (register_short r f)
operands_length a ws (isa.Stst r) f = one _ (register_short r f)
operands_length a ws isa.Lwpi f = one _ (word_short _)
operands_length a ws isa.Limi f = one _ (word_short _)
operands_length a ws (isa.Control op) f = none
operands_length a ws isa.Unassigned f = one _ (word_short _)

pub statement_length : (n : Notation) (k : ℕ) → length (Kinds.operands n.operands) ≤ k → length (statement n) ≤ 4 + k
unfolding statement
statement_length n k h = rw (length-append) (omega (arith, name_short n.mnemonic, h))

pub words_length : (n : ℕ) (ws : Words) → length (spaced (used n ws)) ≤ 15
words_length n ws = omega (arith, spaced_length (used n ws), used_length n ws)

line_length : (a : ℕ) (ws : Words) → length (line_of a ws) ≤ 48
unfolding line_of line ascii
line_length a ws =
    let i = decoded ws.first in
    let said = statement_length (notation_of a ws i) 24 (operands_length a ws i (fields_in_range ws.first)) in
    rw (length-append, length-append, length-append) (omega (arith, hex_length a, words_length (further_words i) ws, said))

pub line_short : (m : List ℕ) (a : ℕ) → length (line_at m a) ≤ 48
unfolding line_at
line_short m a = line_length (a / 2 * 2) (words_at m (a / 2 * 2))

either : (b : Bool) (x y : ListResult) → x.answer.length ≤ 48 → y.answer.length ≤ 48 → (if b then x else y).answer.length ≤ 48
either true x y h k = h
either false x y h k = k

-- so is the length that a call reports; a refusal's is 0
pub answer_short : (m : List ℕ) (a : ℕ) (text : List ℕ) → (list m a text).answer.length ≤ 48
unfolding list
answer_short m a text = either (eqb (list_refusal m text) 0) _ _ (line_short m a) (omega arith)
