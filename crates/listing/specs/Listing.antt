-- The listing: the line of the instruction at an address, and the call that writes it into a lent buffer.
use Rattle.std.specs.Prelude.{ℕ, suc, ◌+◌, ◌*◌, ◌/◌, ◌%◌, not, List, [], ◌∷◌, ◌++◌, length, take, drop, ◌==◌, nat_lt, if◌then◌else◌, Result, Ok, Err}
use Rattle.memory.specs.declared.Width.TheVariants.{Word}
use Rattle.memory.specs.Memory.{size, loaded}
use Rattle.isa.specs.Isa.{decoded, further_words}
use Rattle.text.specs.Texts.{ascii, hex}
use Rattle.notation.specs.declared.Words.{Words}
use Rattle.notation.specs.declared.Notation.{Notation}
use Rattle.notation.specs.Forms.{notation_of}
use Rattle.mnemonics.specs.Spelling.{name}
use Rattle.operand_text.specs.Kinds.{operands}
use Rattle.refusals.specs.declared.Refusal.{Refusal}
use Rattle.refusals.specs.Refusals as Refusals
use Rattle.listing.specs.declared.Line.{Line}

-- each of these words behind a space
unfoldable pub spaced : List ℕ → List ℕ
spaced [] = []
spaced (w ∷ ws) = ascii " " ++ hex w ++ spaced ws

-- the words that an instruction takes: its first and the further ones
unfoldable pub used : ℕ → Words → List ℕ
used further ws = take (suc further) (ws.first ∷ ws.second ∷ ws.third ∷ [])

-- an instruction as it is written: mnemonic and operands
unfoldable pub statement : Notation → List ℕ
statement n = ascii (name n.mnemonic) ++ operands n.operands

-- a line: address, words and instruction, one space apart
unfoldable pub line : ℕ → List ℕ → Notation → List ℕ
line a ws n = hex a ++ spaced ws ++ ascii " " ++ statement n

-- the three words from an address on; the addresses wrap at 65536
unfoldable pub words_at : List ℕ → ℕ → Words
words_at m a =
    record { first = loaded Word m a; second = loaded Word m ((a + 2) % 65536); third = loaded Word m ((a + 4) % 65536) }

-- how many words the instruction at an address takes; the address loses its lowest bit
unfoldable pub word_count : List ℕ → ℕ → ℕ
word_count m a = suc (further_words (decoded (words_at m (a / 2 * 2)).first))

-- the line of the instruction at an even address, where three words stand
unfoldable pub line_of : ℕ → Words → List ℕ
line_of a ws = line a (used (further_words (decoded ws.first)) ws) (notation_of a ws (decoded ws.first))

-- the line of the instruction at an address; the address loses its lowest bit
unfoldable pub line_at : List ℕ → ℕ → List ℕ
line_at m a = line_of (a / 2 * 2) (words_at m (a / 2 * 2))

-- a buffer has at least so many bytes
abbrev pub least_buffer : ℕ
least_buffer = 48

-- The refusals in the order checked: 1 memory's size, 11 a shorter buffer, even where the line would fit.
unfoldable pub list_refusal : List ℕ → List ℕ → ℕ
list_refusal m text =
    if not (length m == size) then 1
    else if nat_lt (length text) least_buffer then 11
    else 0

-- what is reported: the number of the refusal or 0, how many bytes the line has, and how many words its instruction takes
pub record ListAnswer : Type 0 where
  pub number : ℕ
  pub length : ℕ
  pub words : ℕ

-- a call's outcome as that answer: zeros beside a refusal's number
unfoldable pub list_answer : Result Line Refusal → ListAnswer
list_answer (Ok l) = record { number = 0; length = l.length; words = l.words }
list_answer (Err r) = record { number = Refusals.number r; length = 0; words = 0 }

pub record ListResult : Type 0 where
  pub answer : ListAnswer
  pub text : List ℕ

-- The line stands at the buffer's start, and the bytes after it stay. Reported are how many bytes it has and how many words it
-- is of. A refusal stores nothing and reports zeros.
unfoldable pub list : List ℕ → ℕ → List ℕ → ListResult
list m a text =
    if list_refusal m text == 0
    then record {
      answer = record { number = 0; length = length (line_at m a); words = word_count m a };
      text = line_at m a ++ drop (length (line_at m a)) text;
    }
    else record { answer = record { number = list_refusal m text; length = 0; words = 0 }; text = text }
