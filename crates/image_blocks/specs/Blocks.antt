-- A block while it is being built.
use Rattle.std.specs.Prelude.{ℕ, ◌+◌, ◌/◌, ◌%◌, ◌*◌, List, [], ◌∷◌, ◌++◌, slice_set}
use Rattle.machine.specs.declared.State.{State}
use Rattle.image_blocks.specs.Image.{format, edition, word_bytes, content}

-- the bytes with a word's two at a place, the high one first
unfoldable pub put_word : List ℕ → ℕ → ℕ → List ℕ
put_word b at x = slice_set (slice_set b at (x / 256 % 256)) (at + 1) (x % 256)

-- block i with its number and its content, and zeros where the check word goes
unfoldable pub unchecked : State → List ℕ → ℕ → List ℕ
unchecked s m i = (word_bytes i ++ content s m i) ++ word_bytes 0

-- the bytes with words put in as fields from number i on
unfoldable pub put_words : List ℕ → ℕ → List ℕ → List ℕ
put_words b i [] = b
put_words b i (x ∷ xs) = put_words (put_word b (2 * i + 2) x) (i + 1) xs

-- the words of block 0: the read-only address modulo 65536
unfoldable pub header_words : State → List ℕ
header_words s =
    format ∷ edition ∷ s.wp ∷ s.pc ∷ s.st ∷ s.flags
    ∷ s.psi.mask ∷ s.psi.direction ∷ s.psi.latch ∷ s.psi.load
    ∷ s.psi.decrementer ∷ s.psi.reading ∷ s.psi.phase ∷ s.psi.pending ∷ s.rom % 65536 ∷ []
