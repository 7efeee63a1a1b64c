-- The pin file: big-endian 32-bit words, first the stop address, then one record a step.
use Rattle.std.specs.Prelude.{ℕ, ◌+◌, ◌*◌, ◌%◌, List, [], ◌∷◌, take}

-- no more records than these are taken
abbrev pub most : ℕ
most = 16383

-- the word of four bytes, the highest first
unfoldable pub word : ℕ → ℕ → ℕ → ℕ → ℕ
word a b c d = (a * 256 + b) * 65536 + (c * 256 + d)

-- the whole words of a file; an incomplete last one is ignored
unfoldable pub words : List ℕ → List ℕ
words [] = []
words (a ∷ []) = []
words (a ∷ (b ∷ [])) = []
words (a ∷ (b ∷ (c ∷ []))) = []
words (a ∷ (b ∷ (c ∷ (d ∷ l)))) = word a b c d ∷ words l

-- the stop address is the low half of the first word; where there is none it is 1, which no PC is
unfoldable pub stop_in : List ℕ → ℕ
stop_in [] = 1
stop_in (w ∷ l) = w % 65536

unfoldable pub stop : List ℕ → ℕ
stop file = stop_in (words file)

-- the records are the words after the first, as many as are taken
unfoldable pub records_in : List ℕ → List ℕ
records_in [] = []
records_in (w ∷ l) = take most l

unfoldable pub records : List ℕ → List ℕ
records file = records_in (words file)
