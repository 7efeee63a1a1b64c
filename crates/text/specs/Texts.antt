-- Text as ASCII codes, numbers as text, and an array that a text is put together in.
use Rattle.std.specs.Prelude.{ℕ, zero, suc, ◌+◌, ◌/◌, ◌%◌, ◌≤◌, ◌≡◌, List, [], ◌∷◌, ◌++◌, length, take, drop, replicate, ltb, if◌then◌else◌}
use Prim.Native.Char.{code}
use Prim.Native.String.{String, [] as []ˢ, ◌∷◌ as ◌∷ˢ◌}
use Rattle.text.specs.declared.Text.{Text}

-- the codes of a quoted text
unfoldable pub ascii : String → List ℕ
ascii []ˢ = []
ascii (c ∷ˢ s) = code c ∷ ascii s

-- a digit below 16: `0` to `9`, then `A` to `F`
unfoldable pub glyph : ℕ → ℕ
glyph d = if ltb d 10 then (0x30 + d) else (0x37 + d)

-- a word as four upper-case hexadecimal digits
unfoldable pub hex : ℕ → List ℕ
hex x = glyph (x / 0x1000 % 16) ∷ glyph (x / 0x100 % 16) ∷ glyph (x / 0x10 % 16) ∷ glyph (x % 16) ∷ []

-- a number in decimal with no zeros in front, of at most `f` + 1 digits
unfoldable pub decimal_in : ℕ → ℕ → List ℕ
decimal_in zero n = glyph n ∷ []
decimal_in (suc f) n = if ltb n 10 then (glyph n ∷ []) else (decimal_in f (n / 10) ++ (glyph (n % 10) ∷ []))

-- a number in decimal: it has no more digits than its value, and one for 0
unfoldable pub decimal : ℕ → List ℕ
decimal n = decimal_in n n

-- the bytes of a text's array
abbrev pub capacity : ℕ
capacity = 128

-- an array of that size, with room for n bytes behind the text
abbrev pub Room : Text → ℕ → Type 0
Room x n = (length x.bytes ≡ capacity) × (x.length + n ≤ capacity)

-- a text within its array
abbrev pub Held : Text → Type 0
Held x = Room x 0

-- a text that grew by at most n bytes, in its array
abbrev pub Grown : Text → Text → ℕ → Type 0
Grown x y n = (length y.bytes ≡ length x.bytes) × (y.length ≤ x.length + n)

-- no text yet
unfoldable pub empty : Text
empty = record { bytes = replicate capacity 0; length = 0 }

-- a text with these bytes behind it; the bytes after them stay
unfoldable pub appended : Text → List ℕ → Text
appended x p =
    record {
      bytes = take x.length x.bytes ++ p ++ drop (x.length + length p) x.bytes;
      length = x.length + length p;
    }

-- the text that an array holds
unfoldable pub content : Text → List ℕ
content x = take x.length x.bytes
