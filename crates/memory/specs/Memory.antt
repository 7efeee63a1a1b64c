-- The lent memory: bytes, big-endian words, and where an access begins.
use Rattle.std.specs.Prelude.{ℕ, zero, suc, ◌+◌, ◌*◌, ◌/◌, ◌%◌, ◌<◌, ◌≡◌, Bool, true, false, not, ◌&&◌, ◌||◌, List, [], ◌∷◌, length, get_or, set, eqb}
use Rattle.memory.specs.declared.Width.{Width}
use Rattle.memory.specs.declared.Width.TheVariants.{Byte, Word}

-- Memory is exactly this many bytes.
abbrev pub size : ℕ
size = 16384

abbrev pub Installed : List ℕ → Type 0
Installed m = length m ≡ size

-- every element is a byte
abbrev pub Bytes : List ℕ → Type 0
Bytes m = (i : ℕ) → get_or m i 0 < 256

-- how many bytes an operand of a width has
abbrev pub bytes : Width → ℕ
bytes Byte = 1
bytes Word = 2

-- how many values an operand of a width can have
abbrev pub modulus : Width → ℕ
modulus Byte = 256
modulus Word = 65536

-- The first byte of an access: a word's address loses its lowest bit, and every address is taken modulo the memory's size.
unfoldable pub place : Width → ℕ → ℕ
place w a = a / bytes w * bytes w % size

-- the number that k bytes from p on are, the highest byte first
unfoldable pub number : ℕ → List ℕ → ℕ → ℕ
number zero m p = 0
number (suc k) m p = number k m p * 256 + get_or m (p + k) 0

-- the memory with the lowest k bytes of v from p on, the highest byte first
unfoldable pub spread : ℕ → List ℕ → ℕ → ℕ → List ℕ
spread zero m p v = m
spread (suc k) m p v = set (spread k m p (v / 256)) (p + k) (v % 256)

-- what an access of a width at an address reads
unfoldable pub loaded : Width → List ℕ → ℕ → ℕ
loaded w m a = number (bytes w) m (place w a)

-- the memory after an access of a width stored v at an address
unfoldable pub stored : Width → List ℕ → ℕ → ℕ → List ℕ
stored w m a v = spread (bytes w) m (place w a) v

-- the k places from p on
unfoldable pub places : ℕ → ℕ → List ℕ
places zero p = []
places (suc k) p = p ∷ places k (suc p)

-- the places of the bytes that an access of a width at an address reads or stores
unfoldable pub touched : Width → ℕ → List ℕ
touched w a = places (bytes w) (place w a)

-- whether a place is one of these
unfoldable pub covers : ℕ → List ℕ → Bool
covers i [] = false
covers i (p ∷ ps) = eqb i p || covers i ps

-- whether two lists have no place in common
unfoldable pub disjoint : List ℕ → List ℕ → Bool
disjoint [] qs = true
disjoint (p ∷ ps) qs = not (covers p qs) && disjoint ps qs
