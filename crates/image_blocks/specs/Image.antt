-- The image: 34 blocks of 512 bytes, each with its number, its content and its check word.
use Rattle.std.specs.Prelude.{ℕ, zero, suc, ◌+◌, ◌-◌, ◌*◌, ◌/◌, ◌%◌, Bool, true, not, ◌&&◌, List, [], ◌∷◌, ◌++◌, length, take, drop, replicate, ◌==◌, slice_index, if◌then◌else◌}
use Rattle.psi.specs.declared.Psi.{Psi}
use Rattle.machine.specs.declared.State.{State}
use Rattle.machine.specs.State.{no_rom}
use Rattle.memory.specs.Memory.{size}

abbrev pub block_count : ℕ
block_count = 34

abbrev pub block_size : ℕ
block_size = 512

-- what a block carries besides its number and its check word
abbrev pub content_size : ℕ
content_size = block_size - 4

-- where a block's check word begins
abbrev pub check_at : ℕ
check_at = block_size - 2

abbrev pub image_size : ℕ
image_size = block_count * block_size

-- the blocks that carry memory
abbrev pub page_count : ℕ
page_count = block_count - 1

-- the two bytes of a word, the high one first
abbrev pub word_bytes : ℕ → List ℕ
word_bytes x = x / 256 % 256 ∷ x % 256 ∷ []

unfoldable pub words_bytes : List ℕ → List ℕ
words_bytes [] = []
words_bytes (x ∷ xs) = word_bytes x ++ words_bytes xs

-- the word whose first byte is byte i
unfoldable pub word_at : List ℕ → ℕ → ℕ
word_at b i = slice_index b i * 256 + slice_index b (i + 1)

-- the sum of the words that a list of bytes is
unfoldable pub words_sum : List ℕ → ℕ
words_sum [] = 0
words_sum (a ∷ []) = 0
words_sum (a ∷ (b ∷ l)) = a * 256 + b + words_sum l

-- a list and zeros after it, n bytes in all
unfoldable pub padded : ℕ → List ℕ → List ℕ
padded n l = l ++ replicate (n - length l) 0

abbrev pub format : ℕ
format = 0x9901

-- the edition that is written (document 02, Q-7)
abbrev pub edition : ℕ
edition = 2

-- the edition before it, which has no read-only address
abbrev pub first_edition : ℕ
first_edition = 1

-- the words that hold a PSI, one a field
abbrev pub psi_words : ℕ
psi_words = 8

-- the fields of block 0: format, edition, WP, PC, ST, flags, then the PSI's, and in edition 2 the read-only address
abbrev pub psi_field : ℕ
psi_field = 6

abbrev pub rom_field : ℕ
rom_field = psi_field + psi_words

abbrev pub field_count : ℕ
field_count = rom_field + 1

-- The fields of block 0, after format and edition.
unfoldable pub fields : State → List ℕ
fields s =
    s.wp ∷ s.pc ∷ s.st ∷ s.flags
    ∷ s.psi.mask ∷ s.psi.direction ∷ s.psi.latch ∷ s.psi.load
    ∷ s.psi.decrementer ∷ s.psi.reading ∷ s.psi.phase ∷ s.psi.pending ∷ s.rom ∷ []

-- Block 0 holds the fields, then zeros; blocks 1 to 33 hold memory, the last 128 bytes, then zeros.
unfoldable pub content : State → List ℕ → ℕ → List ℕ
content s m zero = padded content_size (words_bytes (format ∷ edition ∷ fields s))
content s m (suc i) = padded content_size (take content_size (drop (content_size * i) m))

-- The check word makes the block's 256 words sum to 65535 modulo 65536.
unfoldable pub checked : List ℕ → List ℕ
checked body = body ++ word_bytes (65535 - words_sum body % 65536)

unfoldable pub block : State → List ℕ → ℕ → List ℕ
block s m i = checked (word_bytes i ++ content s m i)

-- the k blocks from number i on
unfoldable pub blocks : State → List ℕ → ℕ → ℕ → List ℕ
blocks s m zero i = []
blocks s m (suc k) i = block s m i ++ blocks s m k (i + 1)

unfoldable pub image : State → List ℕ → List ℕ
image s m = blocks s m block_count 0

-- the parts of an image
unfoldable pub block_of : List ℕ → ℕ → List ℕ
block_of img i = take block_size (drop (block_size * i) img)

unfoldable pub content_of : List ℕ → ℕ → List ℕ
content_of img i = take content_size (drop 2 (block_of img i))

-- the contents of k blocks from number i on
unfoldable pub contents_of : List ℕ → ℕ → ℕ → List ℕ
contents_of img zero i = []
contents_of img (suc k) i = content_of img i ++ contents_of img k (i + 1)

unfoldable pub memory_of : List ℕ → List ℕ
memory_of img = take size (contents_of img page_count 1)

-- field n of block 0, counted from the format word
unfoldable pub field_of : List ℕ → ℕ → ℕ
field_of img n = word_at (content_of img 0) (2 * n)

unfoldable pub psi_of : List ℕ → Psi
psi_of img =
    record {
      mask = field_of img psi_field;
      direction = field_of img (psi_field + 1);
      latch = field_of img (psi_field + 2);
      load = field_of img (psi_field + 3);
      decrementer = field_of img (psi_field + 4);
      reading = field_of img (psi_field + 5);
      phase = field_of img (psi_field + 6);
      pending = field_of img (psi_field + 7);
    }

-- whether an image is of edition 1
unfoldable pub is_first : List ℕ → Bool
is_first img = field_of img 1 == first_edition

-- Edition 1 is read as having no read-only part; edition 2 has the address.
unfoldable pub rom_of : List ℕ → ℕ
rom_of img = if is_first img then no_rom else field_of img rom_field

unfoldable pub state_of : List ℕ → State
state_of img =
    record {
      wp = field_of img 2;
      pc = field_of img 3;
      st = field_of img 4;
      flags = field_of img 5;
      psi = psi_of img;
      rom = rom_of img;
    }

unfoldable pub zeros : List ℕ → Bool
zeros [] = true
zeros (b ∷ l) = b == 0 && zeros l

-- how many fields block 0 has
unfoldable pub fields_in : List ℕ → ℕ
fields_in img = if is_first img then rom_field else field_count

-- the rest of block 0, and the bytes of the last block after the memory's last
unfoldable pub filler_of : List ℕ → List ℕ
filler_of img = drop (2 * fields_in img) (content_of img 0) ++ drop size (contents_of img page_count 1)

-- the refusal that a block calls for, or 0: within a block the check comes before the number
unfoldable pub block_fault : List ℕ → ℕ → ℕ
block_fault img i =
    if not (words_sum (block_of img i) % 65536 == 65535) then 6
    else if not (word_at (block_of img i) 0 == i) then 7
    else 0
