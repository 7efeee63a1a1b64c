-- A state as an array of thirteen numbers of 32 bits.
use Rattle.std.specs.Prelude.{ℕ, ◌+◌, Bool, true, ◌&&◌, List, [], ◌∷◌, get_or, take, ltb, if◌then◌else◌}
use Rattle.psi.specs.Psi as Own
use Rattle.machine.specs.declared.State.{State}
use Rattle.machine.specs.State.{no_rom}
use Rattle.image_blocks.specs.Image as Image

-- the words of a state: WP, PC, ST, flags, then the PSI's, and then the read-only address (Q-7)
abbrev pub psi_word : ℕ
psi_word = 4

abbrev pub rom_word : ℕ
rom_word = psi_word + Image.psi_words

-- how many they are: those of an image's block 0 after format and edition, `Image.fields`
abbrev pub state_words : ℕ
state_words = rom_word + 1

-- whether each number fits 16 bits
unfoldable pub all_fit : List ℕ → Bool
all_fit [] = true
all_fit (x ∷ w) = ltb x 65536 && all_fit w

-- whether each number fits its field: all fields but the read-only address have 16 bits, and that has 32, as the array's elements have
unfoldable pub fits : List ℕ → Bool
fits w = all_fit (take rom_word w)

-- the state that thirteen words are, in the order of `Image.fields`
unfoldable pub held : List ℕ → State
held w =
    record {
      wp = get_or w 0 0;
      pc = get_or w 1 0;
      st = get_or w 2 0;
      flags = get_or w 3 0;
      psi = record {
        mask = get_or w psi_word 0;
        direction = get_or w (psi_word + 1) 0;
        latch = get_or w (psi_word + 2) 0;
        load = get_or w (psi_word + 3) 0;
        decrementer = get_or w (psi_word + 4) 0;
        reading = get_or w (psi_word + 5) 0;
        phase = get_or w (psi_word + 6) 0;
        pending = get_or w (psi_word + 7) 0;
      };
      rom = get_or w rom_word 0;
    }

-- a state that is not well formed: WP is odd
abbrev pub unfit : State
unfit = record { wp = 1; pc = 0; st = 0; flags = 0; psi = Own.blank; rom = no_rom }

-- The state of an array: a number that does not fit its field makes it not well formed.
unfoldable pub state_of : List ℕ → State
state_of w = if fits w then held w else unfit
