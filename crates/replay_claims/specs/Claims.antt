-- What is claimed of the program's definition.
use Rattle.std.specs.Prelude.{ℕ, ◌+◌, ◌*◌, ◌≡◌, List, [], ◌∷◌, length, take}
use Rattle.memory.specs.Memory.{size}
use Rattle.psi.specs.Psi as Own
use Rattle.machine.specs.declared.State.{State}
use Rattle.machine.specs.State.{no_rom}
use Rattle.machine.specs.Cases.{word, poked, zeros}
use Rattle.image_blocks.specs.Image as Image
use Rattle.text.specs.Texts.{ascii}
use Rattle.replay_files.specs.Pins as Pins
use Rattle.replay_call.specs.Replay.{replay, replay_in}

-- The memory that the program lends itself does not matter, but for its size.
abbrev pub AnyMemory : Type 0
AnyMemory = (m image pins after : List ℕ) → length m ≡ size → replay_in m image pins after ≡ replay image pins after

-- Of the image file a byte more than an image matters, of the pin file the words that are taken: the program reads no more of them.
abbrev pub StartsOfFiles : Type 0
StartsOfFiles =
    (image pins after : List ℕ)
    → replay (take (Image.image_size + 1) image) (take (4 * (1 + Pins.most)) pins) after ≡ replay image pins after

-- Document 01's example: WP 0300h, PC 0100h, ST 0, blank PSI, flags 0, nothing read-only; P1's word, then 0000h at 0100h, 7FFFh at 0302h,
-- 0001h at 0304h.
abbrev pub start : State
start = record { wp = 0x0300; pc = 0x0100; st = 0; flags = 0; psi = Own.blank; rom = no_rom }

abbrev pub memory : List ℕ
memory = poked (word 0x0100 0xA081 ∷ word 0x0102 0x0000 ∷ word 0x0302 0x7FFF ∷ word 0x0304 0x0001 ∷ []) zeros

-- stop 1, two steps, all pins high, no cycles
abbrev pub pins : List ℕ
pins = 0x00 ∷ 0x00 ∷ 0x00 ∷ 0x01 ∷ 0x00 ∷ 0x3F ∷ 0xFF ∷ 0xFF ∷ 0x00 ∷ 0x3F ∷ 0xFF ∷ 0xFF ∷ []

abbrev pub line : List ℕ
line = ascii "answer 0 steps 2 unassigned 1 pc 0104 wp 0300 st 8800 word\n"

-- what the machine is after it: R2, at 0304h, is 8000h
abbrev pub end : State
end = record { wp = 0x0300; pc = 0x0104; st = 0x8800; flags = 0; psi = Own.blank; rom = no_rom }

abbrev pub memory_after : List ℕ
memory_after = poked (word 0x0304 0x8000 ∷ []) memory

-- The program's line of document 01, and the image after.
abbrev pub ExampleLine : Type 0
ExampleLine =
    (after : List ℕ)
    → length after ≡ Image.image_size
    → replay (Image.image start memory) pins after ≡ record { number = 0; line = line; image = Image.image end memory_after }
