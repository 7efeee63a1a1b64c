-- A state and its array, and arrays with a number that does not fit.
use Rattle.std.specs.Prelude.{ℕ, ◌≡◌, true, false, not, List, [], ◌∷◌, length, eqb, if◌then◌else◌}
use Rattle.memory.specs.Memory.{size}
use Rattle.machine.specs.declared.State.{State}
use Rattle.machine.specs.Laws.{Words}
use Rattle.image_blocks.specs.Image as Image
use Rattle.state_array.specs.Arrays.{state_words, fits, state_of}
use Rattle.tms_replay.specs.Exported.{run, write}

-- The words of a state and the state of words are inverse where they fit.
abbrev pub StateOfItsWords : Type 0
StateOfItsWords = (s : State) → Words s → state_of (Image.fields s) ≡ s

abbrev pub WordsOfTheirState : Type 0
WordsOfTheirState = (w : List ℕ) → length w ≡ state_words → fits w ≡ true → Image.fields (state_of w) ≡ w

-- A refused run leaves the array bit for bit, the memory as it was, and four zeros as counts.
abbrev pub RefusedRuns : Type 0
RefusedRuns =
    (m w records : List ℕ) (steps stop : ℕ)
    → ((run m w records steps stop).number ≡ 0 → ⊥)
    → ((run m w records steps stop).state ≡ w) × ((run m w records steps stop).memory ≡ m) × ((run m w records steps stop).counts ≡ 0 ∷ 0 ∷ 0 ∷ 0 ∷ [])

-- A number that does not fit is refused like a state that is not well formed, in its place in the order.
abbrev pub UnfitRuns : Type 0
UnfitRuns =
    (m w records : List ℕ) (steps stop : ℕ)
    → fits w ≡ false → (run m w records steps stop).number ≡ (if not (eqb (length m) size) then 1 else 2)

abbrev pub UnfitWrites : Type 0
UnfitWrites =
    (m w img : List ℕ)
    → fits w ≡ false
    → (write w m img).number ≡ (if not (eqb (length m) size) then 1 else if not (eqb (length img) Image.image_size) then 5 else 2)
