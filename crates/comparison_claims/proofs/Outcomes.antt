-- Comparing refuses the first image, or the second, or neither. Reading goes by the same table once the memory's size is right.
use Prim.Native.Nat.{ℕ}
use mathlib.Core.Path.{◌≡◌, refl, sym, ap, ◌∙◌}
use mathlib.Core.Logic.{by_cases}
use mathlib.Core.List.{List, []}
use native.Mathlib.Decide.{ℕ_discrete}
use borrow.Author.Tests.{eq-eqb, ne_eqb}
use lib.ListN.{length, replicate}
use Rattle.memory.specs.Memory.{size}
use Rattle.machine.specs.State.{blank}
use Rattle.differing_runs.specs.Runs.{numbers, places}
use Rattle.image_blocks.specs.Image as Image
use Rattle.image.specs.Calls.{Fault, image_fault, read_fault, read}
use Rattle.image.proofs.Answers.{alone, reads, reads_not, read_number}
use Rattle.comparison.specs.Compare.{refused, accepted, compare}

abbrev pub Accepted : List ℕ → Type 0
Accepted img = (image_fault img).number ≡ 0

pub refused_first : (a b : List ℕ) → ¬ Accepted a → compare a b ≡ refused 1 (image_fault a)
unfolding compare
refused_first a b no-a = rw (ne_eqb (image_fault a).number 0 no-a)

pub refused_second : (a b : List ℕ) → Accepted a → ¬ Accepted b → compare a b ≡ refused 2 (image_fault b)
unfolding compare
refused_second a b yes-a no-b = rw (eq-eqb (image_fault a).number 0 yes-a, ne_eqb (image_fault b).number 0 no-b)

pub refused_neither : (a b : List ℕ) → Accepted a → Accepted b → compare a b ≡ accepted a b
unfolding compare
refused_neither a b yes-a yes-b = rw (eq-eqb (image_fault a).number 0 yes-a, eq-eqb (image_fault b).number 0 yes-b)

pub data Outcome (a b : List ℕ) : Type 0 where
  first : ¬ Accepted a → Outcome a b
  second : Accepted a → ¬ Accepted b → Outcome a b
  neither : Accepted a → Accepted b → Outcome a b

pub outcome : (a b : List ℕ) → Outcome a b
outcome a b =
    by_cases (ℕ_discrete (image_fault a).number 0)
    (λ yes-a. by_cases (ℕ_discrete (image_fault b).number 0) (λ yes-b. neither yes-a yes-b) (λ no-b. second yes-a no-b))
    (λ no-a. first no-a)

-- no refusal: neither is refused
pub both_accepted : (a b : List ℕ) → (compare a b).answer.number ≡ 0 → (Accepted a) × (Accepted b)
both_accepted a b h =
    elim (outcome a b) [
      | first no-a ↦ absurd (no-a (rw (refused_first a b no-a) at h))
      | second yes-a no-b ↦ absurd (no-b (rw (refused_second a b yes-a no-b) at h))
      | neither yes-a yes-b ↦ (yes-a, yes-b)
    ]

-- an empty list of runs
pub no_places : places [] ≡ replicate 512 0
unfolding places numbers
no_places = refl

-- Reading.

read_alone : (img m : List ℕ) → length m ≡ size → (read_fault img m).number ≡ (image_fault img).number
read_alone img m h = ap (λ (f : Fault). f.number) (alone img m h)

pub reads_whole :
    (img m : List ℕ) → length m ≡ size → Accepted img
    → read img m ≡ record { answer = record { number = 0; block = 0; state = Image.state_of img }; memory = Image.memory_of img }
reads_whole img m h y = reads img m (read_alone img m h ∙ y)

pub reads_nothing :
    (img m : List ℕ) → length m ≡ size → ¬ Accepted img
    → read img m ≡ record { answer = record { number = (image_fault img).number; block = (image_fault img).block; state = blank }; memory = m }
reads_nothing img m h n = rw (alone img m h) at (reads_not img m (λ e. n (sym (read_alone img m h) ∙ e)))

pub read_answer : (img m : List ℕ) → length m ≡ size → (read img m).answer.number ≡ (image_fault img).number
read_answer img m h = read_number img m ∙ read_alone img m h
