-- What reading answers, by whether the table names a refusal.
use Prim.Native.Nat.{ℕ}
use mathlib.Core.Path.{◌≡◌, sym, ap, ◌∙◌}
use mathlib.Core.Logic.{by_cases}
use mathlib.Core.List.{List}
use native.Mathlib.Decide.{ℕ_discrete}
use native.Mathlib.Omega.{arith}
use borrow.Author.Tests.{eq-eqb, ne_eqb}
use lib.ListN.{length}
use Rattle.memory.specs.Memory.{size}
use Rattle.machine.specs.State.{blank}
use Rattle.image_blocks.specs.Image as Image
use Rattle.std.specs.Prelude.{⊤, Ok, Err}
use Rattle.refusals.specs.declared.Refusal.{Refusal}
use Rattle.refusals.specs.Refusals.{number, block, number_of, block_of}
use Rattle.image.specs.Calls.{Fault, fault, fault_of, image_fault, read_fault, read}
use Rattle.refusals.proofs.Laws.{never_0}

-- once the memory's size is right, the image alone counts
pub alone : (img m : List ℕ) → length m ≡ size → read_fault img m ≡ image_fault img
unfolding read_fault
alone img m h = rw (eq-eqb (length m) size h)

pub reads :
    (img m : List ℕ) → (read_fault img m).number ≡ 0
    → read img m ≡ record { answer = record { number = 0; block = 0; state = Image.state_of img }; memory = Image.memory_of img }
unfolding read
reads img m h = rw (eq-eqb (read_fault img m).number 0 h)

pub reads_not :
    (img m : List ℕ) → ((read_fault img m).number ≡ 0 → ⊥)
    → read img m ≡ record { answer = record { number = (read_fault img m).number; block = (read_fault img m).block; state = blank }; memory = m }
unfolding read
reads_not img m n = rw (ne_eqb (read_fault img m).number 0 n)

pub read_number : (img m : List ℕ) → (read img m).answer.number ≡ (read_fault img m).number
read_number img m =
    by_cases (ℕ_discrete (read_fault img m).number 0) (λ y. rw (reads img m y) (sym y)) (λ n. rw (reads_not img m n))

-- The same, by what judging the memory's size and then the image gives.

pub reads_not_size :
    (img m : List ℕ) → (length m ≡ size → ⊥)
    → read img m ≡ record { answer = record { number = 1; block = 0; state = blank }; memory = m }
unfolding read_fault
reads_not_size img m n =
    let e : read_fault img m ≡ fault 1 = rw (ne_eqb (length m) size n) in
    rw e at (reads_not img m (rw e (λ h. omega arith)))

pub reads_not_image :
    (img m : List ℕ) (r : Refusal) → length m ≡ size → fault_of {A = ⊤} (Err r) ≡ image_fault img
    → read img m ≡ record { answer = record { number = number r; block = block r; state = blank }; memory = m }
unfolding number_of block_of
reads_not_image img m r h e =
    let f = alone img m h ∙ sym e in
    rw f at (reads_not img m (rw f (never_0 r)))

pub reads_image :
    (img m : List ℕ) → length m ≡ size → fault_of {A = ⊤} (Ok tt) ≡ image_fault img
    → read img m ≡ record { answer = record { number = 0; block = 0; state = Image.state_of img }; memory = Image.memory_of img }
unfolding number_of block_of
reads_image img m h e = reads img m (ap (λ (f : Fault). f.number) (alone img m h ∙ sym e))
