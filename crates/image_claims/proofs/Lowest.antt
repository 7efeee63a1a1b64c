-- The blocks are judged from the lowest on, and the first in fault ends the search; no other refusal is 6 or 7.
use Rattle.std.specs.Prelude.{if◌then◌else◌}
use Prim.Native.Nat.{ℕ, zero, suc, ◌+◌, ◌%◌, ◌<◌, ◌≤◌}
use mathlib.Core.Path.{◌≡◌, refl, sym}
use mathlib.Core.Bool.{Bool, true, false, not, ◌&&◌, true≢false}
use mathlib.Core.Logic.{⊎_elim}
use mathlib.Core.List.{List}
use native.Mathlib.Omega.{arith}
use native.Mathlib.Nat.{eq-or-lt_of_le}
use borrow.Author.Tests.{eq-eqb, eqb-true}
use lib.ListN.{length}
use lib.Dec.{eqb}
use Rattle.memory.specs.Memory.{size}
use Rattle.machine.specs.State.{well_formed}
use Rattle.image_blocks.specs.Image as Image
use Rattle.image_blocks.specs.Image.{block_fault}
use Rattle.image.specs.Calls.{Fault, fault, first_fault, known_edition, content_fault, image_fault, read_fault}

-- a fault found among k blocks from number i on
pub record Low (img : List ℕ) (k i : ℕ) (f : Fault) : Type 0 where
  pub from : i ≤ f.block
  pub to : f.block < i + k
  pub bad : block_fault img f.block ≡ f.number
  pub lower : (j : ℕ) → i ≤ j → j < f.block → block_fault img j ≡ 0

pub low : (img : List ℕ) (k i : ℕ) → 0 < (first_fault img k i).number → Low img k i (first_fault img k i)
unfolding first_fault
low img zero i h = absurd (omega arith)
low img (suc k) i h = by_test (low img k (i + 1)) (eqb (block_fault img i) 0) refl h
  where
    by_test :
        (0 < (first_fault img k (i + 1)).number → Low img k (i + 1) (first_fault img k (i + 1)))
        → (t : Bool) → eqb (block_fault img i) 0 ≡ t → 0 < (first_fault img (suc k) i).number → Low img (suc k) i (first_fault img (suc k) i)
    by_test further true e h =
        let rest = further (rw e at h) in
        rw e (record {
          from = omega arith;
          to = omega arith;
          bad = rest.bad;
          lower = λ j l m. ⊎_elim (λ q. rw (← q) (eqb-true (block_fault img i) 0 e)) (λ q. rest.lower j (omega arith) m) (eq-or-lt_of_le l);
        })
    by_test further false e h = rw e (record { from = omega arith; to = omega arith; bad = refl; lower = λ j l m. absurd (omega arith) })

-- block 0's content and the filler are refused by 8 and 9 alone
content_judged : (img : List ℕ) → 5 < content_fault img → content_fault img < 8 → ⊥
unfolding content_fault
content_judged img =
    by_tests
    (eqb (Image.field_of img 0) Image.format && known_edition (Image.field_of img 1))
    (well_formed (Image.state_of img) && Image.zeros (Image.filler_of img))
  where
    by_tests : (a b : Bool) → 5 < (if not a then 8 else if not b then 9 else 0) → (if not a then 8 else if not b then 9 else 0) < 8 → ⊥
    by_tests false b h l = omega arith
    by_tests true false h l = omega arith
    by_tests true true h l = omega arith

pub judged : (img m : List ℕ) → 5 < (read_fault img m).number → (read_fault img m).number < 8 → read_fault img m ≡ first_fault img Image.block_count 0
unfolding read_fault image_fault
judged img m =
    by_tests (eqb (length m) size) (eqb (length img) Image.image_size) (eqb (first_fault img Image.block_count 0).number 0)
  where
    by_tests :
        (a b c : Bool)
        → 5 < (if not a then fault 1 else if not b then fault 5 else if not c then first_fault img Image.block_count 0 else fault (content_fault img)).number
        → (if not a then fault 1 else if not b then fault 5 else if not c then first_fault img Image.block_count 0 else fault (content_fault img)).number < 8
        → (if not a then fault 1 else if not b then fault 5 else if not c then first_fault img Image.block_count 0 else fault (content_fault img)) ≡ first_fault img Image.block_count 0
    by_tests false b c h l = absurd (omega arith)
    by_tests true false c h l = absurd (omega arith)
    by_tests true true false h l = refl
    by_tests true true true h l = absurd (content_judged img h l)

-- What a block's refusal says of its check and its number, by the results of the two tests.

-- the two tests of a block
abbrev tests : Bool → Bool → ℕ
tests a b = if not a then 6 else if not b then 7 else 0

six : (a b : Bool) → tests a b ≡ 6 → a ≡ true → ⊥
six true true h e = omega arith
six true false h e = omega arith
six false b h e = true≢false (sym e)

seven : (a b : Bool) → tests a b ≡ 7 → (a ≡ true) × (b ≡ true → ⊥)
seven true true h = absurd (omega arith)
seven true false h = (refl, λ e. true≢false (sym e))
seven false b h = absurd (omega arith)

module _ (img : List ℕ) (i : ℕ) where
  pub wrong_check : block_fault img i ≡ 6 → Image.words_sum (Image.block_of img i) % 65536 ≡ 65535 → ⊥
  unfolding block_fault
  wrong_check h e = six (eqb (Image.words_sum (Image.block_of img i) % 65536) 65535) (eqb (Image.word_at (Image.block_of img i) 0) i) h (eq-eqb (Image.words_sum (Image.block_of img i) % 65536) 65535 e)

  pub right_check : block_fault img i ≡ 7 → Image.words_sum (Image.block_of img i) % 65536 ≡ 65535
  unfolding block_fault
  right_check h = eqb-true (Image.words_sum (Image.block_of img i) % 65536) 65535 (seven (eqb (Image.words_sum (Image.block_of img i) % 65536) 65535) (eqb (Image.word_at (Image.block_of img i) 0) i) h).0

  pub wrong_number : block_fault img i ≡ 7 → Image.word_at (Image.block_of img i) 0 ≡ i → ⊥
  unfolding block_fault
  wrong_number h e = (seven (eqb (Image.words_sum (Image.block_of img i) % 65536) 65535) (eqb (Image.word_at (Image.block_of img i) 0) i) h).1 (eq-eqb (Image.word_at (Image.block_of img i) 0) i e)
