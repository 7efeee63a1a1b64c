-- What holds of the blocks, and of block 0's content, where the table names no refusal.
use Rattle.std.specs.Prelude.{if◌then◌else◌}
use Prim.Native.Nat.{ℕ, zero, suc, ◌+◌, ◌%◌, ◌<◌}
use mathlib.Core.Path.{◌≡◌, refl, sym}
use mathlib.Core.Bool.{Bool, true, false, not, ◌&&◌, true≢false}
use mathlib.Core.List.{List}
use native.Mathlib.Omega.{arith}
use native.Mathlib.Nat.{add-zero}
use borrow.Author.Tests.{eq-eqb, eqb-true}
use lib.Dec.{eqb}
use Rattle.bits.proofs.Laws.{conjuncts}
use Rattle.machine.specs.State.{well_formed}
use Rattle.image_blocks.specs.Image as Image
use Rattle.image_blocks.specs.Image.{block_fault}
use Rattle.image.specs.Calls.{Fault, first_fault, known_edition, content_fault}
use Rattle.image.proofs.Accepted.{passed}
use Rattle.image_claims.specs.Claims.{SoundBlock}

picked : (b : Bool) (x y : Fault) → (y.number ≡ 0 → b ≡ true) → (if b then x else y).number ≡ 0 → (b ≡ true) × (x.number ≡ 0)
picked true x y c h = (refl, h)
picked false x y c h = absurd (true≢false (sym (c h)))

-- no fault among k blocks: each is in order
pub each_right : (img : List ℕ) (k i d : ℕ) → (first_fault img k i).number ≡ 0 → d < k → block_fault img (i + d) ≡ 0
unfolding first_fault
each_right img zero i d h l = absurd (omega arith)
each_right img (suc k) i zero h l =
    rw (add-zero i) (eqb-true (block_fault img i) 0 (picked (eqb (block_fault img i) 0) (first_fault img k (i + 1)) (record { number = block_fault img i; block = i }) (eq-eqb (block_fault img i) 0) h).0)
each_right img (suc k) i (suc d) h l =
    rw (let e : i + suc d ≡ i + 1 + d = omega arith in e)
    (each_right img k (i + 1) d
    (picked (eqb (block_fault img i) 0) (first_fault img k (i + 1)) (record { number = block_fault img i; block = i }) (eq-eqb (block_fault img i) 0) h).1
    (omega arith))

-- a block in order
pub right : (img : List ℕ) (i : ℕ) → block_fault img i ≡ 0 → SoundBlock img i
unfolding block_fault
right img i h =
    let sum : ℕ = Image.words_sum (Image.block_of img i) % 65536 in
    let number : ℕ = Image.word_at (Image.block_of img i) 0 in
    let last : ℕ = if not (eqb number i) then 7 else 0 in
    let one = passed (λ n. n) (eqb sum 65535) 6 last (λ e. absurd (omega arith)) h in
    let two = passed (λ n. n) (eqb number i) 7 0 (λ e. absurd (omega arith)) one.1 in
    record { sum = eqb-true sum 65535 one.0; number = eqb-true number i two.0 }

-- block 0's content in order, in either edition
pub record Sound (img : List ℕ) : Type 0 where
  pub format : Image.field_of img 0 ≡ Image.format
  pub edition : known_edition (Image.field_of img 1) ≡ true
  pub formed : well_formed (Image.state_of img) ≡ true
  pub filler : Image.zeros (Image.filler_of img) ≡ true

pub sound : (img : List ℕ) → content_fault img ≡ 0 → Sound img
unfolding content_fault
sound img h =
    let first : Bool = eqb (Image.field_of img 0) Image.format && known_edition (Image.field_of img 1) in
    let second : Bool = well_formed (Image.state_of img) && Image.zeros (Image.filler_of img) in
    let last : ℕ = if not second then 9 else 0 in
    let one = passed (λ n. n) first 8 last (λ e. absurd (omega arith)) h in
    let two = passed (λ n. n) second 9 0 (λ e. absurd (omega arith)) one.1 in
    let words = conjuncts (eqb (Image.field_of img 0) Image.format) (known_edition (Image.field_of img 1)) one.0 in
    let rest = conjuncts (well_formed (Image.state_of img)) (Image.zeros (Image.filler_of img)) two.0 in
    record {
      format = eqb-true (Image.field_of img 0) Image.format words.0;
      edition = words.1;
      formed = rest.0;
      filler = rest.1;
    }
