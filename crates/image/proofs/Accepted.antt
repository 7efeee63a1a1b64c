-- What holds where the table names no refusal: each test on the way was passed.
use Rattle.std.specs.Prelude.{if◌then◌else◌}
use Prim.Native.Nat.{ℕ}
use mathlib.Core.Path.{◌≡◌, refl, sym}
use mathlib.Core.Bool.{Bool, true, false, not, true≢false}
use mathlib.Core.List.{List}
use native.Mathlib.Omega.{arith}
use borrow.Author.Tests.{eq-eqb, eqb-true}
use lib.ListN.{length}
use lib.Dec.{eqb}
use Rattle.memory.specs.Memory.{size}
use Rattle.image_blocks.specs.Image as Image
use Rattle.image.specs.Calls.{Fault, fault, first_fault, content_fault, image_fault, read_fault}

-- a test whose refusal would show was passed, and the tests after it were
pub passed : {A : Type 0} (number : A → ℕ) (b : Bool) (x y : A) → (number x ≡ 0 → b ≡ true) → number (if not b then x else y) ≡ 0 → (b ≡ true) × (number y ≡ 0)
passed number true x y c h = (refl, h)
passed number false x y c h = absurd (true≢false (sym (c h)))

pub record Faultless (img : List ℕ) : Type 0 where
  pub image_sized : length img ≡ Image.image_size
  pub blocks_right : (first_fault img Image.block_count 0).number ≡ 0
  pub content_right : content_fault img ≡ 0

pub faultless : (img : List ℕ) → (image_fault img).number ≡ 0 → Faultless img
unfolding image_fault
faultless img h =
    let number : Fault → ℕ = λ f. f.number in
    let first : Fault = first_fault img Image.block_count 0 in
    let last : Fault = fault (content_fault img) in
    let blocks : Fault = if not (eqb first.number 0) then first else last in
    let one = passed number (eqb (length img) Image.image_size) (fault 5) blocks (λ e. absurd (omega arith)) h in
    let two = passed number (eqb first.number 0) first last (eq-eqb first.number 0) one.1 in
    record {
      image_sized = eqb-true (length img) Image.image_size one.0;
      blocks_right = eqb-true first.number 0 two.0;
      content_right = two.1;
    }

pub record Accepted (img m : List ℕ) : Type 0 where
  pub memory_sized : length m ≡ size
  pub image_right : Faultless img

pub accepted : (img m : List ℕ) → (read_fault img m).number ≡ 0 → Accepted img m
unfolding read_fault
accepted img m h =
    let one = passed (λ (f : Fault). f.number) (eqb (length m) size) (fault 1) (image_fault img) (λ e. absurd (omega arith)) h in
    record { memory_sized = eqb-true (length m) size one.0; image_right = faultless img one.1 }
