-- What differs between two images (document 02, Q-8): the call's answer, and the list of runs that it leaves.
use Rattle.std.specs.Prelude.{ℕ, zero, suc, ◌+◌, ◌*◌, not, List, [], length, eqb, if◌then◌else◌, Result, Ok, Err}
use Rattle.refusals.specs.declared.Refusal.{Refusal}
use Rattle.refusals.specs.Refusals.{number, block}
use Rattle.bits.specs.Bits.{one_if}
use Rattle.differing_runs.specs.Runs.{Stretch, differences, runs_of, places}
use Rattle.image_blocks.specs.Image as Image
use Rattle.image.specs.Calls.{Fault, image_fault}
use Rattle.comparison.specs.declared.Compared as Outcome
use Rattle.comparison.specs.declared.ComparisonRefused.{ComparisonRefused}
use Rattle.comparison.specs.declared.ComparisonRefused.TheVariants.{First, Second}

-- Comparing's answer: the number of the table of refusals, the image and the block that a refusal names, which fields of block 0 differ
-- (weight 2^k for field k), and how many runs of bytes.
pub record CompareAnswer : Type 0 where
  pub number : ℕ
  pub image : ℕ
  pub block : ℕ
  pub fields : ℕ
  pub runs : ℕ

-- which image is refused, and why
unfoldable pub image_refused : ComparisonRefused → ℕ
image_refused (First r) = 1
image_refused (Second r) = 2

unfoldable pub refusal : ComparisonRefused → Refusal
refusal (First r) = r
refusal (Second r) = r

-- What the call gives, in these terms. The numbers of refusals differ, so this determines what it gives.
unfoldable pub compare_answer : Result Outcome.Compared ComparisonRefused → CompareAnswer
compare_answer (Ok c) = record { number = 0; image = 0; block = 0; fields = c.fields; runs = c.runs }
compare_answer (Err e) = record { number = number (refusal e); image = image_refused e; block = block (refusal e); fields = 0; runs = 0 }

-- Field k as it is compared: word k of block 0's content, 0 the format word; the last is the read-only address, for which edition 1 has the
-- number that means none.
unfoldable pub field : List ℕ → ℕ → ℕ
field img k = if eqb k Image.rom_field then Image.rom_of img else Image.field_of img k

-- Which of n fields from number k on differ: weight 1 for field k, 2 for the next, and so on.
unfoldable pub fields_from : List ℕ → List ℕ → ℕ → ℕ → ℕ
fields_from a b zero k = 0
fields_from a b (suc n) k = one_if (not (eqb (field a k) (field b k))) + 2 * fields_from a b n (k + 1)

-- Which fields differ: weight 2^k for field k.
abbrev pub fields : List ℕ → List ℕ → ℕ
fields a b = fields_from a b Image.field_count 0

-- the runs of differing bytes of the two memories
abbrev pub runs : List ℕ → List ℕ → List Stretch
runs a b = runs_of (differences (Image.memory_of a) (Image.memory_of b))

pub record Compared : Type 0 where
  pub answer : CompareAnswer
  pub list : List ℕ

-- a refusal names its image, 1 or 2, and its block; all else is 0, and no run is listed
abbrev pub refused : ℕ → Fault → Compared
refused image f =
    record {
      answer = record { number = f.number; image = image; block = f.block; fields = 0; runs = 0 };
      list = places [];
    }

-- an accepted comparison
abbrev pub accepted : List ℕ → List ℕ → Compared
accepted a b =
    record {
      answer = record { number = 0; image = 0; block = 0; fields = fields a b; runs = length (runs a b) };
      list = places (runs a b);
    }

-- Whatever is wrong with the first image comes before anything of the second.
unfoldable pub compare : List ℕ → List ℕ → Compared
compare a b =
    if not (eqb (image_fault a).number 0) then refused 1 (image_fault a)
    else if not (eqb (image_fault b).number 0) then refused 2 (image_fault b)
    else accepted a b
