-- What is claimed of comparing images (document 02, Q-8).
use Rattle.std.specs.Prelude.{ℕ, ◌*◌, ◌/◌, ◌^◌, ◌≤◌, ◌<◌, ◌≡◌, ◌↔◌, not, List, length, get_or, replicate, eqb, if◌then◌else◌}
use Rattle.bits.specs.Bits.{one_if, bit}
use Rattle.memory.specs.Memory.{size}
use Rattle.differing_runs.specs.Runs.{Stretch, places}
use Rattle.differing_runs_claims.specs.Claims.{end, Among}
use Rattle.image_blocks.specs.Image as Image
use Rattle.image.specs.Calls.{image_fault, read}
use Rattle.comparison.specs.Compare.{Compared, field, runs, compare}

-- A refusal is reading's: its number and its block, of the first image that reading refuses.
pub record AsReading (a b m : List ℕ) : Type 0 where
  pub first :
      ((read a m).answer.number ≡ 0 → ⊥)
      → ((compare a b).answer.number ≡ (read a m).answer.number) × ((compare a b).answer.image ≡ 1) × ((compare a b).answer.block ≡ (read a m).answer.block)
  pub second :
      (read a m).answer.number ≡ 0 → ((read b m).answer.number ≡ 0 → ⊥)
      → ((compare a b).answer.number ≡ (read b m).answer.number) × ((compare a b).answer.image ≡ 2) × ((compare a b).answer.block ≡ (read b m).answer.block)
  pub neither :
      (read a m).answer.number ≡ 0 → (read b m).answer.number ≡ 0
      → ((compare a b).answer.number ≡ 0) × ((compare a b).answer.image ≡ 0) × ((compare a b).answer.block ≡ 0)

abbrev pub RefusesAsReading : Type 0
RefusesAsReading = (a b m : List ℕ) → length m ≡ size → AsReading a b m

-- A refusal reports nothing else: no field, no run, and zeros in all places.
abbrev pub RefusedReportsNothing : Type 0
RefusedReportsNothing =
    (a b : List ℕ) → ((compare a b).answer.number ≡ 0 → ⊥)
    → ((compare a b).answer.fields ≡ 0) × ((compare a b).answer.runs ≡ 0) × ((compare a b).list ≡ replicate 512 0)

-- The bit of weight 2^k is set exactly if field k differs.
abbrev pub FieldsExactly : Type 0
FieldsExactly =
    (a b : List ℕ) (k : ℕ) → (compare a b).answer.number ≡ 0 → k < Image.field_count
    → bit k (compare a b).answer.fields ≡ not (eqb (field a k) (field b k))

-- No other bit is set.
abbrev pub NoOtherBit : Type 0
NoOtherBit = (a b : List ℕ) → (compare a b).answer.fields < 2 ^ Image.field_count

-- The number is that of all runs, and the list is theirs.
abbrev pub ReportsTheRuns : Type 0
ReportsTheRuns =
    (a b : List ℕ) → (compare a b).answer.number ≡ 0
    → ((compare a b).answer.runs ≡ length (runs a b)) × ((compare a b).list ≡ places (runs a b))

-- A byte of the memories differs exactly if it lies in one of the runs. (That these are maximal stretches, rising and apart, holds of any two
-- memories: `differing_runs_claims`.)
abbrev pub CoversTheMemories : Type 0
CoversTheMemories =
    (a b : List ℕ) (i : ℕ) → (compare a b).answer.number ≡ 0
    → (get_or (Image.memory_of a) i 0 ≡ get_or (Image.memory_of b) i 0 → ⊥)
    ↔ ((r : Stretch) × Among (runs a b) r × (r.start ≤ i) × (i < end r))

-- There are 8192 at most.
abbrev pub AtMost8192 : Type 0
AtMost8192 = (a b : List ℕ) → (compare a b).answer.runs ≤ 8192

-- An accepted image compared with itself: nothing.
abbrev pub Itself : Type 0
Itself =
    (a : List ℕ) → (image_fault a).number ≡ 0
    → compare a a
    ≡ record { answer = record { number = 0; image = 0; block = 0; fields = 0; runs = 0 }; list = replicate 512 0 }

-- the other image
abbrev pub other : ℕ → ℕ
other image = if eqb image 1 then 2 else if eqb image 2 then 1 else image

abbrev pub exchanged : Compared → Compared
exchanged c =
    record {
      answer = record {
        number = c.answer.number;
        image = other c.answer.image;
        block = c.answer.block;
        fields = c.answer.fields;
        runs = c.answer.runs;
      };
      list = c.list;
    }

-- Exchanging two images, not both of them refused, exchanges nothing but the image that a refusal names. (Where both are, each order tells of
-- its first.)
abbrev pub Exchanges : Type 0
Exchanges =
    (a b : List ℕ) → (((image_fault a).number ≡ 0 → ⊥) → (image_fault b).number ≡ 0)
    → compare b a ≡ exchanged (compare a b)

-- Two accepted images whose fields agree, all but the edition, and whose memories agree, are read alike; and only such. (The format words agree anyway; fields of
-- weight 4 on are the state's.)
abbrev pub ReadAlike : Type 0
ReadAlike =
    (a b m : List ℕ) → length m ≡ size → (compare a b).answer.number ≡ 0
    → (((compare a b).answer.fields / 4 ≡ 0) × ((compare a b).answer.runs ≡ 0)) ↔ (read a m ≡ read b m)

-- Two accepted images that hold one state differ in the edition, of weight 2, or in no field.
abbrev pub EditionAlone : Type 0
EditionAlone =
    (a b : List ℕ) → (compare a b).answer.number ≡ 0 → Image.state_of a ≡ Image.state_of b
    → (compare a b).answer.fields ≡ 2 * one_if (not (eqb (Image.field_of a 1) (Image.field_of b 1)))
