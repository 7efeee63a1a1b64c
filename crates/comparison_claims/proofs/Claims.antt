-- The claims, by what comparing may come to: a refusal of the first image, of the second, or none.
use Prim.Native.Nat.{ℕ}
use mathlib.Core.Path.{◌≡◌, refl, sym, ap, ◌∙◌}
use mathlib.Core.List.{List, []}
use native.Mathlib.Omega.{arith}
use native.Mathlib.Nat.{zero-add}
use lib.ListN.{length, drop_of_length-le}
use Rattle.memory.specs.Memory.{size}
use Rattle.differing_runs.specs.Runs.{differences}
use Rattle.differing_runs.proofs.Differences.{differences_length}
use Rattle.differing_runs_claims.proofs.Claims.{at_most_half}
use Rattle.image_blocks.specs.Image as Image
use Rattle.image_blocks.proofs.Parts.{memory_length}
use Rattle.image.specs.Calls.{ReadResult}
use Rattle.image.proofs.Accepted.{faultless}
use Rattle.image_claims.proofs.Accepted as Content
use Rattle.comparison.specs.Compare.{runs}
use Rattle.comparison.proofs.Weights.{fields_below}
use Rattle.comparison_claims.specs.Claims.{RefusesAsReading, RefusedReportsNothing, FieldsExactly, NoOtherBit, ReportsTheRuns, CoversTheMemories, AtMost8192, Itself, Exchanges, ReadAlike, EditionAlone}
use Rattle.comparison_claims.proofs.Fields.{field_bit, no_weight, states, lower}
use Rattle.comparison_claims.proofs.Memories.{memories, covered}
use Rattle.comparison_claims.proofs.Exchanged.{fields_exchanged, differences_exchanged}
use Rattle.comparison_claims.proofs.Outcomes.{Accepted, refused_first, refused_second, refused_neither, first, second, neither, outcome, both_accepted, no_places, reads_whole, reads_nothing, read_answer}

pub refuses_as_reading : RefusesAsReading
refuses_as_reading a b m h =
    record {
      first = rw (read_answer a m h) (λ no-a. rw (refused_first a b no-a, reads_nothing a m h no-a) (refl, refl, refl));
      second = rw (read_answer a m h, read_answer b m h) (λ yes-a no-b. rw (refused_second a b yes-a no-b, reads_nothing b m h no-b) (refl, refl, refl));
      neither = rw (read_answer a m h, read_answer b m h) (λ yes-a yes-b. rw (refused_neither a b yes-a yes-b) (refl, refl, refl));
    }

pub refused_reports_nothing : RefusedReportsNothing
refused_reports_nothing a b h =
    elim (outcome a b) [
      | first no-a ↦ rw (refused_first a b no-a) (refl, refl, no_places)
      | second yes-a no-b ↦ rw (refused_second a b yes-a no-b) (refl, refl, no_places)
      | neither yes-a yes-b ↦ absurd (h (rw (refused_neither a b yes-a yes-b)))
    ]

pub fields_exactly : FieldsExactly
fields_exactly a b k h l =
    let (yes-a, yes-b) = both_accepted a b h in
    rw (refused_neither a b yes-a yes-b) (rw (zero-add k) at (field_bit a b 15 0 k l))

pub no_other_bit : NoOtherBit
no_other_bit a b =
    elim (outcome a b) [
      | first no-a ↦ rw (refused_first a b no-a) (omega arith)
      | second yes-a no-b ↦ rw (refused_second a b yes-a no-b) (omega arith)
      | neither yes-a yes-b ↦ rw (refused_neither a b yes-a yes-b) (fields_below a b 15 0 15 (omega arith))
    ]

memory_size : (img : List ℕ) → Accepted img → length (Image.memory_of img) ≡ size
memory_size img yes-img = memory_length img (faultless img yes-img).image_sized

same_size : (a b : List ℕ) → Accepted a → Accepted b → length (Image.memory_of a) ≡ length (Image.memory_of b)
same_size a b yes-a yes-b = memory_size a yes-a ∙ sym (memory_size b yes-b)

pub reports_the_runs : ReportsTheRuns
reports_the_runs a b h =
    let (yes-a, yes-b) = both_accepted a b h in
    rw (refused_neither a b yes-a yes-b) (refl, refl)

pub covers_the_memories : CoversTheMemories
covers_the_memories a b i h =
    let (yes-a, yes-b) = both_accepted a b h in
    covered (Image.memory_of a) (Image.memory_of b) i (same_size a b yes-a yes-b)

pub at_most_8192 : AtMost8192
at_most_8192 a b =
    elim (outcome a b) [
      | first no-a ↦ rw (refused_first a b no-a) (omega arith)
      | second yes-a no-b ↦ rw (refused_second a b yes-a no-b) (omega arith)
      | neither yes-a yes-b ↦
          rw (refused_neither a b yes-a yes-b)
          (omega (
            arith,
            at_most_half (differences (Image.memory_of a) (Image.memory_of b)),
            differences_length (Image.memory_of a) (Image.memory_of b) (same_size a b yes-a yes-b),
            memory_size a yes-a,
          ))
    ]

pub itself : Itself
itself a yes-a =
    let count : length (runs a a) ≡ 0 = (memories (Image.memory_of a) (Image.memory_of a) refl).1 refl in
    let none : runs a a ≡ [] = drop_of_length-le (runs a a) {i = 0} (omega arith) in
    refused_neither a a yes-a yes-a ∙ rw (no_weight a a 15 0 refl, none, no_places)

pub exchanges : Exchanges
exchanges a b one =
    elim (outcome a b) [
      | first no-a ↦ rw (refused_first a b no-a) (refused_second b a (one no-a) no-a)
      | second yes-a no-b ↦ rw (refused_second a b yes-a no-b) (refused_first b a no-b)
      | neither yes-a yes-b ↦
          rw (
            refused_neither a b yes-a yes-b,
            refused_neither b a yes-b yes-a,
            fields_exchanged a b 15 0,
            differences_exchanged (Image.memory_of a) (Image.memory_of b),
          )
    ]

pub read_alike : ReadAlike
read_alike a b m h z =
    let (yes-a, yes-b) = both_accepted a b z in
    let contents = memories (Image.memory_of a) (Image.memory_of b) (same_size a b yes-a yes-b) in
    rw (refused_neither a b yes-a yes-b, reads_whole a m h yes-a, reads_whole b m h yes-b) (
      λ (e, f). rw ((states a b).0 e, contents.0 f),
      λ e. ((states a b).1 (ap (λ (r : ReadResult). r.answer.state) e), contents.1 (ap (λ (r : ReadResult). r.memory) e)),
    )

format : (img : List ℕ) → Accepted img → Image.field_of img 0 ≡ Image.format
format img yes-img = (Content.sound img (faultless img yes-img).content_right).format

pub edition_alone : EditionAlone
edition_alone a b z e =
    let (yes-a, yes-b) = both_accepted a b z in
    rw (refused_neither a b yes-a yes-b) (lower a b (format a yes-a ∙ sym (format b yes-b)) ((states a b).1 e))
