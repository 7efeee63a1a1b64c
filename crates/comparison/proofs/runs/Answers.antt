-- `runs` meets its contract: what is found is what the memories have in their pages before page `i`.
use Prim.Native.Nat.{ℕ, ◌+◌, ◌*◌}
use mathlib.Core.Path.{◌≡◌, sym, ◌∙◌}
use mathlib.Core.List.{List}
use native.Mathlib.Omega.{arith}
use lib.ListN.{length, take}
use lib.Seq.{take_all, length-take-le}
use Rattle.differing_runs.specs.Runs.{differences}
use Rattle.differing_runs.proofs.Differences.{differences_length, next_part}
use Rattle.image_blocks.specs.Image.{memory_of}
use Rattle.image_blocks.proofs.Parts.{memory_length}
use Rattle.comparison.proofs.runs.Goals as goal

pub loop-i-init : goal.loop-i-init
unfolding differences
loop-i-init c = (c.nothing-found.ensures.address, rw c.requires c.nothing-found.ensures.holds)

pub loop-i-preserved : goal.loop-i-preserved
loop-i-preserved c =
    let a = c.args in
    let one : List ℕ = memory_of a.first.now in
    let two : List ℕ = memory_of a.second.now in
    let i : ℕ = c.loop-i.i in
    let at : c.loop-i.found.address ≡ 508 * i = omega (arith, c.loop-i.invariant.0) in
    let long-one : length one ≡ 16384 = memory_length a.first.now (omega arith) in
    let long-two : length two ≡ 16384 = memory_length a.second.now (omega arith) in
    let seen_one = length-take-le (508 * i) one (omega arith) in
    let seen : length (differences (take (508 * i) one) (take (508 * i) two)) ≡ 508 * i =
    differences_length (take (508 * i) one) (take (508 * i) two) (seen_one ∙ sym (length-take-le (508 * i) two (omega arith))) ∙ seen_one in
    let found =
    rw (
      c.page_of-one.ensures.value,
      c.page_of-other.ensures.value,
      ← next_part one two (508 * i) 508 (omega arith) (omega arith),
      let e : 508 * i + 508 ≡ 508 * (i + 1) = omega arith in e,
    ) at (c.scan.ensures.holds (differences (take (508 * i) one) (take (508 * i) two)) (seen ∙ sym at) c.loop-i.invariant.1) in
    (omega (arith, c.scan.ensures.address, c.page_of-one.ensures.length), found)

pub returns : goal.returns
returns c =
    let a = c.args in
    let one : List ℕ = memory_of a.first.now in
    let two : List ℕ = memory_of a.second.now in
    let all =
    rw (
      take_all (508 * c.loop-i.i) one (omega (arith, memory_length a.first.now (omega arith))),
      take_all (508 * c.loop-i.i) two (omega (arith, memory_length a.second.now (omega arith))),
    ) at c.loop-i.invariant.1 in
    record { value = c.runs.ensures.value _ _ all; list_after = all.written }
