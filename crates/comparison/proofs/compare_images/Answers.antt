-- `compare_images` meets its contract: the images are judged in the definition's order, and a refusal leaves zeros in all places.
use Rattle.std.proofs.Common.{◌≡◌, ℕ, Ok, Err, List, rules, refl, sym, ap, ◌∙◌, eqb, true, false, eq-eqb, ne_eqb}
use Rattle.std.specs.Prelude.{⊤}
use Rattle.refusals.specs.declared.Refusal.{Refusal}
use Rattle.refusals.specs.Refusals.{number_of, block_of}
use Rattle.differing_runs.specs.Runs.{numbers, places}
use Rattle.image.specs.Calls.{Fault, fault_of, image_fault}
use Rattle.refusals.proofs.Laws.{never_0}
use Rattle.comparison.specs.Compare.{compare, compare_answer, image_refused, refusal}
use Rattle.comparison.specs.declared.ComparisonRefused.TheVariants.{First, Second}
use Rattle.comparison.proofs.compare_images.Goals as goal

-- an image that is refused, and one that is not
refused : (img : List ℕ) (r : Refusal) → fault_of {A = ⊤} (Err r) ≡ image_fault img → eqb (image_fault img).number 0 ≡ false
unfolding number_of
refused img r e = ne_eqb _ _ (λ z. never_0 r (ap (λ (f : Fault). f.number) e ∙ z))

sound : (img : List ℕ) → fault_of {A = ⊤} (Ok tt) ≡ image_fault img → eqb (image_fault img).number 0 ≡ true
unfolding number_of
sound img e = eq-eqb _ _ (sym (ap (λ (f : Fault). f.number) e))

pub returns-in_err-one : goal.returns-in_err-one
unfolding compare compare_answer image_refused refusal number_of block_of numbers places
returns-in_err-one c =
    let (r, f, same) : (r : Refusal) × (c.checked.result ≡ Err r) × (c.from_residual.result ≡ Err (First r)) = search rules in
    let fault = rw f at c.checked.ensures.fault in
    let e = refused c.args.first.now r fault in
    record { value = rw (same, e, ← fault); list_after = rw e }

pub returns-in_err-two : goal.returns-in_err-two
unfolding compare compare_answer image_refused refusal number_of block_of numbers places
returns-in_err-two c =
    let f : c.checked.result ≡ Ok c.in_ok-one.one = search rules in
    let (r, g, same) : (r : Refusal) × (c.checked-2.result ≡ Err r) × (c.from_residual-in_err-two.result ≡ Err (Second r)) = search rules in
    let fault = rw g at c.checked-2.ensures.fault in
    let e = sound c.args.first.now (rw f at c.checked.ensures.fault) in
    let n = refused c.args.second.now r fault in
    record { value = rw (same, e, n, ← fault); list_after = rw (e, n) }

pub runs-requires : goal.runs-requires
unfolding numbers places
runs-requires c = refl

pub returns : goal.returns
unfolding compare compare_answer number_of block_of
returns c =
    let f : c.checked.result ≡ Ok c.in_ok-one.one = search rules in
    let g : c.checked-2.result ≡ Ok c.in_ok-two.two = search rules in
    let first : c.in_ok-one.one.now ≡ c.args.first.now = search rules in
    let second : c.in_ok-two.two.now ≡ c.args.second.now = search rules in
    let d = sound c.args.first.now (rw f at c.checked.ensures.fault) in
    let e = sound c.args.second.now (rw g at c.checked-2.ensures.fault) in
    record {
      value = rw (d, e, c.fields.ensures, c.runs.ensures.value, first, second);
      list_after = rw (d, e, c.runs.ensures.list_after, first, second);
    }
