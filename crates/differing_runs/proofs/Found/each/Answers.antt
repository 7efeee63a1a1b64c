-- `Found::each` meets its contract: what is found is what the bytes before have and the parts' bytes that the loop has gone over.
use Rattle.std.proofs.Common.{◌≡◌, ℕ, ◌+◌, ◌<◌, Bool, true, false, not, eqb, List, [], ◌∷◌, ◌++◌, length, get_or, take, rules, sym, ap, ◌∙◌, append-nil, append_assoc, length-append, length-take-le, eq-eqb, ne_eqb, arith}
use Rattle.std.proofs.lemmas.Slice.Zip.{zip_turn}
use Rattle.std.proofs.lemmas.List.{length_push}
use Rattle.differing_runs.specs.Runs.{differences}
use Rattle.differing_runs.specs.Scan.{Holds}
use Rattle.differing_runs.specs.declared.Found.{Found}
use Rattle.differing_runs.proofs.Differences.{one_more, differences_length}
use Rattle.differing_runs.proofs.Found.each.Goals as goal

pub loop-one-init : goal.loop-one-init
unfolding differences
loop-one-init c = (omega arith, λ seen l h. rw (append-nil seen) h)

-- one byte more
next :
    (a b : List ℕ) (i j : ℕ) (at : ℕ) (before after : Found) (old new : List ℕ) (d : Bool)
    → length a ≡ length b → i < length a → j ≡ i + 1 → not (eqb (get_or a i 0) (get_or b i 0)) ≡ d
    → ((seen : List Bool) → length seen ≡ at + i → Holds seen before old → Holds (seen ++ d ∷ []) after new)
    → (seen : List Bool) → length seen ≡ at → Holds (seen ++ differences (take i a) (take i b)) before old → Holds (seen ++ differences (take j a) (take j b)) after new
next a b i j at before after old new d same l n e more seen m h =
    let so_far : List Bool = differences (take i a) (take i b) in
    let long : length so_far ≡ i =
    differences_length (take i a) (take i b) (length-take-le i a (omega arith) ∙ sym (length-take-le i b (omega arith)))
    ∙ length-take-le i a (omega arith) in
    rw (n, one_more a b i same l, e, ← append_assoc seen so_far (d ∷ []))
    (more (seen ++ so_far) (length-append seen so_far ∙ omega arith) h)

pub loop-one-preserved-then-one-other : goal.loop-one-preserved-then-one-other
loop-one-preserved-then-one-other c =
    let a = c.args.first.now in
    let b = c.args.second.now in
    let i : ℕ = length c.loop-one.yielded in
    let n = length_push c.loop-one.yielded (c.in-Some.one, c.in-Some.other) in
    let turn = zip_turn a b c.loop-one.yielded c.into_iter-one-iterator.result c.loop-one.one-iterator c.next.new.self c.next.result (search rules) (search rules) c.loop-one.yielded_by _ c.in-Some.is c.next.ensures.steps in
    let e : eqb (get_or a i 0) (get_or b i 0) ≡ true = rw (← turn.2 0, ← turn.3 0) (eq-eqb _ _ c.if-one-other.true) in (
      omega (arith, n),
      λ seen m h. next a b i _ c.args.self.now.address c.loop-one.found _ c.loop-one.list _ false c.requires.same_size turn.0 n (ap not e) (λ s l g. c.agree.ensures.holds s _ g) seen m (c.loop-one.invariant.1 seen m h),
    )

pub loop-one-preserved : goal.loop-one-preserved
loop-one-preserved c =
    let a = c.args.first.now in
    let b = c.args.second.now in
    let i : ℕ = length c.loop-one.yielded in
    let n = length_push c.loop-one.yielded (c.in-Some.one, c.in-Some.other) in
    let turn = zip_turn a b c.loop-one.yielded c.into_iter-one-iterator.result c.loop-one.one-iterator c.next.new.self c.next.result (search rules) (search rules) c.loop-one.yielded_by _ c.in-Some.is c.next.ensures.steps in
    let e : eqb (get_or a i 0) (get_or b i 0) ≡ false = rw (← turn.2 0, ← turn.3 0) (ne_eqb _ _ c.if-one-other.false) in (
      omega (arith, n),
      λ seen m h. next a b i _ c.args.self.now.address c.loop-one.found _ c.loop-one.list _ true c.requires.same_size turn.0 n (ap not e) (λ s l g. c.differ.ensures.holds s (l ∙ sym c.loop-one.invariant.0) g) seen m (c.loop-one.invariant.1 seen m h),
    )
