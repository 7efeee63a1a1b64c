-- `fields` meets its contract: the weights are those of the fields from `k` on.
use Rattle.std.proofs.Common.{◌≡◌, ℕ, suc, ◌+◌, ◌-◌, ◌*◌, refl, arith}
use Rattle.bits.proofs.Laws.{one_if_byte}
use Rattle.comparison.specs.Compare.{fields_from}
use Rattle.comparison.proofs.Weights.{fields_below}
use Rattle.comparison.proofs.fields.Goals as goal

pub loop-k-init : goal.loop-k-init
unfolding fields_from
loop-k-init c = (omega arith, refl)

pub loop-k-preserved : goal.loop-k-preserved
unfolding fields_from
loop-k-preserved c =
    let a = c.args.first.now in
    let b = c.args.second.now in
    let k : ℕ = c.loop-k.k in
    let more : 15 - (k - 1) ≡ suc (15 - k) = omega arith in
    let next : k - 1 + 1 ≡ k = omega arith in
    let weighed : 2 * c.loop-k.weights + c.from.result ≡ fields_from a b (15 - (k - 1)) (k - 1) =
    rw (more, next, ← c.field.ensures, ← c.field-in-loop-k.ensures, ← c.loop-k.invariant.1, c.from.ensures, one_if_byte) (omega arith) in
    (omega (arith, weighed, fields_below a b (15 - (k - 1)) (k - 1) 15 (omega arith)), weighed)
