-- Where a has no one that b lacks, there is none either once a bit is put in both: by the recursion of `put`, digit by digit.
use Prim.Native.Nat.{ℕ, zero, suc, ◌/◌}
use mathlib.Core.Path.{◌≡◌, refl}
use mathlib.Core.Bool.{Bool, true, not, ◌&&◌, and-false}
use native.Mathlib.Omega.{arith}
use Rattle.bits.specs.Bits.{put}
use Rattle.bits.specs.Logic.{joined, without}
use Rattle.bits.proofs.Laws.{one_if_below, put_lowest, put_above, put_read, put_others}

-- where a has no one that b lacks, there is none either once a bit is put in both, a one in b
none_put :
    (j k : ℕ) (x : Bool) (a b : ℕ) → joined (λ p q. p && not q) j a b ≡ 0 →
    joined (λ p q. p && not q) j (put k x a) (put k true b) ≡ 0
unfolding joined
none_put zero k x a b e = refl
none_put (suc j) zero x a b e =
    let halfa : put 0 x a / 2 ≡ a / 2 = omega (arith, put_lowest x a, one_if_below x) in
    let halfb : put 0 true b / 2 ≡ b / 2 = omega (arith, put_lowest true b) in
    let rest : joined (λ p q. p && not q) j (a / 2) (b / 2) ≡ 0 = omega arith in
    rw (halfa, halfb, rest, put_read 0 true b, and-false)
none_put (suc j) (suc k) x a b e =
    let halfa : put (suc k) x a / 2 ≡ put k x (a / 2) = omega (arith, put_above k x a) in
    let halfb : put (suc k) true b / 2 ≡ put k true (b / 2) = omega (arith, put_above k true b) in
    let rest : joined (λ p q. p && not q) j (a / 2) (b / 2) ≡ 0 = omega arith in
    rw (
      halfa,
      halfb,
      none_put j k x (a / 2) (b / 2) rest,
      put_others 0 (suc k) x a (omega arith),
      put_others 0 (suc k) true b (omega arith),
    )
    (omega arith)

pub without_put : (k : ℕ) (x : Bool) (a b : ℕ) → without a b ≡ 0 → without (put k x a) (put k true b) ≡ 0
unfolding without
without_put k x a b e = none_put 16 k x a b e
