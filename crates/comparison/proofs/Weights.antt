-- Which fields differ, as a number: n fields have weights below 2^n, and one field more in front doubles them.
use Prim.Native.Nat.{ℕ, zero, suc, ◌+◌, ◌^◌, ◌<◌, ◌≤◌}
use mathlib.Core.Bool.{not}
use mathlib.Core.List.{List}
use native.Mathlib.Omega.{arith}
use native.Mathlib.Nat.{pow-suc}
use lib.Pow.{pow_pos}
use lib.Dec.{eqb}
use Rattle.bits.proofs.Laws.{one_if_below}
use Rattle.comparison.specs.Compare.{field, fields_from}

pub fields_below : (a b : List ℕ) (n k m : ℕ) → n ≤ m → fields_from a b n k < 2 ^ m
unfolding fields_from
fields_below a b zero k m h = pow_pos m
fields_below a b (suc n) k zero h = absurd (omega arith)
fields_below a b (suc n) k (suc m) h =
    rw (pow-suc 2 m) (omega (arith, fields_below a b n (k + 1) m (omega arith), one_if_below (not (eqb (field a k) (field b k)))))
