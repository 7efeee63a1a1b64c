-- S0 by a CRU bit's number: 0 below 16, and 1 from 16 to 31.
use Prim.Native.Nat.{ℕ, ◌/◌, ◌%◌, ◌^◌, ◌<◌, ◌≤◌}
use mathlib.Core.Path.{◌≡◌}
use mathlib.Core.Bool.{true, false}
use native.Mathlib.Omega.{arith}
use borrow.Author.Tests.{eq-eqb, ne_eqb}
use Rattle.bits.specs.Bits.{bit}
use Rattle.psi.specs.Psi.{bits}
use Rattle.psi.specs.Cru.{cru_select}

pub s0_low : (n : ℕ) → n < 16 → bit cru_select n ≡ false
unfolding bit
s0_low n h = ne_eqb (n / 2 ^ cru_select % 2) 1 (omega arith)

pub s0_high : (n : ℕ) → 16 ≤ n → n < bits → bit cru_select n ≡ true
unfolding bit
s0_high n l h = eq-eqb _ _ (let e : n / 2 ^ cru_select % 2 ≡ 1 = omega arith in e)
