-- The search for the lowest request: one turn of it, and where it may end. Past the highest mask bit that is set, nothing is enabled.
use Prim.Native.Nat.{ℕ, zero, suc, ◌+◌, ◌-◌, ◌/◌, ◌^◌, ◌<◌, ◌≤◌}
use mathlib.Core.Path.{◌≡◌, refl}
use mathlib.Core.Bool.{true, false}
use native.Mathlib.Omega.{arith}
use native.Mathlib.Nat.{zero-div}
use lib.Pow.{shr-shr}
use Rattle.bits.specs.Bits.{bit}
use Rattle.psi.specs.declared.Psi.{Psi}
use Rattle.psi.specs.Pins.{requested, lowest}

-- no bit from n on where nothing is left of w above its lowest n
none_above : (w n m : ℕ) → w / 2 ^ n ≡ 0 → n ≤ m → w / 2 ^ m ≡ 0
none_above w n m e h =
    let d : m ≡ n + (m - n) = omega arith in
    rw (d, ← shr-shr w n (m - n), e) (zero-div _)

pub unset_above : (w n m : ℕ) → w / 2 ^ n ≡ 0 → n ≤ m → bit m w ≡ false
unfolding bit
unset_above w n m e h = rw (none_above w n m e h)

module _ (s : Psi) (v : ℕ) where
  pub lowest_none : (k n : ℕ) → s.mask / 2 ^ n ≡ 0 → lowest s v k n ≡ 0
  unfolding lowest requested
  lowest_none zero n e = refl
  lowest_none (suc k) n e =
      rw (unset_above s.mask n n e (omega arith))
      (lowest_none k (n + 1) (none_above s.mask n (n + 1) e (omega arith)))

  pub lowest_here : (n : ℕ) → n < 16 → requested s v n ≡ true → lowest s v (16 - n) n ≡ n
  unfolding lowest
  lowest_here n h e = let d : 16 - n ≡ suc (15 - n) = omega arith in rw (d, e)

  pub lowest_beyond :
      (n : ℕ) → n < 16 → requested s v n ≡ false → lowest s v (16 - n) n ≡ lowest s v (16 - (n + 1)) (n + 1)
  unfolding lowest
  lowest_beyond n h e =
      let d : 16 - n ≡ suc (16 - (n + 1)) = omega arith in
      rw (d, e)
