-- The claims: what was shown of the runs from any address on, at address 0.
use Prim.Native.Nat.{zero, suc}
use mathlib.Core.Path.{refl}
use mathlib.Core.Bool.{false}
use mathlib.Core.List.{[], ◌∷◌}
use native.Mathlib.Omega.{arith}
use Rattle.differing_runs.specs.Runs.{differences, runs_of}
use Rattle.differing_runs_claims.specs.Claims.{ByteByByte, MaximalStretches, RisingApart, CoversExactly, OnlyList, AtMostHalf, FirstAreListed}
use Rattle.differing_runs_claims.proofs.Runs.{run_is_maximal, covered, apart, halved}
use Rattle.differing_runs_claims.proofs.Order.{one_list}
use Rattle.differing_runs_claims.proofs.Places.{listing}

pub byte_by_byte : ByteByByte
unfolding differences
byte_by_byte [] [] i h = refl
byte_by_byte [] (y ∷ b) i h = absurd (omega arith)
byte_by_byte (x ∷ a) [] i h = absurd (omega arith)
byte_by_byte (x ∷ a) (y ∷ b) zero h = refl
byte_by_byte (x ∷ a) (y ∷ b) (suc i) h = byte_by_byte a b i (omega arith)

pub maximal_stretches : MaximalStretches
maximal_stretches = run_is_maximal

pub rising_apart : RisingApart
rising_apart = apart false 0

pub covers_exactly : CoversExactly
covers_exactly d i = (
  λ h.
      let (r, m, l, u) = covered d i h in
      (r, (run_is_maximal d r).1 m, l, u),
  λ (r, run, l, u). ((run_is_maximal d r).0 run).differing i l u,
)

pub only_list : OnlyList
only_list d l lists =
    one_list l (runs_of d) lists.rising (λ j k h f. omega (arith, apart false 0 d j k h f))
    (λ r p. (run_is_maximal d r).1 ((lists.maximal r).0 p))
    (λ r p. (lists.maximal r).1 ((run_is_maximal d r).0 p))

pub at_most_half : AtMostHalf
at_most_half d = omega (arith, halved false 0 d)

pub first_are_listed : FirstAreListed
first_are_listed = listing
