-- Where the test succeeds, an enabled request is one of those that are surely inactive. The record shows its pin high, and no port
-- drives it; if it is request 3, the clock is not pending. So none is enabled and active, and the search's answer is 0.
use Prim.Native.Nat.{ℕ, suc, ◌-◌, ◌/◌, ◌%◌, ◌^◌, ◌<◌, ◌≤◌}
use mathlib.Core.Path.{◌≡◌, refl, sym, ap, ◌∙◌}
use mathlib.Core.Bool.{Bool, true, false, not, ◌&&◌, not-not}
use native.Mathlib.Omega.{arith}
use native.Mathlib.Decide.{dec_lt}
use lib.Dec.{eqb, ltb}
use lib.Bits.{bit_and, and_mask}
use borrow.Author.Tests.{eqb-true, eqb-false, ne_eqb, ltb-true, ltb-false, le-ltb}
use Rattle.bits.specs.Bits.{bit}
use Rattle.bits.proofs.Laws.{conjuncts, bit_half}
use Rattle.bits.proofs.Joined.{and_bit, without_bit}
use Rattle.psi.specs.declared.Psi.{Psi}
use Rattle.psi.specs.Pins.{port_weight, port_level, request_level, active, requested, request}
use Rattle.psi.specs.Quiet.{enabled, unshared, high, clock_request, inactive, quiet, QuietMeaning}
use Rattle.psi.proofs.Cases.{either_way}
use Rattle.psi.proofs.Search.{unset_above}
use Rattle.psi.proofs.RequestLaws.{request_meaning}

and_not : (a b : Bool) → (a ≡ true → b ≡ false) → (a && b) ≡ false
and_not true b f = f refl
and_not false b f = refl

module _ (s : Psi) (v : ℕ) where
  -- what is surely high is high in the record
  in_record : (m : ℕ) → bit m (high s v) ≡ true → bit m v ≡ true
  unfolding high
  in_record m =
      either_way (λ (w : ℕ). bit m w ≡ true → bit m v ≡ true) (ltb s.direction 0x80)
      (λ e h. h)
      (λ e h. (conjuncts (bit m v) _ (sym (and_bit m v (2 ^ unshared - 1)) ∙ ap (bit m) (and_mask v unshared) ∙ h)).0)

  -- past the unshared pins only where P7 to P15 are inputs
  inputs : (m : ℕ) → unshared ≤ m → bit m (high s v) ≡ true → s.direction / 2 ^ 7 ≡ 0
  unfolding high
  inputs m l =
      either_way (λ (w : ℕ). bit m w ≡ true → s.direction / 2 ^ 7 ≡ 0) (ltb s.direction 0x80)
      (λ e h. omega (arith, ltb-true s.direction _ e))
      (λ e h. cc (unset_above (v % 2 ^ unshared) unshared m (omega arith) l))

  pin_high : (n : ℕ) → 0 < n → n < 16 → bit (n - 1) (high s v) ≡ true → request_level s v n ≡ true
  unfolding request_level port_level port_weight
  pin_high n pos l h =
      either_way (λ (b : Bool). b ≡ true) (ltb n 7)
      (λ e. in_record (n - 1) h)
      (λ e.
      let p : ℕ = 22 - n in
      let from : unshared ≤ n - 1 = omega (arith, ltb-false n 7 e) in
      let weight : 21 - p ≡ n - 1 = omega arith in
      rw (unset_above s.direction 7 p (inputs (n - 1) from h) (omega arith), le-ltb p 7 (omega arith), weight)
      (in_record (n - 1) h))

  not_pending : bit 2 (clock_request s) ≡ false → eqb s.pending 1 ≡ false
  unfolding bit
  not_pending e = ne_eqb s.pending 1 (λ z. omega (arith, eqb-false (clock_request s / 2 ^ 2 % 2) 1 e))

  not_active : (n : ℕ) → 0 < n → n < 16 → bit (n - 1) (inactive s v) ≡ true → active s v n ≡ false
  unfolding active inactive
  not_active n pos l h =
      let known = conjuncts (bit (n - 1) (high s v)) _ (sym (without_bit (n - 1) (high s v) (clock_request s)) ∙ h) in
      either_way (λ (b : Bool). b ≡ false) (eqb n 3 && not (eqb s.load 0))
      (λ e.
      let third : n - 1 ≡ 2 = omega (arith, eqb-true n 3 (conjuncts _ _ e).0) in
      not_pending (sym (not-not _) ∙ ap not (rw third at known.1)))
      (λ e. ap not (pin_high n pos l known.0))

  enabled_mask : (n : ℕ) → 0 < n → bit (n - 1) (enabled s) ≡ bit n s.mask
  enabled_mask n pos =
      let half : enabled s ≡ s.mask / 2 = omega arith in
      let d : n ≡ suc (n - 1) = omega arith in
      ap (bit (n - 1)) half ∙ sym (ap (λ (x : ℕ). bit x s.mask) d ∙ bit_half (n - 1) s.mask)

  not_requested : quiet s v ≡ true → (n : ℕ) → 0 < n → n < 16 → requested s v n ≡ false
  unfolding requested quiet
  not_requested q n pos l =
      let known : bit_and (enabled s) (inactive s v) ≡ enabled s = eqb-true _ _ q in
      and_not _ _
      (λ e.
      not_active n pos l
      (conjuncts (bit (n - 1) (enabled s)) _
      (sym (and_bit (n - 1) (enabled s) (inactive s v)) ∙ ap (bit (n - 1)) known ∙ enabled_mask n pos ∙ e)).1)

pub quiet_meaning : QuietMeaning
quiet_meaning s v q =
    elim (dec_lt 0 (request s v)) [
      | yes h ↦ let found = (request_meaning s v).found h in cc (not_requested s v q (request s v) h found.0)
      | no g ↦ omega arith
    ]
