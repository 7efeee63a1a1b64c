-- Most is read off the law of ticks at once: ticks leave the phase alone, so m + n cycles have the ticks of m cycles and then those of
-- n; pending comes with the first tick that brings the decrementer to 0. A period goes down to 0, to the largest value, and down again.
use Rattle.std.specs.Prelude.{if◌then◌else◌}
use Prim.Native.Nat.{ℕ, zero, suc, ◌+◌, ◌-◌, ◌/◌, ◌%◌, ◌<◌, ◌≤◌}
use mathlib.Core.Path.{◌≡◌, refl, sym, ap, ◌∙◌}
use mathlib.Core.Bool.{not, and-true}
use native.Mathlib.Omega.{arith}
use native.Mathlib.Nat.{add-zero, add-suc, mod-eq_of_lt}
use native.Mathlib.Numerals.{add-one}
use lib.Dec.{eqb}
use borrow.Author.Tests.{ne_eqb, le-leb}
use Rattle.psi.specs.declared.Psi.{Psi}
use Rattle.psi.specs.Psi.{control, with_phase, with_pending}
use Rattle.psi.specs.Clock.{followed, ticks, advanced}
use Rattle.psi.specs.AtOnce.{largest, period, count_after, first_zero, pending_after}
use Rattle.psi.specs.ClockLaws.{CycleByCycle, PendingAt, CountsDown, Period, WholePeriod}
use Rattle.psi.proofs.Cases.{either_way}
use Rattle.psi.proofs.AtOnce.{after, going_round, first_of_fall, first_of_round, zero_at_first, pending_set, pending_still, after_none, ticks_at_once}

-- what following the decrementer leaves alone
module _ (p : Psi) where
  followed_count : (followed p).decrementer ≡ p.decrementer
  unfolding followed
  followed_count = either_way (λ (q : Psi). q.decrementer ≡ p.decrementer) (control p) (λ e. refl) (λ e. refl)

  followed_pending : (followed p).pending ≡ p.pending
  unfolding followed
  followed_pending = either_way (λ (q : Psi). q.pending ≡ p.pending) (control p) (λ e. refl) (λ e. refl)

  followed_with_phase : (x : ℕ) → followed (with_phase x p) ≡ with_phase x (followed p)
  unfolding followed
  followed_with_phase x = either_way (λ (q : Psi). q ≡ with_phase x (followed p)) (control p) (λ e. rw e) (λ e. rw e)

module _ (p : Psi) where
  ticks_count : (n : ℕ) → (ticks n p).decrementer ≡ count_after n p
  unfolding ticks
  ticks_count zero = ap (λ (q : Psi). q.decrementer) (sym (after_none p))
  ticks_count (suc n) = rw (ticks_at_once (suc n) p (omega arith)) (followed_count (after (suc n) p))

  ticks_pending : (n : ℕ) → (ticks n p).pending ≡ pending_after n p
  unfolding ticks
  ticks_pending zero = ap (λ (q : Psi). q.pending) (sym (after_none p))
  ticks_pending (suc n) = rw (ticks_at_once (suc n) p (omega arith)) (followed_pending (after (suc n) p))

  ticks_with_phase : (x n : ℕ) → ticks n (with_phase x p) ≡ with_phase x (ticks n p)
  unfolding ticks largest count_after first_zero pending_after
  ticks_with_phase x zero = refl
  ticks_with_phase x (suc n) = rw (ticks_at_once (suc n) (with_phase x p) (omega arith), ticks_at_once (suc n) p (omega arith)) (followed_with_phase (after (suc n) p) x)

  ticks_sum : (m n : ℕ) → ticks (m + n) p ≡ ticks n (ticks m p)
  unfolding ticks
  ticks_sum m zero = rw add-zero
  ticks_sum m (suc n) = rw (add-suc, ticks_sum m n)

advanced_sum : (m n : ℕ) (p : Psi) → advanced (m + n) p ≡ advanced n (advanced m p)
unfolding advanced
advanced_sum m n p =
    let a : ℕ = (p.phase + m) / 64 in
    let b : ℕ = (p.phase + m) % 64 in
    let c : ℕ = (b + n) / 64 in
    let d : ℕ = (b + n) % 64 in
    let count : (p.phase + (m + n)) / 64 ≡ a + c = omega arith in
    let rest : (p.phase + (m + n)) % 64 ≡ d = omega arith in
    rw (ticks_with_phase p b a, count, rest, ticks_with_phase p d (a + c), ticks_sum p a c)
    (sym (ticks_with_phase (ticks a p) d c))

-- one cycle, by what the phase comes to
one_cycle : (p : Psi) (n r : ℕ) → (p.phase + 1) / 64 ≡ n → (p.phase + 1) % 64 ≡ r → advanced 1 p ≡ ticks n (with_phase r p)
unfolding advanced
one_cycle p n r e f = rw (e, f)

no_cycle : (p : Psi) → p.phase < 64 → advanced 0 p ≡ p
unfolding advanced ticks
no_cycle p h =
    let e : (p.phase + 0) / 64 ≡ 0 = omega arith in
    let f : (p.phase + 0) % 64 ≡ p.phase = omega arith in
    rw (e, f)

pub cycle_by_cycle : CycleByCycle
unfolding ticks
cycle_by_cycle =
    record {
      none = no_cycle;
      within = λ p h. one_cycle p 0 (p.phase + 1) (omega arith) (omega arith);
      round = λ p h. one_cycle p 1 0 (omega arith) (omega arith);
      more = λ n p. rw (← add-one n) (advanced_sum n 1 p);
      apart = advanced_sum;
    }

-- pending comes with the first tick that brings the decrementer to 0
module _ (p : Psi) (loaded : 0 < p.load) (none : p.pending ≡ 0) where
  pending_at : (n : ℕ) → first_zero p ≡ n → PendingAt n p
  pending_at n e =
      record {
        before = λ k h. ticks_pending p k ∙ pending_still p k (omega arith) ∙ none;
        comes = ticks_pending p n ∙ pending_set p n loaded (omega arith);
        zero = ticks_count p n ∙ rw (← e) (zero_at_first p);
      }

largest_loaded : (p : Psi) → 0 < p.load → largest p ≡ p.load
unfolding largest
largest_loaded p h = rw (ne_eqb p.load 0 (λ e. omega arith))

pub counts_down : CountsDown
counts_down p loaded none h = pending_at p loaded none p.decrementer (first_of_fall p h)

pub comes_round : Period
comes_round p loaded none h = pending_at p loaded none (p.load + 1) (omega (arith, first_of_round p h, largest_loaded p loaded))

-- a period later
module _ (p : Psi) (h : p.decrementer ≤ largest p) where
  same_count : count_after (period p) p ≡ p.decrementer
  same_count =
      let m : ℕ = largest p - p.decrementer in
      omega (arith, going_round p m (period p) (omega arith), mod-eq_of_lt {n = m} {m = period p} (omega arith))

  first_within : first_zero p ≤ period p
  unfolding first_zero
  first_within = either_way (λ (n : ℕ). n ≤ period p) (eqb p.decrementer 0) (λ e. omega arith) (λ e. omega arith)

  flag_by_load : pending_after (period p) p ≡ (if not (eqb p.load 0) then 1 else p.pending)
  unfolding pending_after
  flag_by_load = rw (le-leb (first_zero p) (period p) first_within, and-true)

pub whole_period : WholePeriod
unfolding followed
whole_period p h r =
    rw (ticks_at_once (period p) p (omega arith), same_count p h, flag_by_load p h)
    (either_way (λ (q : Psi). q ≡ with_pending (if not (eqb p.load 0) then 1 else p.pending) p) (control p) (λ e. refl) (λ e. rw (r e)))
