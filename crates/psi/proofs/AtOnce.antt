-- A tick taken on the count and the flag for n ticks gives those for n + 1; so by induction any number of ticks can be worked out at
-- once. The count falls, or goes round as remainders do; the flag is set by the first tick that brings the count to 0, and stays.
use Prim.Native.Nat.{ℕ, zero, suc, ◌+◌, ◌-◌, ◌%◌, ◌<◌, ◌≤◌}
use mathlib.Core.Path.{◌≡◌, refl, sym, ap, ◌∙◌}
use mathlib.Core.Bool.{and-false}
use native.Mathlib.Omega.{arith}
use native.Mathlib.Nat.{sub-zero, zero-mod, mod-lt, mod-le, mod_self, mod-eq_of_lt, suc-mod}
use native.Mathlib.Decide.{dec_lt}
use lib.Dec.{eqb}
use borrow.Author.Tests.{eqb-true, eqb-false, eq-eqb, ne_eqb, le-leb, lt-leb}
use Rattle.psi.specs.declared.Psi.{Psi}
use Rattle.psi.specs.Psi.{with_count, control}
use Rattle.psi.specs.Clock.{counted, pended, followed, tick, ticks}
use Rattle.psi.specs.AtOnce.{largest, period, count_after, first_zero, pending_after, TicksAtOnce}
use Rattle.psi.proofs.Cases.{either_way}

-- one more in a round of P + 1: still below the end, or at the start again
within_round : (m P : ℕ) → m % (P + 1) < P → suc m % (P + 1) ≡ suc (m % (P + 1))
within_round m P h = suc-mod m (P + 1) ∙ mod-eq_of_lt (omega arith)

round_ends : (m P : ℕ) → P ≤ m % (P + 1) → suc m % (P + 1) ≡ 0
round_ends m P h =
    let last : suc (m % (P + 1)) ≡ P + 1 = omega (arith, mod-lt m {m = P + 1} (omega arith)) in
    suc-mod m (P + 1) ∙ ap (λ (x : ℕ). x % (P + 1)) last ∙ mod_self (P + 1)

-- the clock after n ticks, but for the read register
abbrev pub after : ℕ → Psi → Psi
after n p = with_count (count_after n p) (pending_after n p) p

-- the decrementer: while it falls, and m ticks after it went from 0 to the largest value
module _ (p : Psi) where
  falling : (n : ℕ) → n ≤ p.decrementer → count_after n p ≡ p.decrementer - n
  unfolding count_after
  falling n h = rw (le-leb n p.decrementer h)

  pub going_round : (m n : ℕ) → n ≡ p.decrementer + suc m → count_after n p ≡ largest p - m % period p
  unfolding count_after
  going_round m n e =
      let since : n - p.decrementer - 1 ≡ m = omega arith in
      rw (lt-leb n p.decrementer (omega arith), since)

  from_zero : (n : ℕ) → count_after n p ≡ 0 → counted (after n p) ≡ largest p
  unfolding counted largest
  from_zero n e = rw (eq-eqb (count_after n p) 0 e)

  from_more : (n : ℕ) → 0 < count_after n p → counted (after n p) ≡ count_after n p - 1
  unfolding counted
  from_more n h = rw (ne_eqb (count_after n p) 0 (λ e. omega arith))

  falls_on : (n : ℕ) → n < p.decrementer → counted (after n p) ≡ count_after (suc n) p
  falls_on n h =
      let here : count_after n p ≡ p.decrementer - n = falling n (omega arith) in
      omega (arith, from_more n (omega arith), falling (suc n) (omega arith))

  starts_round : (n : ℕ) → n ≡ p.decrementer → counted (after n p) ≡ count_after (suc n) p
  starts_round n e =
      omega (arith, from_zero n (omega (arith, falling n (omega arith))), going_round 0 (suc n) (omega arith), zero-mod (period p))

  goes_on_round : (m n : ℕ) → n ≡ p.decrementer + suc m → counted (after n p) ≡ count_after (suc n) p
  goes_on_round m n e =
      let here : count_after n p ≡ largest p - m % period p = going_round m n e in
      let next : count_after (suc n) p ≡ largest p - suc m % period p = going_round (suc m) (suc n) (omega arith) in
      elim (dec_lt (m % period p) (largest p)) [
        | yes l ↦ omega (arith, from_more n (omega arith), within_round m (largest p) l)
        | no g ↦ omega (arith, from_zero n (omega arith), round_ends m (largest p) (omega arith))
      ]

  count_next : (n : ℕ) → counted (after n p) ≡ count_after (suc n) p
  count_next n =
      elim (dec_lt n p.decrementer) [
        | yes l ↦ falls_on n l
        | no g ↦ elim (dec_lt p.decrementer n) [
          | yes l ↦ goes_on_round (n - p.decrementer - 1) n (omega arith)
          | no k ↦ starts_round n (omega arith)
        ]
      ]

-- the first tick that brings it to 0, and the pending flag
module _ (p : Psi) where
  pub first_of_fall : 0 < p.decrementer → first_zero p ≡ p.decrementer
  unfolding first_zero
  first_of_fall h = rw (ne_eqb p.decrementer 0 (λ e. omega arith))

  pub first_of_round : p.decrementer ≡ 0 → first_zero p ≡ period p
  unfolding first_zero
  first_of_round e = rw (eq-eqb p.decrementer 0 e)

  first_positive : 0 < first_zero p
  unfolding first_zero
  first_positive =
      either_way (λ (n : ℕ). 0 < n) (eqb p.decrementer 0) (λ e. omega arith) (λ e. omega (arith, eqb-false p.decrementer 0 e))

  pub zero_at_first : count_after (first_zero p) p ≡ 0
  zero_at_first =
      elim (dec_lt 0 p.decrementer) [
        | yes l ↦ rw (first_of_fall l) (omega (arith, falling p p.decrementer (omega arith)))
        | no g ↦ rw (first_of_round (omega arith)) (omega (arith, going_round p (largest p) (period p) (omega arith), mod-eq_of_lt {n = largest p} {m = period p} (omega arith)))
      ]

  none_before : (n : ℕ) → 0 < n → count_after n p ≡ 0 → first_zero p ≤ n
  none_before n h e =
      elim (dec_lt 0 p.decrementer) [
        | yes l ↦ elim (dec_lt p.decrementer n) [
          | yes k ↦ omega (arith, first_of_fall l)
          | no k ↦ omega (arith, first_of_fall l, falling p n (omega arith))
        ]
        | no g ↦ omega (arith, first_of_round (omega arith), going_round p (n - 1) n (omega arith), mod-le (n - 1) (period p))
      ]

  pending_unloaded : (n : ℕ) → p.load ≡ 0 → pending_after n p ≡ p.pending
  unfolding pending_after
  pending_unloaded n e = rw (eq-eqb p.load 0 e)

  pub pending_set : (n : ℕ) → 0 < p.load → first_zero p ≤ n → pending_after n p ≡ 1
  unfolding pending_after
  pending_set n l h = rw (ne_eqb p.load 0 (λ e. omega arith), le-leb (first_zero p) n h)

  pub pending_still : (n : ℕ) → n < first_zero p → pending_after n p ≡ p.pending
  unfolding pending_after
  pending_still n h = rw (lt-leb (first_zero p) n h, and-false)

  not_here : (n : ℕ) → 0 < p.load → (count_after (suc n) p ≡ 0 → ⊥) → pending_after n p ≡ pending_after (suc n) p
  not_here n l e =
      elim (dec_lt n (first_zero p)) [
        | yes h ↦ elim (dec_lt (suc n) (first_zero p)) [
          | yes k ↦ omega (arith, pending_still n h, pending_still (suc n) k)
          | no k ↦ let here : suc n ≡ first_zero p = omega arith in absurd (e (rw here zero_at_first))
        ]
        | no g ↦ omega (arith, pending_set n l (omega arith), pending_set (suc n) l (omega arith))
      ]

  pending_next : (n : ℕ) → pended (after n p) ≡ pending_after (suc n) p
  unfolding pended
  pending_next n =
      elim (dec_lt 0 p.load) [
        | yes l ↦
            rw (ne_eqb p.load 0 (λ e. omega arith), count_next p n)
            (either_way (λ (x : ℕ). x ≡ pending_after (suc n) p) (eqb (count_after (suc n) p) 0)
            (λ e. sym (pending_set (suc n) l (none_before (suc n) (omega arith) (eqb-true _ _ e))))
            (λ e. not_here n l (eqb-false _ _ e)))
        | no g ↦ let none : p.load ≡ 0 = omega arith in rw (eq-eqb p.load 0 none) (omega (arith, pending_unloaded n none, pending_unloaded (suc n) none))
      ]

-- in interrupt mode a tick overwrites the read register, so what it showed before does not matter
tick_followed : (p : Psi) → tick (followed p) ≡ tick p
unfolding tick followed counted pended
tick_followed p = either_way (λ (q : Psi). tick q ≡ tick p) (control p) (λ e. refl) (λ e. rw e)

module _ (p : Psi) where
  pub after_none : after 0 p ≡ p
  after_none = rw (falling p 0 (omega arith), pending_still p 0 (first_positive p), sub-zero p.decrementer)

  tick_after : (n : ℕ) → tick (after n p) ≡ followed (after (suc n) p)
  unfolding tick
  tick_after n = rw (count_next p n, pending_next p n)

  ticks_after : (n : ℕ) → ticks (suc n) p ≡ followed (after (suc n) p)
  unfolding ticks
  ticks_after zero = ap tick (sym after_none) ∙ tick_after 0
  ticks_after (suc n) = ap tick (ticks_after n) ∙ tick_followed (after (suc n) p) ∙ tick_after (suc n)

pub ticks_at_once : TicksAtOnce
ticks_at_once zero p h = absurd (omega arith)
ticks_at_once (suc n) p h = ticks_after p n
