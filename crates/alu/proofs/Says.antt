-- What the status bits say: a bit that was put reads back, and putting another leaves it. For NEG, ABS and DEC the tests that the
-- definitions make are then tests of the operand alone.
use Rattle.std.proofs.Common.{◌≡◌, ℕ, zero, suc, ◌+◌, ◌%◌, ◌<◌, Bool, false, not, ◌&&◌, eqb, ltb, leb, sym, refl, ◌∙◌, arith, le-ltb, lt-ltb, ne_eqb, le-leb}
use native.Mathlib.Decide.{ℕ_discrete}
use lib.Signed.{lt_z}
use borrow.Author.Tests.{lt-leb}
use Rattle.bits.specs.Bits.{bit}
use Rattle.bits.proofs.Laws.{put_read, put_others}
use Rattle.memory.specs.declared.Width.TheVariants.{Word}
use Rattle.alu.specs.Status.{signed, compared, parity, carried}
use Rattle.alu.specs.Raised.{raised}
use Rattle.alu.specs.Sums.{sum, difference, negated, absolute, difference_overflows}
use Rattle.alu.specs.Laws.{ComparedSays, ParitySays, SumSays, DifferenceSays, NegatedSays, AbsoluteSays, AbsoluteValue, DecrementedCarry, DecrementedTwiceCarry}
use Rattle.alu.proofs.Laws.{either_side, sign_bit}
use Rattle.alu.proofs.Raised.{raised_order, raised_difference}

pub compared_says : ComparedSays
unfolding compared
compared_says w a b st = (
  put_read 15 _ _,
  put_others 14 15 _ _ (omega arith) ∙ put_read 14 _ _,
  put_others 13 15 _ _ (omega arith) ∙ put_others 13 14 _ _ (omega arith) ∙ put_read 13 _ _,
)

pub parity_says : ParitySays
unfolding parity
parity_says v st = put_read 10 _ _

carried_says : (c o : Bool) (st : ℕ) → (bit 12 (carried c o st) ≡ c) × (bit 11 (carried c o st) ≡ o)
unfolding carried
carried_says c o st = (put_read 12 c _, put_others 11 12 c _ (omega arith) ∙ put_read 11 o st)

-- C and OV leave the bits above them
carried_keeps : (n : ℕ) (c o : Bool) (st : ℕ) → 12 < n → bit n (carried c o st) ≡ bit n st
unfolding carried
carried_keeps n c o st h = put_others n 12 c _ (omega arith) ∙ put_others n 11 o st (omega arith)

pub sum_says : SumSays
unfolding sum
sum_says w a b st = carried_says _ _ _

pub difference_says : DifferenceSays
unfolding difference
difference_says w d s st = carried_says _ _ _

none_below : (v : ℕ) → leb v 0 ≡ eqb v 0
none_below zero = refl
none_below (suc v) = lt-leb (suc v) 0 (omega arith) ∙ sym (ne_eqb (suc v) 0 (omega arith))

one_at_least : (v : ℕ) → leb 1 v ≡ not (eqb v 0)
one_at_least zero = refl
one_at_least (suc v) = rw (le-leb 1 (suc v) (omega arith), ne_eqb (suc v) 0 (omega arith))

-- 0 less v lies outside the signed words only for v = -32768
negation_overflows : (v : ℕ) → v < 65536 → difference_overflows Word 0 v ≡ eqb v 32768
unfolding raised
negation_overflows v h = choose (ℕ_discrete v 32768)
  where
    choose : Dec (v ≡ 32768) → difference_overflows Word 0 v ≡ eqb v 32768
    choose (yes e) = rw e (raised_difference Word 0 32768)
    choose (no n) =
        raised_difference Word 0 v
        ∙ simp (le-ltb 65536 ((v + 32768) % 65536) (omega arith), lt-leb ((v + 32768) % 65536 + 32768) 32768 (omega arith), ne_eqb v 32768 n)

pub negated_says : NegatedSays
unfolding negated
negated_says v st h = (
  (difference_says Word 0 v st).0 ∙ none_below v,
  (difference_says Word 0 v st).1 ∙ negation_overflows v h,
)

-- above 0 as a signed number
positive : (v : ℕ) → v < 65536 → lt_z (signed Word 0) (signed Word v) ≡ ltb 0 v && ltb v 32768
unfolding raised
positive v h =
    raised_order Word 0 v
    ∙ either_side 0 v
    (λ some. either_side v 32768
    (λ l. simp (lt-ltb 32768 ((v + 32768) % 65536) (omega arith), lt-ltb 0 v some, lt-ltb v 32768 l))
    (λ g. simp (le-ltb 32768 ((v + 32768) % 65536) (omega arith), lt-ltb 0 v some, le-ltb v 32768 g)))
    (λ none. rw (let e : v ≡ 0 = omega arith in e))

pub absolute_says : AbsoluteSays
unfolding absolute
absolute_says v st h =
    let o : Bool = eqb v 32768 in
    let before : ℕ = compared Word v 0 st in (
      carried_keeps 15 false o before (omega arith) ∙ (compared_says Word v 0 st).0,
      carried_keeps 14 false o before (omega arith) ∙ (compared_says Word v 0 st).1 ∙ positive v h,
      carried_keeps 13 false o before (omega arith) ∙ (compared_says Word v 0 st).2,
      (carried_says false o before).0,
      (carried_says false o before).1,
    )

pub absolute_value : AbsoluteValue
unfolding absolute
absolute_value v st h =
    rw (sign_bit v h)
    (either_side v 32768
    (λ l. simp (lt-leb 32768 v l, lt-ltb v 32768 l))
    (λ g. simp (le-leb 32768 v g, le-ltb v 32768 g) (omega arith)))

pub decremented_carry : DecrementedCarry
decremented_carry v st = (difference_says Word v 1 st).0 ∙ one_at_least v

pub decremented_twice_carry : DecrementedTwiceCarry
decremented_twice_carry v st = (difference_says Word v 2 st).0
