-- Every value is one of its width's and every status is a word: a remainder is below its modulus, and putting a bit below 16 leaves
-- a word a word.
use Rattle.std.specs.Prelude.{if◌then◌else◌}
use Rattle.std.proofs.Common.{ℕ, ◌+◌, ◌-◌, ◌*◌, ◌/◌, ◌%◌, ◌^◌, ◌<◌, ◌≤◌, Bool, true, false, mod-lt, arith, le-leb}
use borrow.Author.Tests.{lt-leb}
use Rattle.bits.specs.Bits.{bit}
use Rattle.bits.proofs.Laws.{put_fits}
use Rattle.memory.specs.declared.Width.TheVariants.{Byte, Word}
use Rattle.isa.specs.declared.ShiftOp.{ShiftOp}
use Rattle.isa.specs.declared.ShiftOp.TheVariants.{Sra, Srl, Sla, Src}
use Rattle.alu.specs.Status.{compared, parity, judged, carried}
use Rattle.alu.specs.Sums.{sum, difference, negated, absolute}
use Rattle.alu.specs.Shifts.{amount, shift_value, shift_overflow, shifted}
use Rattle.alu.specs.Products.{product, divided}
use Rattle.alu.specs.Laws.{ComparedFits, ParityFits, JudgedFits, CarriedFits, SumFits, DifferenceFits, NegatedFits, AbsoluteFits, ShiftedFits, ProductFits, DividedFits}
use Rattle.alu.proofs.Laws.{modulus_bounds, product_below, quotient_below, either_side}
use Rattle.alu.proofs.Shifting.{amount_bounds, room}

pub compared_fits : ComparedFits
unfolding compared
compared_fits w a b st h =
    put_fits 16 15 _ _ (omega arith) (put_fits 16 14 _ _ (omega arith) (put_fits 16 13 _ _ (omega arith) h))

pub parity_fits : ParityFits
unfolding parity
parity_fits Byte v st h = put_fits 16 10 _ _ (omega arith) h
parity_fits Word v st h = h

pub judged_fits : JudgedFits
unfolding judged
judged_fits w v st h = parity_fits w v _ (compared_fits w v 0 st h)

pub carried_fits : CarriedFits
unfolding carried
carried_fits c o st h = put_fits 16 12 _ _ (omega arith) (put_fits 16 11 _ _ (omega arith) h)

pub sum_fits : SumFits
unfolding sum
sum_fits w a b st h = (mod-lt (a + b) (modulus_bounds w).0, carried_fits _ _ _ (judged_fits w _ st h))

pub difference_fits : DifferenceFits
unfolding difference
difference_fits w d s st h = (mod-lt (d + (65536 - s)) (modulus_bounds w).0, carried_fits _ _ _ (judged_fits w _ st h))

pub negated_fits : NegatedFits
unfolding negated
negated_fits v st h = difference_fits Word 0 v st h

pub absolute_fits : AbsoluteFits
unfolding absolute
absolute_fits v st g h = (magnitude (bit 15 v), carried_fits _ _ _ (compared_fits Word v 0 st h))
  where
    magnitude : (b : Bool) → (if b then (65536 - v) % 65536 else v) < 65536
    magnitude true = mod-lt (65536 - v) (omega arith)
    magnitude false = g

shift_value_fits : (op : ShiftOp) (v k : ℕ) → v < 65536 → k ≤ 16 → shift_value op v k < 65536
unfolding shift_value
shift_value_fits Sla v k fits small = mod-lt (v * 2 ^ k) (omega arith)
shift_value_fits Sra v k fits small = filled (bit 15 v)
  where
    filled : (b : Bool) → v / 2 ^ k + (if b then 65536 - 2 ^ (16 - k) else 0) < 65536
    filled true = omega (arith, room v k fits small)
    filled false = omega (arith, room v k fits small)
shift_value_fits Srl v k fits small = omega (arith, room v k fits small)
shift_value_fits Src v k fits small = (room v k fits small).rotated

shift_overflow_fits : (op : ShiftOp) (v k st : ℕ) → st < 65536 → shift_overflow op v k st < 65536
unfolding shift_overflow
shift_overflow_fits Sla v k st h = put_fits 16 11 _ _ (omega arith) h
shift_overflow_fits Sra v k st h = h
shift_overflow_fits Srl v k st h = h
shift_overflow_fits Src v k st h = h

pub shifted_fits : ShiftedFits
unfolding shifted
shifted_fits op v n st g h = (
  shift_value_fits op v (amount n) g (amount_bounds n).1,
  put_fits 16 12 _ _ (omega arith) (shift_overflow_fits op v (amount n) _ (compared_fits Word _ 0 st h)),
)

pub product_fits : ProductFits
unfolding product
product_fits a b g h = omega (arith, product_below 16 g h)

pub divided_fits : DividedFits
unfolding divided
divided_fits d p g h =
    either_side p.high d
    (λ l. rw (lt-leb d p.high l) (quotient_below d p.high p.low l h.1, remainder l))
    (λ l. rw (le-leb d p.high l) h)
  where
    remainder : p.high < d → (p.high * 65536 + p.low) % d < 65536
    remainder l = let some : 0 < d = omega arith in omega (arith, mod-lt (p.high * 65536 + p.low) some)
