-- What follows from the definitions, each a statement of its own: that results fit, what the status bits say, and the facts that
-- a programmer of the machine knows.
use Rattle.std.specs.Prelude.{◌≡◌, ℕ, ◌+◌, ◌-◌, ◌*◌, ◌%◌, ◌^◌, ◌<◌, ◌≤◌, Bool, true, false, not, ◌&&◌, ltb, ◌==◌, int_lt, nat_le, nat_lt, if◌then◌else◌}
use Rattle.bits.specs.Bits.{bit}
use Rattle.memory.specs.declared.Width.{Width}
use Rattle.memory.specs.declared.Width.TheVariants.{Byte, Word}
use Rattle.memory.specs.Memory.{modulus}
use Rattle.isa.specs.declared.ShiftOp.{ShiftOp}
use Rattle.alu.specs.declared.Outcome.{Outcome}
use Rattle.alu.specs.declared.Pair.{Pair}
use Rattle.alu.specs.Status.{logical_greater, arithmetic_greater, equal, carry, overflow, odd_parity, half, signed, is_odd, compared, parity, judged, carried}
use Rattle.alu.specs.Sums.{sum, difference, negated, absolute, sum_overflows, difference_overflows}
use Rattle.alu.specs.Shifts.{shifted, sign_changes}
use Rattle.alu.specs.Products.{product, divided}

-- Results fit.

-- the value is one of the width's, the status is a word
abbrev pub Fitting : Width → Outcome → Type 0
Fitting w o = (o.value < modulus w) × (o.st < 65536)

abbrev pub FittingPair : Pair → Type 0
FittingPair p = (p.high < 65536) × (p.low < 65536)

abbrev pub ComparedFits : Type 0
ComparedFits = (w : Width) (a b st : ℕ) → st < 65536 → compared w a b st < 65536

abbrev pub ParityFits : Type 0
ParityFits = (w : Width) (v st : ℕ) → st < 65536 → parity w v st < 65536

abbrev pub JudgedFits : Type 0
JudgedFits = (w : Width) (v st : ℕ) → st < 65536 → judged w v st < 65536

abbrev pub CarriedFits : Type 0
CarriedFits = (c o : Bool) (st : ℕ) → st < 65536 → carried c o st < 65536

abbrev pub SumFits : Type 0
SumFits = (w : Width) (a b st : ℕ) → st < 65536 → Fitting w (sum w a b st)

abbrev pub DifferenceFits : Type 0
DifferenceFits = (w : Width) (d s st : ℕ) → st < 65536 → Fitting w (difference w d s st)

abbrev pub NegatedFits : Type 0
NegatedFits = (v st : ℕ) → st < 65536 → Fitting Word (negated v st)

abbrev pub AbsoluteFits : Type 0
AbsoluteFits = (v st : ℕ) → v < 65536 → st < 65536 → Fitting Word (absolute v st)

abbrev pub ShiftedFits : Type 0
ShiftedFits = (op : ShiftOp) (v n st : ℕ) → v < 65536 → st < 65536 → Fitting Word (shifted op v n st)

abbrev pub ProductFits : Type 0
ProductFits = (a b : ℕ) → a < 65536 → b < 65536 → FittingPair (product a b)

abbrev pub DividedFits : Type 0
DividedFits = (d : ℕ) (p : Pair) → d < 65536 → FittingPair p → FittingPair (divided d p)

-- What the status bits say.

abbrev pub ComparedSays : Type 0
ComparedSays =
    (w : Width) (a b st : ℕ)
    → (bit logical_greater (compared w a b st) ≡ nat_lt b a)
    × (bit arithmetic_greater (compared w a b st) ≡ int_lt (signed w b) (signed w a))
    × (bit equal (compared w a b st) ≡ (a == b))

-- OP is set on odd parity.
abbrev pub ParitySays : Type 0
ParitySays = (v st : ℕ) → bit odd_parity (parity Byte v st) ≡ is_odd v

-- A's C is the carry out of the width.
abbrev pub SumSays : Type 0
SumSays =
    (w : Width) (a b st : ℕ)
    → (bit carry (sum w a b st).st ≡ nat_le (modulus w) (a + b)) × (bit overflow (sum w a b st).st ≡ sum_overflows w a b)

-- S's C is 1 exactly if the destination is at least the source, unsigned.
abbrev pub DifferenceSays : Type 0
DifferenceSays =
    (w : Width) (d s st : ℕ)
    → (bit carry (difference w d s st).st ≡ nat_le s d) × (bit overflow (difference w d s st).st ≡ difference_overflows w d s)

-- NEG: C exactly if the operand is 0, OV exactly if it is 8000h.
abbrev pub NegatedSays : Type 0
NegatedSays =
    (v st : ℕ) → v < 65536
    → (bit carry (negated v st).st ≡ (v == 0)) × (bit overflow (negated v st).st ≡ (v == 0x8000))

-- ABS judges the operand, clears C, and sets OV exactly if the operand is 8000h.
abbrev pub AbsoluteSays : Type 0
AbsoluteSays =
    (v st : ℕ) → v < 65536
    → (bit logical_greater (absolute v st).st ≡ nat_lt 0 v)
    × (bit arithmetic_greater (absolute v st).st ≡ nat_lt 0 v && nat_lt v 0x8000)
    × (bit equal (absolute v st).st ≡ (v == 0))
    × (bit carry (absolute v st).st ≡ false)
    × (bit overflow (absolute v st).st ≡ (v == 0x8000))

-- ABS of a number without the sign is the number, of any other what it lacks to 65536.
abbrev pub AbsoluteValue : Type 0
AbsoluteValue = (v st : ℕ) → v < 65536 → (absolute v st).value ≡ (if ltb v 0x8000 then v else 65536 - v)

-- DEC: C exactly if the operand is not 0.
abbrev pub DecrementedCarry : Type 0
DecrementedCarry = (v st : ℕ) → bit carry (difference Word v 1 st).st ≡ not (v == 0)

-- DECT: C exactly if the operand is 2 or more.
abbrev pub DecrementedTwiceCarry : Type 0
DecrementedTwiceCarry = (v st : ℕ) → bit carry (difference Word v 2 st).st ≡ nat_le 2 v

-- Overflow, by the signs.

abbrev pub negative : Width → ℕ → Bool
negative w a = nat_le (half w) a

abbrev pub differ : Bool → Bool → Bool
differ true b = not b
differ false b = b

-- A sum overflows exactly if the operands have one sign and the result the other.
abbrev pub SumOverflowSigns : Type 0
SumOverflowSigns =
    (w : Width) (a b : ℕ) → a < modulus w → b < modulus w
    → sum_overflows w a b
    ≡ not (differ (negative w a) (negative w b)) && differ (negative w a) (negative w ((a + b) % modulus w))

-- A difference overflows exactly if the operands' signs differ and the result's is not that of the first.
abbrev pub DifferenceOverflowSigns : Type 0
DifferenceOverflowSigns =
    (w : Width) (d s : ℕ) → d < modulus w → s < modulus w
    → difference_overflows w d s
    ≡ differ (negative w d) (negative w s) && differ (negative w d) (negative w ((d + (65536 - s)) % modulus w))

-- SLA's OV, all shifts at once: the sign changes unless the signed number fits the bits that are left to it.
abbrev pub SignChangesAtOnce : Type 0
SignChangesAtOnce =
    (k v : ℕ) → k ≤ 16 → v < 65536
    → sign_changes k v ≡ nat_le (2 ^ (16 - k)) (v * 2) && nat_lt (v * 2) (131072 - 2 ^ (16 - k))

-- Products and quotients.

abbrev pub ProductWhole : Type 0
ProductWhole = (a b : ℕ) → (product a b).high * 65536 + (product a b).low ≡ a * b

-- Where the divisor exceeds the high word, quotient and remainder make up the pair's number, and the remainder is below the divisor.
abbrev pub DividedWhole : Type 0
DividedWhole =
    (d : ℕ) (p : Pair) → p.high < d
    → ((divided d p).high * d + (divided d p).low ≡ p.high * 65536 + p.low) × ((divided d p).low < d)

-- Where it does not, the pair stays.
abbrev pub DividedStays : Type 0
DividedStays = (d : ℕ) (p : Pair) → d ≤ p.high → divided d p ≡ p
