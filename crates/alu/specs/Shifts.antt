-- Shifts of a word.
use Rattle.std.specs.Prelude.{ℕ, zero, suc, ◌+◌, ◌-◌, ◌*◌, ◌/◌, ◌%◌, ◌^◌, Bool, false, not, ◌||◌, ◌==◌, if◌then◌else◌}
use Rattle.bits.specs.Bits.{bit, put}
use Rattle.memory.specs.declared.Width.TheVariants.{Word}
use Rattle.isa.specs.declared.ShiftOp.{ShiftOp}
use Rattle.isa.specs.declared.ShiftOp.TheVariants.{Sra, Srl, Sla, Src}
use Rattle.alu.specs.declared.Outcome.{Outcome}
use Rattle.alu.specs.Status.{carry, overflow, compared}

-- A count of four bits, where 0 means 16.
unfoldable pub amount : ℕ → ℕ
amount n = if n % 16 == 0 then 16 else (n % 16)

-- SLA fills with zeros, SRA with the sign, SRL with zeros, SRC with what is shifted out.
unfoldable pub shift_value : ShiftOp → ℕ → ℕ → ℕ
shift_value Sla v k = v * 2 ^ k % 65536
shift_value Sra v k = v / 2 ^ k + (if bit 15 v then 65536 - 2 ^ (16 - k) else 0)
shift_value Srl v k = v / 2 ^ k
shift_value Src v k = v / 2 ^ k + v % 2 ^ k * 2 ^ (16 - k)

-- C is the last bit that was shifted out.
unfoldable pub shift_carry : ShiftOp → ℕ → ℕ → Bool
shift_carry Sla v k = bit (16 - k) v
shift_carry Sra v k = bit (k - 1) v
shift_carry Srl v k = bit (k - 1) v
shift_carry Src v k = bit (k - 1) v

-- whether the sign changes at any of k shifts to the left, taken one by one
unfoldable pub sign_changes : ℕ → ℕ → Bool
sign_changes zero v = false
sign_changes (suc k) v =
    (if bit 15 v then not (bit 15 (v * 2 % 65536)) else bit 15 (v * 2 % 65536))
    || sign_changes k (v * 2 % 65536)

-- SLA alone judges OV.
unfoldable pub shift_overflow : ShiftOp → ℕ → ℕ → ℕ → ℕ
shift_overflow Sla v k st = put overflow (sign_changes k v) st
shift_overflow Sra v k st = st
shift_overflow Srl v k st = st
shift_overflow Src v k st = st

-- a word shifted by the amount that a count n means
unfoldable pub shifted : ShiftOp → ℕ → ℕ → ℕ → Outcome
shifted op v n st =
    record {
      value = shift_value op v (amount n);
      st = put carry (shift_carry op v (amount n)) (shift_overflow op v (amount n) (compared Word (shift_value op v (amount n)) 0 st));
    }
