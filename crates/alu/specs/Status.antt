-- Status bits: comparison, parity, carry and overflow, and the conditions of the jumps.
use Rattle.std.specs.Prelude.{ℕ, ◌/◌, ◌%◌, Bool, true, not, ◌&&◌, ◌||◌, ℤ, pos, ◌==◌, count_ones, int_lt, nat_lt, if◌then◌else◌}
use Rattle.std.proofs.Math.IntN.{sub_ℕ}
use Rattle.bits.specs.Bits.{bit, put}
use Rattle.memory.specs.declared.Width.{Width}
use Rattle.memory.specs.declared.Width.TheVariants.{Byte, Word}
use Rattle.memory.specs.Memory.{modulus}
use Rattle.isa.specs.declared.JumpOp.{JumpOp}
use Rattle.isa.specs.declared.JumpOp.TheVariants.{Jmp, Jlt, Jle, Jeq, Jhe, Jgt, Jne, Jnc, Joc, Jno, Jl, Jh, Jop}

-- Status weights: L> 8000h, A> 4000h, EQ 2000h, C 1000h, OV 0800h, OP 0400h, X 0200h; here the bits' numbers.
abbrev pub logical_greater : ℕ
logical_greater = 15

abbrev pub arithmetic_greater : ℕ
arithmetic_greater = 14

abbrev pub equal : ℕ
equal = 13

abbrev pub carry : ℕ
carry = 12

abbrev pub overflow : ℕ
overflow = 11

abbrev pub odd_parity : ℕ
odd_parity = 10

abbrev pub extended : ℕ
extended = 9

-- half the values of a width: from here on a number is a negative one
abbrev pub half : Width → ℕ
half w = modulus w / 2

-- the signed number that an operand of a width is, in two's complement
unfoldable pub signed : Width → ℕ → ℤ
signed w a = if nat_lt (a % modulus w) (half w) then pos (a % modulus w) else sub_ℕ (a % modulus w) (modulus w)

-- L>, A>, EQ compare a with b: L> as unsigned numbers, A> as signed ones.
unfoldable pub compared : Width → ℕ → ℕ → ℕ → ℕ
compared w a b st =
    put logical_greater (nat_lt b a) (put arithmetic_greater (int_lt (signed w b) (signed w a)) (put equal (a == b) st))

-- a number of odd parity has an odd number of ones
unfoldable pub is_odd : ℕ → Bool
is_odd v = count_ones v % 2 == 1

-- Byte forms set OP on odd parity; word forms leave it.
unfoldable pub parity : Width → ℕ → ℕ → ℕ
parity Byte v st = put odd_parity (is_odd v) st
parity Word v st = st

-- L>, A>, EQ compare the result with 0; byte forms judge its parity too.
unfoldable pub judged : Width → ℕ → ℕ → ℕ
judged w v st = parity w v (compared w v 0 st)

-- C and OV
unfoldable pub carried : Bool → Bool → ℕ → ℕ
carried c o st = put carry c (put overflow o st)

-- whether a jump's condition holds
unfoldable pub jumps : JumpOp → ℕ → Bool
jumps Jmp st = true
jumps Jlt st = not (bit arithmetic_greater st) && not (bit equal st)
jumps Jle st = not (bit logical_greater st) || bit equal st
jumps Jeq st = bit equal st
jumps Jhe st = bit logical_greater st || bit equal st
jumps Jgt st = bit arithmetic_greater st
jumps Jne st = not (bit equal st)
jumps Jnc st = not (bit carry st)
jumps Joc st = bit carry st
jumps Jno st = not (bit overflow st)
jumps Jl st = not (bit logical_greater st) && not (bit equal st)
jumps Jh st = bit logical_greater st && not (bit equal st)
jumps Jop st = bit odd_parity st
