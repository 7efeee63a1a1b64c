-- Microprograms: what a step does, as the sequence of its accesses. Each access hands what it found to the rest.
use Rattle.std.specs.Prelude.{ℕ, Bool}
use Rattle.memory.specs.declared.Width.{Width}
use Rattle.psi.specs.declared.CruBit.{CruBit}
use Rattle.machine.specs.State.{Registers}

-- the registers that a step loads
pub data Target : Type 0 where
  to_wp to_pc to_st to_flags : Target

pub data Micro (A : Type 0) : Type 0 where
  -- nothing more
  done : A → Micro A
  -- WP, PC, ST and the flags as they are
  look : (Registers → Micro A) → Micro A
  -- a register takes a value
  assign : Target → ℕ → Micro A → Micro A
  -- the word at PC, which rises by 2
  fetch : (ℕ → Micro A) → Micro A
  -- an operand, a register or a vector word
  read : Width → ℕ → (ℕ → Micro A) → Micro A
  -- a value stored
  write : Width → ℕ → ℕ → Micro A → Micro A
  -- a CRU bit
  sense : CruBit → (Bool → Micro A) → Micro A
  drive : CruBit → Bool → Micro A → Micro A

-- one microprogram, and then another that takes what the first found
infixl 1 ◌>>=◌
infixl 1 ◌>>◌
abbrev pub ◌>>=◌ : {A B : Type 0} → Micro A → (A → Micro B) → Micro B
◌>>=◌ (done a) f = f a
◌>>=◌ (look k) f = look (λ r. k r >>= f)
◌>>=◌ (assign t x k) f = assign t x (k >>= f)
◌>>=◌ (fetch k) f = fetch (λ x. k x >>= f)
◌>>=◌ (read w a k) f = read w a (λ x. k x >>= f)
◌>>=◌ (write w a x k) f = write w a x (k >>= f)
◌>>=◌ (sense b k) f = sense b (λ x. k x >>= f)
◌>>=◌ (drive b x k) f = drive b x (k >>= f)

abbrev pub ◌>>◌ : {A B : Type 0} → Micro A → Micro B → Micro B
◌>>◌ m n = m >>= λ _. n

-- each access by itself
unfoldable pub registers : Micro Registers
registers = look done

unfoldable pub set : Target → ℕ → Micro (Unit {0})
set t x = assign t x (done tt)

unfoldable pub fetched : Micro ℕ
fetched = fetch done

unfoldable pub load : Width → ℕ → Micro ℕ
load w a = read w a done

unfoldable pub store : Width → ℕ → ℕ → Micro (Unit {0})
store w a x = write w a x (done tt)

unfoldable pub sensed : CruBit → Micro Bool
sensed b = sense b done

unfoldable pub driven : CruBit → Bool → Micro (Unit {0})
driven b x = drive b x (done tt)
