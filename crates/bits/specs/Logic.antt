-- Numbers joined bit by bit.
use Rattle.std.specs.Prelude.{ℕ, zero, suc, ◌+◌, ◌-◌, ◌*◌, ◌/◌, ◌%◌, Bool, not, ◌&&◌, ◌||◌}
use Rattle.bits.specs.Bits.{one_if, bit}

-- the k lowest bits of two numbers, each pair joined by f
unfoldable pub joined : (Bool → Bool → Bool) → ℕ → ℕ → ℕ → ℕ
joined f zero a b = 0
joined f (suc k) a b = joined f k (a / 2) (b / 2) * 2 + one_if (f (bit 0 a) (bit 0 b))

-- the ones of both words
unfoldable pub both : ℕ → ℕ → ℕ
both a b = joined (λ x y. x && y) 16 a b

-- the ones of either word
unfoldable pub either : ℕ → ℕ → ℕ
either a b = joined (λ x y. x || y) 16 a b

-- the ones of just one of the words
unfoldable pub exclusive : ℕ → ℕ → ℕ
exclusive a b = joined (λ x y. (x && not y) || (not x && y)) 16 a b

-- the ones of a that b does not have
unfoldable pub without : ℕ → ℕ → ℕ
without a b = joined (λ x y. x && not y) 16 a b

-- each bit the other way round
unfoldable pub inverted : ℕ → ℕ
inverted v = 65535 - v

-- the two bytes of a word exchanged
unfoldable pub swapped : ℕ → ℕ
swapped v = v % 256 * 256 + v / 256
