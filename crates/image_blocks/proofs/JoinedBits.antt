-- Bytes whose bits are joined: no bit is set just if all bytes are 0.
use Rattle.std.proofs.Common.{◌≡◌, ℕ, zero, suc, ◌&&◌, eqb, List, [], ◌∷◌, fold, refl, sym, ◌∙◌, arith, ne_eqb}
use mathlib.Core.Bool.{and_assoc, and-true}
use lib.Bits.{bit_or, or_add_and, and_le_r}
use Rattle.image_blocks.specs.Image.{zeros}

-- no bit is set in either just if none is in the one and none in the other
or_none : (a b : ℕ) → eqb (bit_or a b) 0 ≡ (eqb a 0 && eqb b 0)
or_none zero b = refl
or_none (suc a) b =
    ne_eqb (bit_or (suc a) b) 0 (λ e. absurd (omega (arith, or_add_and (suc a) b, and_le_r (suc a) b, e)))
    ∙ sym (rw (ne_eqb (suc a) 0 (λ e. absurd (omega arith))))

pub joined_bits : (l : List ℕ) (a : ℕ) → eqb (fold bit_or a l) 0 ≡ (eqb a 0 && zeros l)
unfolding zeros
joined_bits [] a = sym (and-true (eqb a 0))
joined_bits (b ∷ l) a =
    joined_bits l (bit_or a b) ∙ rw (or_none a b) (and_assoc (eqb a 0) (eqb b 0) (zeros l))
