-- The sum of a list's words, taken two bytes at a time from the front.
use Rattle.std.proofs.Common.{◌≡◌, ℕ, zero, suc, ◌+◌, ◌*◌, ◌/◌, ◌%◌, ◌<◌, List, [], ◌∷◌, length, fold, ◌∙◌, arith}
use Rattle.std.specs.Int.{w16, from_be_bytes}
use Rattle.std.specs.Simd.{first_chunks}
use Rattle.image_blocks.specs.Image.{words_sum}

-- a word more, modulo 65536
abbrev pub added : ℕ → List ℕ → ℕ
added sum word = (sum + from_be_bytes w16 word) % 65536

pub folded : (l : List ℕ) (k s : ℕ) → length l / 2 ≡ k → s < 65536 → fold added s (first_chunks 2 k l) ≡ (s + words_sum l) % 65536
unfolding words_sum
folded [] zero s e h = omega arith
folded [] (suc k) s e h = absurd (omega arith)
folded (a ∷ []) zero s e h = omega arith
folded (a ∷ []) (suc k) s e h = absurd (omega arith)
folded (a ∷ (b ∷ l)) zero s e h = absurd (omega arith)
folded (a ∷ (b ∷ l)) (suc k) s e h =
    let next = (s + (a * 256 + b)) % 65536 in
    folded l k next (omega arith) (omega arith) ∙ omega arith
