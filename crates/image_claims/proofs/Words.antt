-- Sums of words, and the words among bytes: the check word that fits a block is the only one.
use Prim.Native.Nat.{ℕ, zero, suc, ◌+◌, ◌-◌, ◌*◌, ◌/◌, ◌%◌, ◌<◌, ◌≤◌}
use mathlib.Core.Path.{◌≡◌, refl, sym, ap}
use mathlib.Core.List.{List, [], ◌∷◌, ◌++◌}
use native.Mathlib.Omega.{arith}
use native.Mathlib.Nat.{zero-add}
use lib.ListN.{length, get_or, take, drop}
use lib.Seq.{drop-cons}
use Rattle.image_blocks.specs.Image.{words_sum, word_bytes, words_bytes, word_at, checked}

-- the words of two lists, where the first has whole words alone
pub sum_append : (k : ℕ) (a b : List ℕ) → length a ≡ 2 * k → words_sum (a ++ b) ≡ words_sum a + words_sum b
unfolding words_sum
sum_append zero [] b h = sym (zero-add (words_sum b))
sum_append (suc k) [] b h = absurd (omega arith)
sum_append zero (x ∷ a) b h = absurd (omega arith)
sum_append (suc k) (x ∷ []) b h = absurd (omega arith)
sum_append (suc k) (x ∷ (y ∷ a)) b h = omega (arith, sum_append k a b (omega arith))

-- a word's two bytes are that word
pub word_sum : (x : ℕ) → x < 65536 → words_sum (word_bytes x) ≡ x
unfolding words_sum
word_sum x h = omega arith

-- the check word makes the sum 65535
pub checked_sum : (k : ℕ) (body : List ℕ) → length body ≡ 2 * k → words_sum (checked body) % 65536 ≡ 65535
unfolding checked
checked_sum k body h =
    omega (arith, sum_append k body (word_bytes (65535 - words_sum body % 65536)) h, word_sum (65535 - words_sum body % 65536) (omega arith))

-- and no other does
pub check_word : (k : ℕ) (body : List ℕ) (x : ℕ) → length body ≡ 2 * k → x < 65536 → words_sum (body ++ word_bytes x) % 65536 ≡ 65535 → body ++ word_bytes x ≡ checked body
unfolding checked
check_word k body x h l e =
    let w : x ≡ 65535 - words_sum body % 65536 = omega (arith, sum_append k body (word_bytes x) h, word_sum x l) in
    ap (λ (n : ℕ). body ++ word_bytes n) w

-- two bytes are the bytes of their word
high_byte : (a b : ℕ) → a < 256 → b < 256 → (a * 256 + b) / 256 % 256 ≡ a
high_byte a b ha hb = omega arith

low_byte : (a b : ℕ) → b < 256 → (a * 256 + b) % 256 ≡ b
low_byte a b hb = omega arith

pub word_back : (a b : ℕ) → a < 256 → b < 256 → word_bytes (a * 256 + b) ≡ a ∷ b ∷ []
word_back a b ha hb = rw (high_byte a b ha hb, low_byte a b hb)

-- words among the bytes of words
pub word_among : (ws r : List ℕ) (n : ℕ) → n < length ws → word_at (words_bytes ws ++ r) (2 * n) ≡ get_or ws n 0 % 65536
unfolding word_at words_bytes
word_among [] r n h = absurd (omega arith)
word_among (x ∷ ws) r zero h = omega arith
word_among (x ∷ ws) r (suc n) h =
    rw (let e : 2 * suc n ≡ suc (suc (2 * n)) = omega arith in e, let e : suc (suc (2 * n)) + 1 ≡ suc (suc (2 * n + 1)) = omega arith in e)
    (word_among ws r n (omega arith))

-- k words from word n on
abbrev pub words_from : List ℕ → ℕ → ℕ → List ℕ
words_from l zero n = []
words_from l (suc k) n = word_at l (2 * n) ∷ words_from l k (n + 1)

-- their bytes are the list's own
pub words_back :
    (l : List ℕ) (k n : ℕ) → ((i : ℕ) → i < length l → get_or l i 0 < 256) → 2 * (n + k) ≤ length l
    → words_bytes (words_from l k n) ≡ take (2 * k) (drop (2 * n) l)
unfolding word_at words_bytes
words_back l zero n b h = refl
words_back l (suc k) n b h =
    rw (
      high_byte (get_or l (2 * n) 0) (get_or l (2 * n + 1) 0) (b (2 * n) (omega arith)) (b (2 * n + 1) (omega arith)),
      low_byte (get_or l (2 * n) 0) (get_or l (2 * n + 1) 0) (b (2 * n + 1) (omega arith)),
      words_back l k (n + 1) b (omega arith),
      let e : 2 * suc k ≡ suc (suc (2 * k)) = omega arith in e,
      drop-cons l (2 * n) 0 (omega arith),
      drop-cons l (suc (2 * n)) 0 (omega arith),
      let e : 2 * (n + 1) ≡ suc (suc (2 * n)) = omega arith in e,
      let e : 2 * n + 1 ≡ suc (2 * n) = omega arith in e,
    )
