-- Lengths of numbers, and pieces of a text: two put behind it one after the other are their join put behind it.
use Prim.Native.Nat.{ℕ, zero, suc, ◌+◌, ◌/◌, ◌%◌, ◌^◌, ◌<◌, ◌≤◌}
use mathlib.Core.Path.{◌≡◌, refl}
use mathlib.Core.List.{List, [], ◌∷◌, ◌++◌, append_assoc, append-nil}
use mathlib.Core.Logic.{◌⊎◌, inl, inr, ⊎_elim}
use native.Mathlib.Omega.{arith}
use native.Mathlib.Decide.{dec_lt}
use native.Mathlib.Nat.{add-zero, pow-succ'}
use lib.ListN.{length, take, drop, replicate, take-append-drop, length-append}
use lib.Seq.{take_at, drop-append-add, drop-drop, length-take-le}
use borrow.Author.Tests.{lt-ltb, le-ltb}
use Rattle.std.proofs.lemmas.Bool.Decides.{nat_tests}
use Rattle.text.specs.Texts.{glyph, hex, decimal_in, decimal, capacity, empty, appended, content}
use Rattle.text.specs.declared.Text.{Text}

lt_or_le : (a b : ℕ) → (a < b) ⊎ (b ≤ a)
lt_or_le a b = choose (dec_lt a b)
  where
    choose : Dec (a < b) → (a < b) ⊎ (b ≤ a)
    choose (yes h) = inl h
    choose (no h) = inr (omega arith)

pub hex_length : (x : ℕ) → length (hex x) ≡ 4
unfolding hex
hex_length x = refl

-- the bound on the digits does not matter from the number's value on
enough : (f g n : ℕ) → n ≤ f → n ≤ g → decimal_in f n ≡ decimal_in g n
unfolding decimal_in
enough zero zero n h k = refl
enough zero (suc g) n h k = rw (lt-ltb n 10 (omega arith))
enough (suc f) zero n h k = rw (lt-ltb n 10 (omega arith))
enough (suc f) (suc g) n h k =
    ⊎_elim
    (λ l. rw (lt-ltb n 10 l))
    (λ l. rw (le-ltb n 10 l, enough f g (n / 10) (omega arith) (omega arith)))
    (lt_or_le n 10)

pub decimal_short : (n : ℕ) → n < 10 → decimal n ≡ glyph n ∷ []
unfolding decimal decimal_in
decimal_short zero h = refl
decimal_short (suc n) h = rw (lt-ltb (suc n) 10 h)

pub decimal_long : (n : ℕ) → 10 ≤ n → decimal n ≡ decimal (n / 10) ++ (glyph (n % 10) ∷ [])
unfolding decimal decimal_in
decimal_long zero h = absurd (omega arith)
decimal_long (suc n) h =
    rw (le-ltb (suc n) 10 h, enough n (suc n / 10) (suc n / 10) (omega arith) (omega arith))

pub short_length : (n : ℕ) → n < 10 → length (decimal n) ≡ 1
short_length n h = rw (decimal_short n h)

pub long_length : (n : ℕ) → 10 ≤ n → length (decimal n) ≡ length (decimal (n / 10)) + 1
long_length n h = rw (decimal_long n h, length-append)

pub decimal_length : (k n : ℕ) → n < 10 ^ suc k → length (decimal n) ≤ suc k
decimal_length zero n h = rw (decimal_short n (omega arith)) (omega arith)
decimal_length (suc k) n h =
    ⊎_elim
    (λ l. rw (decimal_short n l) (omega arith))
    (λ l. rw (decimal_long n l, length-append) (omega (arith, decimal_length k (n / 10) (omega (arith, h, pow-succ' 10 (suc k))))))
    (lt_or_le n 10)

-- numbers of 8, 16 and 64 bits
pub decimal_8 : (n : ℕ) → n < 2 ^ 8 → length (decimal n) ≤ 3
decimal_8 n h = decimal_length 2 n (omega arith)

pub decimal_16 : (n : ℕ) → n < 2 ^ 16 → length (decimal n) ≤ 5
decimal_16 n h = decimal_length 4 n (omega arith)

pub decimal_64 : (n : ℕ) → n < 2 ^ 64 → length (decimal n) ≤ 20
decimal_64 n h = decimal_length 19 n (omega arith)

-- two pieces behind a text, one after the other
pub appended_twice : (x : Text) (p q : List ℕ) → x.length ≤ length x.bytes → appended (appended x p) q ≡ appended x (p ++ q)
unfolding appended
appended_twice x p q h =
    let head : length (take x.length x.bytes ++ p) ≡ x.length + length p = rw (length-append, length-take-le x.length x.bytes h) in
    let end : x.length + length (p ++ q) ≡ x.length + length p + length q = rw (length-append) (omega arith) in
    rw (
      end,
      take_at (take x.length x.bytes ++ p) (drop (x.length + length p) x.bytes) (x.length + length p) head,
      ← head,
      drop-append-add,
      head,
      drop-drop,
      append_assoc (take x.length x.bytes) p q,
    )

pub nothing_appended : (x : Text) → appended x [] ≡ x
unfolding appended
nothing_appended x = rw (add-zero, append-nil (take x.length x.bytes), take-append-drop)

-- what a text of one piece alone holds, and its length
pub content_of : (t : List ℕ) → content (appended empty t) ≡ t
unfolding empty appended content
content_of t = take_at t (drop (0 + length t) (replicate capacity 0)) (0 + length t) (omega arith)

-- what a number's text is, one digit at a time, and how long
pub ruleset digits = (decimal_short, decimal_long, short_length, long_length)

pub length_of : (t : List ℕ) → (appended empty t).length ≡ length t
unfolding empty appended
length_of t = omega arith

-- a text after several pushes, whichever tests chose them
pub ruleset pushes = (appended_twice, nothing_appended, append_assoc, append-nil, nat_tests)
