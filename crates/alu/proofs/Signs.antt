-- Overflow by the signs. A number below half the width's values is raised by a half, any other lowered by it; so for each pair of
-- signs the tests of the definitions are tests of the result's sign, or fail on both sides.
use Rattle.std.proofs.Common.{◌≡◌, ℕ, ◌+◌, ◌-◌, ◌%◌, ◌<◌, ◌≤◌, not, ◌&&◌, ◌||◌, ltb, leb, arith, le-ltb, lt-ltb, le-leb}
use borrow.Author.Tests.{lt-leb}
use Rattle.memory.specs.declared.Width.{Width}
use Rattle.memory.specs.declared.Width.TheVariants.{Byte, Word}
use Rattle.memory.specs.Memory.{modulus}
use Rattle.alu.specs.Status.{half}
use Rattle.alu.specs.Raised.{raised}
use Rattle.alu.specs.Laws.{differ, SumOverflowSigns, DifferenceOverflowSigns, SignChangesAtOnce}
use Rattle.alu.proofs.Laws.{either_side}
use Rattle.alu.proofs.Raised.{raised_sum, raised_difference}
use Rattle.alu.proofs.Shifting.{changes_is}

-- the arithmetic of a width, in one place
record Halves (w : Width) : Type 0 where
  twice : modulus w ≡ half w + half w
  raised_low : (a : ℕ) → a < half w → raised w a ≡ a + half w
  raised_high : (a : ℕ) → half w ≤ a → a < modulus w → raised w a ≡ a - half w
  sum_low : (x : ℕ) → x < modulus w → x % modulus w ≡ x
  sum_high : (x : ℕ) → modulus w ≤ x → x < modulus w + modulus w → x % modulus w ≡ x - modulus w
  less_low : (d s : ℕ) → d < modulus w → s ≤ d → (d + (65536 - s)) % modulus w ≡ d - s
  less_high : (d s : ℕ) → d < s → s < modulus w → (d + (65536 - s)) % modulus w ≡ d + modulus w - s

halves : (w : Width) → Halves w
unfolding raised
halves Byte = omega arith
halves Word = omega arith

-- the sum of a and b, raised to x and y, is r: h is half the values, m all of them
abbrev SignsOfSum : (h m a b x y r : ℕ) → Type 0
SignsOfSum h m a b x y r =
    ltb (x + y) h || leb (m + h) (x + y) ≡ not (differ (leb h a) (leb h b)) && differ (leb h a) (leb h r)

module _ (h m a b x y r : ℕ) (twice : m ≡ h + h) (fits-a : a < m) (fits-b : b < m) where
  sum_low_low : a < h → b < h → x ≡ a + h → y ≡ b + h → r ≡ a + b → SignsOfSum h m a b x y r
  sum_low_low la lb ex ey er =
      simp (lt-leb h a la, lt-leb h b lb, le-ltb (x + y) h (omega arith))
      (either_side r h
      (λ l. simp (lt-leb h r l, lt-leb (m + h) (x + y) (omega arith)))
      (λ g. simp (le-leb h r g, le-leb (m + h) (x + y) (omega arith))))

  sum_high_high : h ≤ a → h ≤ b → x ≡ a - h → y ≡ b - h → r ≡ a + b - m → SignsOfSum h m a b x y r
  sum_high_high ga gb ex ey er =
      simp (le-leb h a ga, le-leb h b gb, lt-leb (m + h) (x + y) (omega arith))
      (either_side r h
      (λ l. simp (lt-leb h r l, lt-ltb (x + y) h (omega arith)))
      (λ g. simp (le-leb h r g, le-ltb (x + y) h (omega arith))))

  sum_low_high : a < h → h ≤ b → x ≡ a + h → y ≡ b - h → SignsOfSum h m a b x y r
  sum_low_high la gb ex ey =
      simp (lt-leb h a la, le-leb h b gb, le-ltb (x + y) h (omega arith), lt-leb (m + h) (x + y) (omega arith))

  sum_high_low : h ≤ a → b < h → x ≡ a - h → y ≡ b + h → SignsOfSum h m a b x y r
  sum_high_low ga lb ex ey =
      simp (le-leb h a ga, lt-leb h b lb, le-ltb (x + y) h (omega arith), lt-leb (m + h) (x + y) (omega arith))

pub sum_overflow_signs : SumOverflowSigns
sum_overflow_signs w a b ha hb =
    let k : Halves w = halves w in
    rw (raised_sum w a b)
    (either_side a (half w)
    (λ la. either_side b (half w)
    (λ lb. sum_low_low _ _ a b _ _ _ k.twice ha hb la lb (k.raised_low a la) (k.raised_low b lb) (k.sum_low (a + b) (omega (arith, k.twice))))
    (λ gb. sum_low_high _ _ a b _ _ _ k.twice ha hb la gb (k.raised_low a la) (k.raised_high b gb hb)))
    (λ ga. either_side b (half w)
    (λ lb. sum_high_low _ _ a b _ _ _ k.twice ha hb ga lb (k.raised_high a ga ha) (k.raised_low b lb))
    (λ gb. sum_high_high _ _ a b _ _ _ k.twice ha hb ga gb (k.raised_high a ga ha) (k.raised_high b gb hb) (k.sum_high (a + b) (omega (arith, k.twice)) (omega arith)))))

-- the difference of d and s, raised to x and y, is r
abbrev SignsOfDifference : (h d s x y r : ℕ) → Type 0
SignsOfDifference h d s x y r =
    ltb (x + h) y || leb (y + h) x ≡ differ (leb h d) (leb h s) && differ (leb h d) (leb h r)

module _ (h m d s x y r : ℕ) (twice : m ≡ h + h) (fits-d : d < m) (fits-s : s < m) where
  less_low_low : d < h → s < h → x ≡ d + h → y ≡ s + h → SignsOfDifference h d s x y r
  less_low_low ld ls ex ey =
      simp (lt-leb h d ld, lt-leb h s ls, le-ltb (x + h) y (omega arith), lt-leb (y + h) x (omega arith))

  less_high_high : h ≤ d → h ≤ s → x ≡ d - h → y ≡ s - h → SignsOfDifference h d s x y r
  less_high_high gd gs ex ey =
      simp (le-leb h d gd, le-leb h s gs, le-ltb (x + h) y (omega arith), lt-leb (y + h) x (omega arith))

  less_low_high : d < h → h ≤ s → x ≡ d + h → y ≡ s - h → r ≡ d + m - s → SignsOfDifference h d s x y r
  less_low_high ld gs ex ey er =
      simp (lt-leb h d ld, le-leb h s gs, le-ltb (x + h) y (omega arith))
      (either_side r h
      (λ l. simp (lt-leb h r l, lt-leb (y + h) x (omega arith)))
      (λ g. simp (le-leb h r g, le-leb (y + h) x (omega arith))))

  less_high_low : h ≤ d → s < h → x ≡ d - h → y ≡ s + h → r ≡ d - s → SignsOfDifference h d s x y r
  less_high_low gd ls ex ey er =
      simp (le-leb h d gd, lt-leb h s ls, lt-leb (y + h) x (omega arith))
      (either_side r h
      (λ l. simp (lt-leb h r l, lt-ltb (x + h) y (omega arith)))
      (λ g. simp (le-leb h r g, le-ltb (x + h) y (omega arith))))

pub difference_overflow_signs : DifferenceOverflowSigns
difference_overflow_signs w d s hd hs =
    let k : Halves w = halves w in
    rw (raised_difference w d s)
    (either_side d (half w)
    (λ ld. either_side s (half w)
    (λ ls. less_low_low _ _ d s _ _ _ k.twice hd hs ld ls (k.raised_low d ld) (k.raised_low s ls))
    (λ gs. less_low_high _ _ d s _ _ _ k.twice hd hs ld gs (k.raised_low d ld) (k.raised_high s gs hs) (k.less_high d s (omega arith) hs)))
    (λ gd. either_side s (half w)
    (λ ls. less_high_low _ _ d s _ _ _ k.twice hd hs gd ls (k.raised_high d gd hd) (k.raised_low s ls) (k.less_low d s hd (omega arith)))
    (λ gs. less_high_high _ _ d s _ _ _ k.twice hd hs gd gs (k.raised_high d gd hd) (k.raised_high s gs hs))))

pub sign_changes_at_once : SignChangesAtOnce
sign_changes_at_once = changes_is
