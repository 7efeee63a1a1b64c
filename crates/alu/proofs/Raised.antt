-- A signed number is the raised one less half the values. Differences of two numbers are equal where the numbers are moved alike,
-- so orders and sums of signed numbers are those of the raised ones.
use Rattle.std.specs.Prelude.{if◌then◌else◌}
use Rattle.std.proofs.Common.{◌≡◌, ℕ, zero, suc, ◌+◌, ◌-◌, ◌%◌, ◌<◌, ◌≤◌, Bool, ◌||◌, ltb, leb, pos, negsuc, ◌+ℤ◌, neg_ℤ, sym, refl, ap, ◌∙◌, zero-add, arith, le-ltb, lt-ltb, le-leb}
use lib.IntN.{sub_ℕ}
use lib.Signed.{lt_z, le_z}
use borrow.Author.Tests.{lt-leb}
use Rattle.memory.specs.declared.Width.{Width}
use Rattle.memory.specs.declared.Width.TheVariants.{Byte, Word}
use Rattle.memory.specs.Memory.{modulus}
use Rattle.alu.specs.Status.{half, signed}
use Rattle.alu.specs.Sums.{outside, sum_overflows, difference_overflows}
use Rattle.alu.specs.Raised.{raised, RaisedIsSigned, RaisedOrder, RaisedSum, RaisedDifference}
use Rattle.alu.proofs.Laws.{either_side}

low : (a b : ℕ) → a < b → sub_ℕ a b ≡ negsuc (b - suc a)
low a b l = rw (lt-ltb a b l)

high : (a b : ℕ) → b ≤ a → sub_ℕ a b ≡ pos (a - b)
high a b g = rw (le-ltb a b g)

same : (a b c d : ℕ) → a + d ≡ c + b → sub_ℕ a b ≡ sub_ℕ c d
same a b c d e =
    either_side a b
    (λ l. low a b l ∙ ap negsuc (omega arith) ∙ sym (low c d (omega arith)))
    (λ g. high a b g ∙ ap pos (omega arith) ∙ sym (high c d (omega arith)))

-- the order of two differences
less : (a b c d : ℕ) → lt_z (sub_ℕ a b) (sub_ℕ c d) ≡ ltb (a + d) (c + b)
less a b c d =
    either_side a b
    (λ l. either_side c d
    (λ k. rw (low a b l, low c d k) (both (d - suc c) (b - suc a) (a + d) (c + b) (omega arith) (omega arith)))
    (λ k. rw (low a b l, high c d k) (sym (lt-ltb (a + d) (c + b) (omega arith)))))
    (λ g. either_side c d
    (λ k. rw (high a b g, low c d k) (sym (le-ltb (a + d) (c + b) (omega arith))))
    (λ k. rw (high a b g, high c d k) (both (a - b) (c - d) (a + d) (c + b) (omega arith) (omega arith))))
  where
    both : (i j m n : ℕ) → (i < j → m < n) → (j ≤ i → n ≤ m) → ltb i j ≡ ltb m n
    both i j m n f g = either_side i j (λ h. lt-ltb i j h ∙ sym (lt-ltb m n (f h))) (λ h. le-ltb i j h ∙ sym (le-ltb m n (g h)))

sum : (a b c d : ℕ) → sub_ℕ a b +ℤ sub_ℕ c d ≡ sub_ℕ (a + c) (b + d)
sum a b c d =
    either_side a b
    (λ l. either_side c d
    (λ k. rw (low a b l, low c d k) (ap negsuc (omega arith) ∙ sym (low (a + c) (b + d) (omega arith))))
    (λ k. rw (low a b l, high c d k) (same (c - d) (suc (b - suc a)) (a + c) (b + d) (omega arith))))
    (λ g. either_side c d
    (λ k. rw (high a b g, low c d k) (same (a - b) (suc (d - suc c)) (a + c) (b + d) (omega arith)))
    (λ k. rw (high a b g, high c d k) (ap pos (omega arith) ∙ sym (high (a + c) (b + d) (omega arith)))))

at_most : (a c d : ℕ) → le_z (pos a) (sub_ℕ c d) ≡ leb (a + d) c
at_most a c d =
    either_side c d
    (λ k. rw (low c d k) (sym (lt-leb (a + d) c (omega arith))))
    (λ k. rw (high c d k)
    (either_side (c - d) a
    (λ h. lt-leb a (c - d) h ∙ sym (lt-leb (a + d) c (omega arith)))
    (λ h. le-leb a (c - d) h ∙ sym (le-leb (a + d) c (omega arith)))))

minus : (n : ℕ) → neg_ℤ (pos n) ≡ sub_ℕ 0 n
minus zero = refl
minus (suc n) = sym (low 0 (suc n) (omega arith) ∙ ap negsuc (omega arith))

opposite : (a b : ℕ) → neg_ℤ (sub_ℕ a b) ≡ sub_ℕ b a
opposite a b =
    either_side a b
    (λ l. rw (low a b l) (ap pos (omega arith) ∙ sym (high b a (omega arith))))
    (λ g. rw (high a b g, minus (a - b)) (same 0 (a - b) b a (omega arith)))

outside_is : (w : Width) (x k : ℕ) → outside w (sub_ℕ x k) ≡ ltb (x + half w) k || leb (half w + k) x
unfolding outside
outside_is w x k = rw (minus (half w), less x k 0 (half w), at_most (half w) x k, zero-add)

-- an operand of m values, of which h are not negative, is r raised
shown :
    (m h a r : ℕ) → m ≡ h + h → a < m → (a < h → r ≡ a + h) → (h ≤ a → r + h ≡ a)
    → (if ltb a h then pos a else sub_ℕ a m) ≡ sub_ℕ r h
shown m h a r twice fits f g =
    either_side a h
    (λ l. rw (lt-ltb a h l) (ap pos (omega (arith, f l)) ∙ sym (high r h (omega (arith, f l)))))
    (λ k. rw (le-ltb a h k) (same a m r h (omega (arith, g k))))

pub raised_is_signed : RaisedIsSigned
unfolding signed raised
raised_is_signed Byte a = shown 256 128 (a % 256) ((a + 128) % 256) (omega arith) (omega arith) (λ l. omega arith) (λ g. omega arith)
raised_is_signed Word a = shown 65536 32768 (a % 65536) ((a + 32768) % 65536) (omega arith) (omega arith) (λ l. omega arith) (λ g. omega arith)

-- moving both sides of an order
moved : (i j m n : ℕ) → i + n ≡ m + j → ltb i j ≡ ltb m n
moved i j m n e =
    either_side i j
    (λ h. lt-ltb i j h ∙ sym (lt-ltb m n (omega arith)))
    (λ h. le-ltb i j h ∙ sym (le-ltb m n (omega arith)))

pub raised_order : RaisedOrder
raised_order w a b =
    rw (raised_is_signed w a, raised_is_signed w b, less (raised w a) (half w) (raised w b) (half w))
    (moved (raised w a + half w) (raised w b + half w) (raised w a) (raised w b) (omega arith))

twice : (w : Width) → modulus w ≡ half w + half w
twice Byte = refl
twice Word = refl

pub raised_sum : RaisedSum
unfolding sum_overflows
raised_sum w a b =
    let x : ℕ = raised w a in
    let y : ℕ = raised w b in
    let h : ℕ = half w in
    let low_side : ltb (x + y + h) (h + h) ≡ ltb (x + y) h = moved (x + y + h) (h + h) (x + y) h (omega arith) in
    rw (raised_is_signed w a, raised_is_signed w b, sum x h y h, outside_is w (x + y) (h + h), low_side)
    (ap (λ (k : ℕ). ltb (x + y) h || leb k (x + y)) (omega (arith, twice w)))

pub raised_difference : RaisedDifference
unfolding difference_overflows
raised_difference w d s =
    let x : ℕ = raised w d in
    let y : ℕ = raised w s in
    let h : ℕ = half w in
    let low_side : ltb (x + h + h) (h + y) ≡ ltb (x + h) y = moved (x + h + h) (h + y) (x + h) y (omega arith) in
    rw (raised_is_signed w d, raised_is_signed w s, opposite y h, sum x h h y, outside_is w (x + h) (h + y), low_side)
    (ap (λ (b : Bool). ltb (x + h) y || b)
    (either_side (x + h) (h + (h + y))
    (λ l. lt-leb (h + (h + y)) (x + h) l ∙ sym (lt-leb (y + h) x (omega arith)))
    (λ g. le-leb (h + (h + y)) (x + h) g ∙ sym (le-leb (y + h) x (omega arith)))))
