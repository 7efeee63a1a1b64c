-- A bit put at 0 is the lowest digit; further up the lowest digit stays and the bit is put one place lower into the half, so
-- a number of j digits stays one. By weights, a one of that weight goes and the new one comes. The bit put reads back and
-- every other bit is kept: a bit above sees only the digits above, and a bit below does not see what is added from n on.
use Prim.Native.Nat.{ℕ, zero, suc, ◌+◌, ◌-◌, ◌*◌, ◌/◌, ◌%◌, ◌^◌, ◌<◌}
use mathlib.Core.Path.{◌≡◌, refl, sym, ap, subst, ◌∙◌}
use mathlib.Core.Bool.{Bool, true, false, ◌&&◌}
use native.Mathlib.Omega.{arith}
use native.Mathlib.Nat.{add-mul, div-one, mod-one, mod-lt, div-add-mod', add-mul-div_right, pow-suc}
use native.Mathlib.Numerals.{one-add, add-one}
use native.Mathlib.Decide.{dec_lt}
use lib.Pow.{pow_pos, pow-add, shr-shr, mod-pow-add}
use lib.Dec.{eqb}
use lib.Arith.{digits_div}
use lib.Bits.{bit_and, and_high}
use mir.Val.{bool_byte}
use Rattle.bits.specs.Bits.{one_if, bit, put}
use Rattle.bits.specs.Laws.{PutRead, PutOthers, PutFits}

-- both parts of a true conjunction are true
pub conjuncts : (a b : Bool) → (a && b) ≡ true → (a ≡ true) × (b ≡ true)
conjuncts true b e = (refl, e)
conjuncts false b e = (e, (cc))

pub one_if_byte : (b : Bool) → bool_byte b ≡ one_if b
one_if_byte true = refl
one_if_byte false = refl

pub one_if_below : (b : Bool) → one_if b < 2
one_if_below true = omega arith
one_if_below false = omega arith

pub one_if_set : (b : Bool) → eqb (one_if b) 1 ≡ b
one_if_set true = refl
one_if_set false = refl

-- a bit further up is one of the half
pub bit_half : (n w : ℕ) → bit (suc n) w ≡ bit n (w / 2)
unfolding bit
bit_half n w = rw (← one-add n, ← shr-shr w 1 n)

-- at 0 the bit is the lowest digit
pub put_lowest : (x : Bool) (w : ℕ) → put 0 x w ≡ w / 2 * 2 + one_if x
unfolding put
put_lowest x w = rw (div-one, mod-one) (omega arith)

-- further up the lowest digit stays, and the bit is put one place lower into the half
pub put_above : (k : ℕ) (x : Bool) (w : ℕ) → put (suc k) x w ≡ put k x (w / 2) * 2 + w % 2
unfolding put
put_above k x w =
    let high : w / 2 ^ suc k ≡ w / 2 / 2 ^ k = ap (λ (n : ℕ). w / 2 ^ n) (sym (one-add k)) ∙ sym (shr-shr w 1 k) in
    let low : w % 2 ^ suc k ≡ (w / 2 % 2 ^ k) * 2 + w % 2 = ap (λ (n : ℕ). w % 2 ^ n) (sym (add-one k)) ∙ mod-pow-add w k 1 in
    let double : 2 ^ suc k ≡ 2 ^ k * 2 = omega arith in
    rw (high, low, double) (omega arith)

pub put_fits : PutFits
put_fits zero k x w h f = absurd (omega arith)
put_fits (suc j) zero x w h f = omega (arith, put_lowest x w, one_if_below x)
put_fits (suc j) (suc k) x w h f = omega (arith, put_above k x w, put_fits j k x (w / 2) (omega arith) (omega arith))

-- the one of weight 2^n, where w has it
and_weight : (w n : ℕ) → bit_and w (2 ^ n) ≡ w / 2 ^ n % 2 * 2 ^ n
and_weight w n =
    let e : 2 ^ n ≡ 2 ^ (1 + n) - 2 ^ n = rw pow-add (omega arith) in
    ap (bit_and w) e ∙ and_high w 1 n

-- by its weight: the old bit taken away, the new one added
pub put_by_weight : (n : ℕ) (b : Bool) (w : ℕ) → put n b w ≡ w - bit_and w (2 ^ n) + one_if b * 2 ^ n
unfolding put
put_by_weight n b w =
    let high : ℕ = w / 2 ^ n in
    let digits : high / 2 * 2 * 2 ^ n + high % 2 * 2 ^ n ≡ high * 2 ^ n =
    rw (← add-mul) (ap (λ (x : ℕ). x * 2 ^ n) (div-add-mod' high 2)) in
    rw (add-mul, and_weight w n) (omega (arith, digits, div-add-mod' w (2 ^ n)))

-- the bits from n on: those above the bit as they were, and the bit
upper : (n : ℕ) (b : Bool) (w : ℕ) → put n b w / 2 ^ n ≡ w / 2 ^ n / 2 * 2 + one_if b
unfolding put
upper n b w = digits_div (w / 2 ^ n / 2 * 2 + one_if b) (mod-lt w (pow_pos n))

pub put_read : PutRead
unfolding bit
put_read n b w =
    let e : (w / 2 ^ n / 2 * 2 + one_if b) % 2 ≡ one_if b = omega (arith, one_if_below b) in
    rw (upper n b w, e) (one_if_set b)

-- a bit below does not see what is added from n on
added : (m d x r : ℕ) → (x * 2 ^ (suc d + m) + r) / 2 ^ m % 2 ≡ r / 2 ^ m % 2
added m d x r =
    let e : x * 2 ^ (suc d + m) + r ≡ r + x * 2 ^ suc d * 2 ^ m = rw (pow-add 2 (suc d) m) (omega arith) in
    rw (e, add-mul-div_right r (x * 2 ^ suc d) (pow_pos m), pow-suc 2 d) (omega arith)

below : (m d : ℕ) (b : Bool) (w : ℕ) → bit m (put (suc d + m) b w) ≡ bit m w
unfolding bit put
below m d b w =
    let n : ℕ = suc d + m in
    ap (λ (x : ℕ). eqb x 1)
    (added m d (w / 2 ^ n / 2 * 2 + one_if b) (w % 2 ^ n)
    ∙ sym (added m d (w / 2 ^ n) (w % 2 ^ n))
    ∙ ap (λ (x : ℕ). x / 2 ^ m % 2) (div-add-mod' w (2 ^ n)))

-- a bit above sees only what lies above
above : (n d : ℕ) (b : Bool) (w : ℕ) → bit (n + (1 + d)) (put n b w) ≡ bit (n + (1 + d)) w
unfolding bit
above n d b w =
    let e : (w / 2 ^ n / 2 * 2 + one_if b) / 2 ≡ w / 2 ^ n / 2 = omega (arith, one_if_below b) in
    let higher : put n b w / 2 ^ (n + (1 + d)) ≡ w / 2 ^ (n + (1 + d)) =
    sym (shr-shr (put n b w) n (1 + d))
    ∙ ap (λ (x : ℕ). x / 2 ^ (1 + d)) (upper n b w)
    ∙ sym (shr-shr (w / 2 ^ n / 2 * 2 + one_if b) 1 d)
    ∙ ap (λ (x : ℕ). x / 2 ^ d) e
    ∙ shr-shr (w / 2 ^ n) 1 d
    ∙ shr-shr w n (1 + d) in
    ap (λ (x : ℕ). eqb (x % 2) 1) higher

pub put_others : PutOthers
put_others m n b w other = choose (dec_lt m n)
  where
    choose : Dec (m < n) → bit m (put n b w) ≡ bit m w
    choose (yes h) =
        subst (λ (x : ℕ). bit m (put x b w) ≡ bit m w) (let e : suc (n - suc m) + m ≡ n = omega arith in e) (below m (n - suc m) b w)
    choose (no h) =
        subst (λ (x : ℕ). bit x (put n b w) ≡ bit x w) (let e : n + (1 + (m - suc n)) ≡ m = omega arith in e) (above n (m - suc n) b w)
