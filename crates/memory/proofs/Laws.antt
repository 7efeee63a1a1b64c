-- What stores keep and what loads find, by induction on the number of bytes: each byte of an access lies at a place of its own, and a
-- number is its highest bytes times 256 plus its lowest.
use Prim.Native.Nat.{ℕ, zero, suc, ◌+◌, ◌*◌, ◌/◌, ◌%◌, ◌^◌, ◌<◌, ◌≤◌}
use mathlib.Core.Path.{◌≡◌, refl, sym, ap, ap₂, subst, ◌∙◌}
use mathlib.Core.Bool.{Bool, true, false, not, ◌&&◌, ◌||◌, or-true, or_assoc, true≢false}
use mathlib.Core.List.{List, [], ◌∷◌, ◌++◌}
use native.Mathlib.Omega.{arith}
use native.Mathlib.Nat.{mod-one, pow-suc, pow-zero, one-le-pow}
use lib.ListN.{length, get_or, set, length-set}
use lib.Seq.{get_or-set_same, get_or-set_other}
use lib.Arith.{digits_lt, mod-mul}
use lib.Dec.{eqb}
use mathlib.Core.Logic.{◌≢◌}
use borrow.Author.Tests.{eq-eqb, eqb-true, not-true}
use Rattle.memory.specs.declared.Width.{Width}
use Rattle.memory.specs.declared.Width.TheVariants.{Byte, Word}
use Rattle.memory.specs.Memory.{size, Installed, Bytes, bytes, modulus, place, number, spread, loaded, stored, places, touched, covers, disjoint}

-- where an access begins

-- an access lies within the memory
pub place_fits : (w : Width) (a : ℕ) → place w a + bytes w ≤ size
unfolding place
place_fits Byte a = omega arith
place_fits Word a = omega arith

pub place_below : (w : Width) (a : ℕ) → place w a < size
unfolding place
place_below Byte a = omega arith
place_below Word a = omega arith

pub word_place_below : (a : ℕ) → place Word a + 1 < size
unfolding place
word_place_below a = omega arith

pub byte_place : (a : ℕ) → place Byte a ≡ a % 16384
unfolding place
byte_place a = omega arith

pub word_place : (a : ℕ) → place Word a ≡ a % 16384 / 2 * 2
unfolding place
word_place a = omega arith

-- addresses that are equal modulo the memory's size mean the same bytes
pub same_place : (w : Width) (a b : ℕ) → a % size ≡ b % size → place w a ≡ place w b
unfolding place
same_place Byte a b e = omega arith
same_place Word a b e = omega arith

-- the length

spread_length : (k : ℕ) (m : List ℕ) (p v : ℕ) → length (spread k m p v) ≡ length m
unfolding spread
spread_length zero m p v = refl
spread_length (suc k) m p v = length-set (spread k m p (v / 256)) (p + k) (v % 256) ∙ spread_length k m p (v / 256)

pub stored_length : (w : Width) (m : List ℕ) (a v : ℕ) → length (stored w m a v) ≡ length m
unfolding stored
stored_length w m a v = spread_length (bytes w) m (place w a) v

pub stored_installed : (w : Width) (m : List ℕ) (a v : ℕ) → Installed m → Installed (stored w m a v)
stored_installed w m a v h = stored_length w m a v ∙ h

-- bytes

bytes_set : (m : List ℕ) (i x : ℕ) → x < 256 → Bytes m → Bytes (set m i x)
bytes_set [] i x h b j = b j
bytes_set (y ∷ ys) zero x h b zero = h
bytes_set (y ∷ ys) zero x h b (suc j) = b (suc j)
bytes_set (y ∷ ys) (suc i) x h b zero = b zero
bytes_set (y ∷ ys) (suc i) x h b (suc j) = bytes_set ys i x h (λ n. b (suc n)) j

spread_bytes : (k : ℕ) (m : List ℕ) (p v : ℕ) → Bytes m → Bytes (spread k m p v)
unfolding spread
spread_bytes zero m p v b = b
spread_bytes (suc k) m p v b = bytes_set (spread k m p (v / 256)) (p + k) (v % 256) (omega arith) (spread_bytes k m p (v / 256) b)

pub stored_bytes : (w : Width) (m : List ℕ) (a v : ℕ) → Bytes m → Bytes (stored w m a v)
unfolding stored
stored_bytes w m a v b = spread_bytes (bytes w) m (place w a) v b

pub modulus_power : (w : Width) → modulus w ≡ 256 ^ bytes w
modulus_power Byte = refl
modulus_power Word = refl

number_below : (k : ℕ) (m : List ℕ) (p : ℕ) → Bytes m → number k m p < 256 ^ k
unfolding number
number_below zero m p b = rw pow-zero (omega arith)
number_below (suc k) m p b = rw (pow-suc 256 k) (digits_lt (number_below k m p b) (b (p + k)))

pub loaded_below : (w : Width) (m : List ℕ) (a : ℕ) → Bytes m → loaded w m a < modulus w
unfolding loaded
loaded_below w m a b = rw (modulus_power w) (number_below (bytes w) m (place w a) b)

-- the frame: a place that a store does not touch keeps its byte

-- each of k places from p on is among them
pub covers_at : (k p j : ℕ) → j < k → covers (p + j) (places k p) ≡ true
unfolding covers places
covers_at zero p j h = absurd (omega arith)
covers_at (suc k) p zero h = rw (eq-eqb (p + zero) p (omega arith))
covers_at (suc k) p (suc j) h =
    let e : p + suc j ≡ suc p + j = omega arith in
    subst (λ n. (eqb n p || covers n (places k (suc p))) ≡ true) (sym e) (rw (covers_at k (suc p) j (omega arith)) (or-true (eqb (suc p + j) p)))

-- what follows from either part of a true disjunction follows from it
pub or_either : (P : Type 0) (a b : Bool) → (a || b) ≡ true → (a ≡ true → P) → (b ≡ true → P) → P
or_either P true b e l r = l refl
or_either P false b e l r = r e

-- and nothing from p + k on is
places_below : (k p i : ℕ) → covers i (places k p) ≡ true → i < p + k
unfolding covers places
places_below zero p i c = absurd (true≢false (sym c))
places_below (suc k) p i c =
    or_either (i < p + suc k) (eqb i p) (covers i (places k (suc p))) c (λ e. omega (arith, eqb-true i p e))
    (λ d. omega (arith, places_below k (suc p) i d))

pub touched_below : (w : Width) (a i : ℕ) → covers i (touched w a) ≡ true → i < place w a + bytes w
unfolding touched
touched_below w a i c = places_below (bytes w) (place w a) i c

pub covers_append : (i : ℕ) (ps qs : List ℕ) → covers i (ps ++ qs) ≡ (covers i ps || covers i qs)
unfolding covers
covers_append i [] qs = refl
covers_append i (p ∷ ps) qs = rw (covers_append i ps qs) (sym (or_assoc (eqb i p) (covers i ps) (covers i qs)))

spread_frame : (k : ℕ) (m : List ℕ) (p v i : ℕ) → ((j : ℕ) → j < k → i ≢ p + j) → get_or (spread k m p v) i 0 ≡ get_or m i 0
unfolding spread
spread_frame zero m p v i h = refl
spread_frame (suc k) m p v i h =
    get_or-set_other (spread k m p (v / 256)) (p + k) i (v % 256) 0 (h k (omega arith))
    ∙ spread_frame k m p (v / 256) i (λ j l. h j (omega arith))

pub stored_frame :
    (w : Width) (m : List ℕ) (a v i : ℕ) → covers i (touched w a) ≡ false → get_or (stored w m a v) i 0 ≡ get_or m i 0
unfolding stored touched
stored_frame w m a v i h =
    spread_frame (bytes w) m (place w a) v i
    (λ j l e. true≢false (sym (covers_at (bytes w) (place w a) j l) ∙ ap (λ (n : ℕ). covers n (places (bytes w) (place w a))) (sym e) ∙ h))

-- a load depends on the bytes that it touches alone

number_agree :
    (k : ℕ) (m n : List ℕ) (p : ℕ) → ((j : ℕ) → j < k → get_or m (p + j) 0 ≡ get_or n (p + j) 0) → number k m p ≡ number k n p
unfolding number
number_agree zero m n p h = refl
number_agree (suc k) m n p h = rw (number_agree k m n p (λ j l. h j (omega arith)), h k (omega arith))

pub loaded_agree :
    (w : Width) (m n : List ℕ) (a : ℕ)
    → ((i : ℕ) → covers i (touched w a) ≡ true → get_or m i 0 ≡ get_or n i 0)
    → loaded w m a ≡ loaded w n a
unfolding loaded touched
loaded_agree w m n a h =
    number_agree (bytes w) m n (place w a) (λ j l. h (place w a + j) (covers_at (bytes w) (place w a) j l))

pub loaded_same : (w : Width) (m : List ℕ) (a b : ℕ) → a % size ≡ b % size → loaded w m a ≡ loaded w m b
unfolding loaded
loaded_same w m a b e = rw (same_place w a b e)

pub and_left : (x y : Bool) → (x && y) ≡ true → x ≡ true
and_left true y e = refl
and_left false y e = e

pub and_right : (x y : Bool) → (x && y) ≡ true → y ≡ true
and_right true y e = e
and_right false y e = absurd (true≢false (sym e))

-- a place of one of two lists that have none in common is not in the other
pub disjoint_covers : (ps qs : List ℕ) (i : ℕ) → disjoint ps qs ≡ true → covers i ps ≡ true → covers i qs ≡ false
unfolding disjoint covers
disjoint_covers [] qs i d c = absurd (true≢false (sym c))
disjoint_covers (p ∷ ps) qs i d c =
    by_test (eqb i p) refl (disjoint_covers ps qs i (and_right (not (covers p qs)) (disjoint ps qs) d))
  where
    by_test : (b : Bool) → eqb i p ≡ b → (covers i ps ≡ true → covers i qs ≡ false) → covers i qs ≡ false
    by_test true e later = rw (eqb-true i p e) (not-true (covers p qs) (and_left (not (covers p qs)) (disjoint ps qs) d))
    by_test false e later = later (rw e at c)

pub loaded_frame :
    (w x : Width) (m : List ℕ) (a b v : ℕ) → disjoint (touched w a) (touched x b) ≡ true → loaded w (stored x m b v) a ≡ loaded w m a
loaded_frame w x m a b v d =
    loaded_agree w (stored x m b v) m a (λ i c. stored_frame x m b v i (disjoint_covers (touched w a) (touched x b) i d c))

-- what was stored is read back

number_spread : (k : ℕ) (m : List ℕ) (p v : ℕ) → p + k ≤ length m → number k (spread k m p v) p ≡ v % 256 ^ k
unfolding number spread
number_spread zero m p v h = rw pow-zero (sym (mod-one v))
number_spread (suc k) m p v h =
    let rest : List ℕ = spread k m p (v / 256) in
    ap₂ (λ (x y : ℕ). x * 256 + y)
    (number_agree k (set rest (p + k) (v % 256)) rest p (λ j l. get_or-set_other rest (p + k) (p + j) (v % 256) 0 (omega arith))
    ∙ number_spread k m p (v / 256) (omega arith))
    (get_or-set_same rest (p + k) (v % 256) 0 (rw (spread_length k m p (v / 256)) (omega arith)))
    ∙ sym (mod-mul v (one-le-pow k 256 (omega arith)) (omega arith))
    ∙ ap (λ (n : ℕ). v % n) (sym (pow-suc 256 k))

pub loaded_stored : (w : Width) (m : List ℕ) (a v : ℕ) → Installed m → loaded w (stored w m a v) a ≡ v % modulus w
unfolding loaded stored
loaded_stored w m a v h =
    number_spread (bytes w) m (place w a) v (rw h (place_fits w a)) ∙ ap (λ (n : ℕ). v % n) (sym (modulus_power w))
