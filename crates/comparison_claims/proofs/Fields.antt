-- The word of fields is made from its lowest bit up, so bit k is the comparison of field k, and the word is 0 exactly if the fields are the
-- same, one by one. From the third on the fields are a state's.
use Prim.Native.Nat.{ℕ, zero, suc, ◌+◌, ◌*◌, ◌/◌, ◌%◌, ◌<◌}
use mathlib.Core.Path.{◌≡◌, refl, sym, ap, ap₂, ◌∙◌}
use mathlib.Core.Logic.{◌↔◌}
use mathlib.Core.Bool.{Bool, not}
use mathlib.Core.List.{List, [], ◌∷◌}
use native.Mathlib.Omega.{arith}
use native.Mathlib.Nat.{add-zero, div-one}
use borrow.Author.Tests.{eq-eqb, eqb-true, not-false}
use lib.Dec.{eqb}
use Rattle.bits.specs.Bits.{one_if, bit}
use Rattle.bits.proofs.Laws.{one_if_below, one_if_set, bit_half}
use Rattle.image_blocks.specs.Image as Image
use Rattle.state_array.specs.Arrays.{held}
use Rattle.comparison.specs.Compare.{field, fields_from, fields}

-- the lowest bit
lowest : (b : Bool) (w : ℕ) → bit 0 (one_if b + 2 * w) ≡ b
unfolding bit
lowest b w =
    let e : (one_if b + 2 * w) % 2 ≡ one_if b = omega (arith, one_if_below b) in
    rw (div-one, e) (one_if_set b)

pub field_bit : (a b : List ℕ) (n j k : ℕ) → k < n → bit k (fields_from a b n j) ≡ not (eqb (field a (j + k)) (field b (j + k)))
unfolding fields_from
field_bit a b zero j k h = absurd (omega arith)
field_bit a b (suc n) j zero h = rw (add-zero j) (lowest (not (eqb (field a j) (field b j))) (fields_from a b n (j + 1)))
field_bit a b (suc n) j (suc k) h =
    let differ : Bool = not (eqb (field a j) (field b j)) in
    let rest : ℕ = fields_from a b n (j + 1) in
    let half : (one_if differ + 2 * rest) / 2 ≡ rest = omega (arith, one_if_below differ) in
    rw (bit_half k (one_if differ + 2 * rest), half, let e : j + suc k ≡ j + 1 + k = omega arith in e) (field_bit a b n (j + 1) k (omega arith))

-- n fields from number k on
abbrev words : List ℕ → ℕ → ℕ → List ℕ
words img zero k = []
words img (suc n) k = field img k ∷ words img n (k + 1)

pub no_weight : (a b : List ℕ) (n k : ℕ) → words a n k ≡ words b n k → fields_from a b n k ≡ 0
unfolding fields_from
no_weight a b zero k e = refl
no_weight a b (suc n) k e =
    let here : field a k ≡ field b k = cc in
    rw (eq-eqb (field a k) (field b k) here, no_weight a b n (k + 1) (cc))

all_alike : (a b : List ℕ) (n k : ℕ) → fields_from a b n k ≡ 0 → words a n k ≡ words b n k
unfolding fields_from bit
all_alike a b zero k e = refl
all_alike a b (suc n) k e =
    let same : Bool = eqb (field a k) (field b k) in
    ap₂ ◌∷◌
    (eqb-true (field a k) (field b k) (not-false same (sym (lowest (not same) (fields_from a b n (k + 1))) ∙ ap (bit 0) e)))
    (all_alike a b n (k + 1) (omega arith))

-- Fields 2 to 14 are the state's.

state_words : (img : List ℕ) → words img 13 2 ≡ Image.fields (Image.state_of img)
unfolding field Image.fields Image.state_of Image.psi_of
state_words img = refl

state_alike : (a b : List ℕ) → words a 13 2 ≡ words b 13 2 → Image.state_of a ≡ Image.state_of b
unfolding field Image.state_of Image.psi_of held
state_alike a b e = ap held e

-- weights from 4 on
upper : (a b : List ℕ) → fields a b / 4 ≡ fields_from a b 13 2
unfolding fields_from
upper a b = omega (arith, one_if_below (not (eqb (field a 0) (field b 0))), one_if_below (not (eqb (field a 1) (field b 1))))

pub states : (a b : List ℕ) → (fields a b / 4 ≡ 0) ↔ (Image.state_of a ≡ Image.state_of b)
states a b = (
  λ e. state_alike a b (all_alike a b 13 2 (sym (upper a b) ∙ e)),
  λ e. upper a b ∙ no_weight a b 13 2 (state_words a ∙ ap Image.fields e ∙ sym (state_words b)),
)

-- the two weights below 4
pub lower :
    (a b : List ℕ) → Image.field_of a 0 ≡ Image.field_of b 0 → fields a b / 4 ≡ 0
    → fields a b ≡ 2 * one_if (not (eqb (Image.field_of a 1) (Image.field_of b 1)))
unfolding fields_from field
lower a b f e =
    let none : fields_from a b 13 2 ≡ 0 = sym (upper a b) ∙ e in
    rw (eq-eqb (Image.field_of a 0) (Image.field_of b 0) f) (omega (arith, none, one_if_below (not (eqb (Image.field_of a 1) (Image.field_of b 1)))))
