-- Shifts by at most 16: what is shifted down fits the bits that are left for it, and so does what is put above it. The sign changes
-- at one of k shifts to the left exactly if twice the number is at least 2^(16-k) and below 2^17 - 2^(16-k): one shift doubles the
-- number and halves the room, and the first change is where the upper two bits differ.
use Rattle.std.specs.Prelude.{if◌then◌else◌}
use Rattle.std.proofs.Common.{◌≡◌, ℕ, zero, suc, ◌+◌, ◌-◌, ◌*◌, ◌/◌, ◌%◌, ◌^◌, ◌<◌, ◌≤◌, Bool, true, false, not, ◌&&◌, ◌||◌, eqb, ltb, leb, sym, refl, ◌∙◌, mod-lt, pow-suc, arith, pow_pos, pow_mono, pow-add, shr_lt, le-ltb, lt-ltb, ne_eqb, le-leb}
use lib.Arith.{digits_lt}
use borrow.Author.Tests.{lt-leb}
use Rattle.alu.specs.Shifts.{amount, sign_changes}
use Rattle.alu.proofs.Laws.{either_side, sign_bit}

pub amount_bounds : (n : ℕ) → (1 ≤ amount n) × (amount n ≤ 16)
unfolding amount
amount_bounds n = bounds (n % 16) (omega arith)
  where
    bounds : (m : ℕ) → m < 16 → (1 ≤ (if eqb m 0 then 16 else m)) × ((if eqb m 0 then 16 else m) ≤ 16)
    bounds zero h = omega arith
    bounds (suc m) h = simp (ne_eqb (suc m) 0 (omega arith)) (omega arith)

-- the room that k shifts of v leave
pub record Room (v k : ℕ) : Type 0 where
  pub above : 2 ^ (16 - k) ≤ 65536
  pub high : v / 2 ^ k < 2 ^ (16 - k)
  pub rotated : v / 2 ^ k + v % 2 ^ k * 2 ^ (16 - k) < 65536

pub room : (v k : ℕ) → v < 65536 → k ≤ 16 → Room v k
room v k fits small = record { above = pow_mono {i = 16 - k} {j = 16} (omega arith); high = high_below; rotated = rotated_below }
  where
    high_below : v / 2 ^ k < 2 ^ (16 - k)
    high_below = shr_lt (16 - k) k (rw (let e : (16 - k) + k ≡ 16 = omega arith in e) fits)

    whole : 2 ^ k * 2 ^ (16 - k) ≡ 65536
    whole = rw (← pow-add 2 k (16 - k), (let e : k + (16 - k) ≡ 16 = omega arith in e))

    rotated_below : v / 2 ^ k + v % 2 ^ k * 2 ^ (16 - k) < 65536
    rotated_below = omega (arith, whole, digits_lt (mod-lt v (pow_pos k)) high_below)

-- twice a number lies neither in the lowest l nor in the highest l of 2^17 values
abbrev pub outside : ℕ → ℕ → Bool
outside l v = leb l (v * 2) && ltb (v * 2) (131072 - l)

middle : (l n : ℕ) → l ≤ n * 2 → n * 2 + l < 131072 → outside l n ≡ true
middle l n h g = simp (le-leb l (n * 2) h, lt-ltb (n * 2) (131072 - l) (omega arith))

lowest : (l n : ℕ) → n * 2 < l → outside l n ≡ false
lowest l n h = simp (lt-leb l (n * 2) h)

highest : (l n : ℕ) → l ≤ n * 2 → 131072 ≤ n * 2 + l → outside l n ≡ false
highest l n h g = simp (le-leb l (n * 2) h, le-ltb (n * 2) (131072 - l) (omega arith))

-- One shift makes u of v: the sign changes at once, or u lies outside twice the room. By the two signs: where they are the same, u and
-- v are alike; where they differ, v lies in the middle.
one_shift : (l v u : ℕ) → l ≤ 32768 → v < 65536 → u ≡ v * 2 % 65536
    → (if leb 32768 v then not (leb 32768 u) else leb 32768 u) || outside (l * 2) u ≡ outside l v
one_shift l v u small fits doubled =
    either_side v 32768
    (λ h. either_side u 32768
    (λ g. simp (lt-leb 32768 v h, lt-leb 32768 u g)
    (either_side u l
    (λ x. lowest (l * 2) u (omega arith) ∙ sym (lowest l v (omega arith)))
    (λ x. middle (l * 2) u (omega arith) (omega arith) ∙ sym (middle l v (omega arith) (omega arith)))))
    (λ g. simp (lt-leb 32768 v h, le-leb 32768 u g) (sym (middle l v (omega arith) (omega arith)))))
    (λ h. either_side u 32768
    (λ g. simp (le-leb 32768 v h, lt-leb 32768 u g) (sym (middle l v (omega arith) (omega arith))))
    (λ g. simp (le-leb 32768 v h, le-leb 32768 u g)
    (either_side (u + l) 65536
    (λ x. middle (l * 2) u (omega arith) (omega arith) ∙ sym (middle l v (omega arith) (omega arith)))
    (λ x. highest (l * 2) u (omega arith) (omega arith) ∙ sym (highest l v (omega arith) (omega arith))))))

-- j bits are left after k shifts
changes : (k j v : ℕ) → k + j ≡ 16 → v < 65536 → sign_changes k v ≡ outside (2 ^ j) v
unfolding sign_changes
changes zero j v all fits =
    rw (let e : j ≡ 16 = omega arith in e)
    (either_side (v * 2) 65536 (λ h. sym (simp (lt-leb 65536 (v * 2) h))) (λ h. sym (simp (le-leb 65536 (v * 2) h, le-ltb (v * 2) 65536 h))))
changes (suc k) j v all fits =
    rw (sign_bit v fits, sign_bit (v * 2 % 65536) (omega arith), changes k (suc j) (v * 2 % 65536) (omega arith) (omega arith), pow-suc 2 j)
    (one_shift (2 ^ j) v (v * 2 % 65536) (pow_mono {i = j} {j = 15} (omega arith)) fits refl)

pub changes_is : (k v : ℕ) → k ≤ 16 → v < 65536 → sign_changes k v ≡ outside (2 ^ (16 - k)) v
changes_is k v small fits = changes k (16 - k) v (omega arith) fits
