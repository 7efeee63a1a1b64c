-- The definitions pick one of a few shapes by tests, so what holds of every shape holds of every word; and a word is unassigned, or an X, by
-- the step of the definitions' tests at which it lies.
use Rattle.std.specs.Prelude.{if◌then◌else◌}
use Rattle.std.proofs.Common.{◌≡◌, ℕ, ◌/◌, ◌<◌, ◌≤◌, Bool, true, false, eqb, ltb, leb, ◌≢◌, sym, refl, ◌∙◌, arith, le-ltb, lt-ltb, ne_eqb, eqb-true, le-leb, leb-false, leb-true}
use mathlib.Core.Bool.{and-false}
use borrow.Author.Tests.{eqb-false, lt-leb}
use Rattle.isa.specs.declared.Instruction.{Instruction}
use Rattle.isa.specs.declared.Instruction.TheVariants.{Dual, Register, Xop, Transfer, Bit, Jump, Shift, Single, Blwp, X, Immediate, Stwp, Stst, Lwpi, Limi, Control, Unassigned}
use Rattle.isa.specs.Isa.{opcode, source, destination, dual, with_register, with_displacement, shift, single, immediate, decoded, further_words}
use Rattle.isa.specs.Words.{General, Fields, FieldsInRange, TwoFurtherWords, is_unassigned, within, in_gaps, UnassignedExactly, is_x, XExactly, XOperand}
use Rattle.isa.proofs.Laws.{operand_words_at_most}
use Rattle.isa.proofs.Ranges.{from_0800, from_0400, from_0200, from_0}

-- what holds of both arms holds of the choice
both : (P : Instruction → Type 0) (b : Bool) {x y : Instruction} → P x → P y → P (if b then x else y)
both P true p q = p
both P false p q = q

-- the fields

general : (w : ℕ) → General (source w)
unfolding source
general w = omega arith

with_register_fields : (w : ℕ) → Fields (with_register w)
unfolding with_register
with_register_fields w =
    both Fields (eqb (opcode 0x400 w) 0x2C00) (general w, omega arith)
    (both Fields (eqb (opcode 0x400 w) 0x3000) (general w, omega arith)
    (both Fields (eqb (opcode 0x400 w) 0x3400) (general w, omega arith) (general w, omega arith)))

single_fields : (w : ℕ) → Fields (single w)
unfolding single
single_fields w =
    both Fields (ltb w 0x0780)
    (both Fields (eqb (opcode 0x40 w) 0x0400) (general w) (both Fields (eqb (opcode 0x40 w) 0x0480) (general w) (general w)))
    tt

immediate_fields : (w : ℕ) → Fields (immediate w)
unfolding immediate
immediate_fields w =
    both Fields (ltb w 0x02A0) (omega arith)
    (both Fields (eqb (opcode 0x20 w) 0x02A0) (omega arith)
    (both Fields (eqb (opcode 0x20 w) 0x02C0) (omega arith)
    (both Fields (eqb (opcode 0x20 w) 0x02E0) tt
    (both Fields (eqb (opcode 0x20 w) 0x0300) tt
    (both Fields (eqb (opcode 0x20 w) 0x0320) tt tt)))))

pub fields_in_range : FieldsInRange
unfolding decoded dual with_displacement shift destination
fields_in_range w =
    both Fields (leb 0x4000 w) (general w, general (w / 64))
    (both Fields (leb 0x2000 w) (with_register_fields w)
    (both Fields (leb 0x1000 w) (both Fields (ltb w 0x1D00) (omega arith) (omega arith))
    (both Fields (leb 0x0800 w) (both Fields (ltb w 0x0C00) (omega arith) tt)
    (both Fields (leb 0x0400 w) (single_fields w)
    (both Fields (leb 0x0200 w) (immediate_fields w) tt)))))

-- the further words

pub two_further_words : TwoFurtherWords
unfolding further_words
two_further_words (Dual o s d w) = omega (arith, operand_words_at_most s refl, operand_words_at_most d refl)
two_further_words (Register o s r) = omega (arith, operand_words_at_most s refl)
two_further_words (Xop s n) = omega (arith, operand_words_at_most s refl)
two_further_words (Transfer o s n) = omega (arith, operand_words_at_most s refl)
two_further_words (Bit o d) = omega arith
two_further_words (Jump o d) = omega arith
two_further_words (Shift o r n) = omega arith
two_further_words (Single o s) = omega (arith, operand_words_at_most s refl)
two_further_words (Blwp s) = omega (arith, operand_words_at_most s refl)
two_further_words (X s) = omega (arith, operand_words_at_most s refl)
two_further_words (Immediate o r) = omega arith
two_further_words (Stwp r) = omega arith
two_further_words (Stst r) = omega arith
two_further_words Lwpi = omega arith
two_further_words Limi = omega arith
two_further_words (Control o) = omega arith
two_further_words Unassigned = omega arith

-- the unassigned words

Assigned : Instruction → Type 0
Assigned i = is_unassigned i ≡ false

by_order : {P : Type 0} (a b : ℕ) → (a ≤ b → P) → (b < a → P) → P
by_order {P} a b f g = by_test (leb a b) refl
  where
    by_test : (t : Bool) → leb a b ≡ t → P
    by_test true e = f (leb-true a b e)
    by_test false e = g (leb-false a b e)

inside : (a b w : ℕ) → a ≤ w → w ≤ b → within a b w ≡ true
unfolding within
inside a b w h l = rw (le-leb a w h, le-leb w b l)

below : (a b w : ℕ) → w < a → within a b w ≡ false
unfolding within
below a b w h = rw (lt-leb a w h)

above : (a b w : ℕ) → b < w → within a b w ≡ false
unfolding within
above a b w h = rw (lt-leb w b h) (and-false (leb a w))

-- 1000 and above: every word is assigned
high : (w : ℕ) → 0x1000 ≤ w → is_unassigned (decoded w) ≡ in_gaps w
unfolding Assigned is_unassigned decoded dual with_register with_displacement in_gaps
high w h =
    rw (above 0 0x01FF w (omega arith), above 0x0320 0x033F w (omega arith), above 0x0780 0x07FF w (omega arith), above 0x0C00 0x0FFF w h)
    (both Assigned (leb 0x4000 w) refl
    (both Assigned (leb 0x2000 w)
    (both Assigned (eqb (opcode 0x400 w) 0x2C00) refl (both Assigned (eqb (opcode 0x400 w) 0x3000) refl (both Assigned (eqb (opcode 0x400 w) 0x3400) refl refl)))
    (rw (le-leb 0x1000 w h) (both Assigned (ltb w 0x1D00) refl refl))))

-- 0800 to 0FFF: the words from 0C00 on are not
shifts : (w : ℕ) → 0x0800 ≤ w → w < 0x1000 → is_unassigned (decoded w) ≡ in_gaps w
unfolding is_unassigned shift in_gaps
shifts w h l =
    rw (from_0800 w l h)
    (rw (above 0 0x01FF w (omega arith), above 0x0320 0x033F w (omega arith), above 0x0780 0x07FF w h)
    (by_order 0x0C00 w
    (λ g. rw (le-ltb w 0x0C00 g, inside 0x0C00 0x0FFF w g (omega arith)))
    (λ g. rw (lt-ltb w 0x0C00 g, below 0x0C00 0x0FFF w g))))

-- 0400 to 07FF: the words from 0780 on are not
singles : (w : ℕ) → 0x0400 ≤ w → w < 0x0800 → is_unassigned (decoded w) ≡ in_gaps w
unfolding Assigned is_unassigned single in_gaps
singles w h l =
    rw (from_0400 w l h)
    (rw (above 0 0x01FF w (omega arith), above 0x0320 0x033F w (omega arith), below 0x0C00 0x0FFF w (omega arith))
    (by_order 0x0780 w
    (λ g. rw (le-ltb w 0x0780 g, inside 0x0780 0x07FF w g (omega arith)))
    (λ g. rw (lt-ltb w 0x0780 g, below 0x0780 0x07FF w g)
    (both Assigned (eqb (opcode 0x40 w) 0x0400) refl (both Assigned (eqb (opcode 0x40 w) 0x0480) refl refl)))))

-- 0200 to 03FF: those with the code 0320 are not
immediates : (w : ℕ) → 0x0200 ≤ w → w < 0x0400 → is_unassigned (decoded w) ≡ in_gaps w
unfolding Assigned is_unassigned immediate in_gaps
immediates w h l =
    rw (from_0200 w l h)
    (rw (above 0 0x01FF w h, below 0x0780 0x07FF w (omega arith), below 0x0C00 0x0FFF w (omega arith))
    (by_order 0x0340 w
    (λ g. rw (above 0x0320 0x033F w g) (assigned (omega arith)))
    (λ g. by_order 0x0320 w
    (λ k. rw (inside 0x0320 0x033F w k (omega arith), le-ltb w 0x02A0 (omega arith), let e : opcode 0x20 w ≡ 0x0320 = omega arith in e))
    (λ k. rw (below 0x0320 0x033F w k) (assigned (omega arith))))))
  where
    assigned : opcode 0x20 w ≢ 0x0320 → Assigned (immediate w)
    assigned n =
        both Assigned (ltb w 0x02A0) refl
        (both Assigned (eqb (opcode 0x20 w) 0x02A0) refl
        (both Assigned (eqb (opcode 0x20 w) 0x02C0) refl
        (both Assigned (eqb (opcode 0x20 w) 0x02E0) refl
        (both Assigned (eqb (opcode 0x20 w) 0x0300) refl
        (rw (ne_eqb (opcode 0x20 w) 0x0320 n))))))

pub unassigned_exactly : UnassignedExactly
unfolding is_unassigned in_gaps
unassigned_exactly w =
    by_order 0x1000 w (high w) (λ h.
    by_order 0x0800 w (λ l. shifts w l h) (λ g.
    by_order 0x0400 w (λ l. singles w l g) (λ k.
    by_order 0x0200 w (λ l. immediates w l k) (λ z.
    rw (from_0 w z, inside 0 0x01FF w (omega arith) (omega arith))))))

-- X

NoX : Instruction → Type 0
NoX i = is_x i ≡ false

x_word : (w : ℕ) → opcode 0x40 w ≡ 0x0480 → decoded w ≡ X (source w)
unfolding single
x_word w e = rw (from_0400 w (omega arith) (omega arith), lt-ltb w 0x0780 (omega arith), e)

no_x : (w : ℕ) → opcode 0x40 w ≢ 0x0480 → NoX (decoded w)
unfolding NoX is_x decoded dual with_register with_displacement shift single immediate
no_x w n =
    both NoX (leb 0x4000 w) refl
    (both NoX (leb 0x2000 w)
    (both NoX (eqb (opcode 0x400 w) 0x2C00) refl (both NoX (eqb (opcode 0x400 w) 0x3000) refl (both NoX (eqb (opcode 0x400 w) 0x3400) refl refl)))
    (both NoX (leb 0x1000 w) (both NoX (ltb w 0x1D00) refl refl)
    (both NoX (leb 0x0800 w) (both NoX (ltb w 0x0C00) refl refl)
    (both NoX (leb 0x0400 w)
    (both NoX (ltb w 0x0780) (both NoX (eqb (opcode 0x40 w) 0x0400) refl (rw (ne_eqb (opcode 0x40 w) 0x0480 n))) refl)
    (both NoX (leb 0x0200 w)
    (both NoX (ltb w 0x02A0) refl
    (both NoX (eqb (opcode 0x20 w) 0x02A0) refl
    (both NoX (eqb (opcode 0x20 w) 0x02C0) refl
    (both NoX (eqb (opcode 0x20 w) 0x02E0) refl
    (both NoX (eqb (opcode 0x20 w) 0x0300) refl (both NoX (eqb (opcode 0x20 w) 0x0320) refl refl))))))
    refl)))))

pub x_exactly : XExactly
unfolding NoX is_x
x_exactly w = by_test (eqb (opcode 0x40 w) 0x0480) refl
  where
    by_test : (t : Bool) → eqb (opcode 0x40 w) 0x0480 ≡ t → is_x (decoded w) ≡ t
    by_test true e = rw (x_word w (eqb-true _ _ e))
    by_test false e = no_x w (eqb-false _ _ e)

pub x_operand : XOperand
x_operand w h = x_word w (eqb-true (opcode 0x40 w) 0x0480 (sym (x_exactly w) ∙ h))
