-- Every change of the PSI is one of a few changes of single fields. What these keep, cycles and accesses keep; the case
-- analysis is made once, for both properties.
use Prim.Native.Nat.{ℕ, zero, suc, ◌+◌, ◌-◌, ◌/◌, ◌%◌, ◌<◌, ◌≤◌}
use mathlib.Core.Path.{◌≡◌, refl, sym, ◌∙◌}
use mathlib.Core.Bool.{Bool, true, false, ◌||◌}
use native.Mathlib.Omega.{arith}
use lib.Dec.{eqb, ltb}
use borrow.Author.Tests.{eqb-true, eqb-false, ltb-true, leb-true, le-leb, lt-ltb, eq-eqb}
use Rattle.bits.specs.Bits.{bit, put}
use Rattle.bits.specs.Logic.{joined, without}
use Rattle.psi.specs.declared.Psi.{Psi}
use Rattle.psi.specs.declared.CruBit.{CruBit}
use Rattle.psi.specs.Psi.{blank, control, bits, clock_largest, tick_cycles, with_mask, with_ports, with_phase, with_pending, with_count, with_load, refreshed}
use Rattle.psi.specs.Clock.{counted, pended, followed, tick, ticks, advanced}
use Rattle.psi.specs.Cru.{controlled, masked, timed, latched, selected, addressed, sensed, written, driven}
use Rattle.psi.specs.Formed.{well_formed}
use Rattle.psi.specs.Kept.{Fits16, Kept, KeptFormed, KeptFits}
use Rattle.psi.proofs.Cases.{either_way}
use Rattle.bits.proofs.Laws.{conjuncts, put_fits, put_read, put_others}
use Rattle.psi.proofs.Put.{without_put}

-- a property that each change of fields keeps
record Changes (P : Psi → Type 0) : Type 0 where
  start : P blank
  count : {p : Psi} → P p → P (tick p)
  phase : (x : ℕ) → x < tick_cycles → {p : Psi} → P p → P (with_phase x p)
  refresh : {p : Psi} → P p → P (refreshed p)
  timer : {p : Psi} → P p → P (with_mask (put 0 true p.mask) p)
  interrupts : {p : Psi} → P p → P (refreshed (with_mask (put 0 false p.mask) p))
  mask : (n : ℕ) (x : Bool) → 0 < n → n < 16 → {p : Psi} → P p → P (with_mask (put n x p.mask) p)
  clear : {p : Psi} → P p → P (with_pending 0 p)
  load : (n : ℕ) (x : Bool) → n < 14 → {p : Psi} → control p ≡ true → P p → P (with_load (put n x p.load) p)
  inputs : {p : Psi} → P p → P (with_ports 0 0 p)
  port : (k : ℕ) (x : Bool) → k < 16 → {p : Psi} → P p → P (with_ports (put k true p.direction) (put k x p.latch) p)

module _ (P : Psi → Type 0) (ch : Changes P) where
  ticks_keep : (n : ℕ) {p : Psi} → P p → P (ticks n p)
  unfolding ticks
  ticks_keep zero h = h
  ticks_keep (suc n) h = ch.count (ticks_keep n h)

  controlled_keeps : (x : Bool) (p : Psi) → P p → P (controlled p x)
  unfolding controlled
  controlled_keeps true p h = ch.timer h
  controlled_keeps false p h = ch.interrupts h

  masked_keeps : (n : ℕ) (x : Bool) (p : Psi) → 0 < n → n < 16 → P p → P (masked p n x)
  unfolding masked
  masked_keeps n x p l u h =
      either_way P (eqb n 3) (λ e. ch.clear (ch.mask n x l u h)) (λ e. ch.mask n x l u h)

  timed_keeps : (n : ℕ) (x : Bool) (p : Psi) → 0 < n → n < 16 → control p ≡ true → P p → P (timed p n x)
  unfolding timed
  timed_keeps n x p l u c h =
      either_way P (eqb n 15)
      (λ e. either_way P x (λ q. h) (λ q. ch.inputs h))
      (λ e. ch.load (n - 1) x (omega (arith, eqb-false n 15 e)) c h)

  latched_keeps : (k : ℕ) (x : Bool) (p : Psi) → k < 16 → P p → P (latched p k x)
  unfolding latched
  latched_keeps k x p u h = ch.port k x u h

  advanced_keeps : (n : ℕ) {p : Psi} → P p → P (advanced n p)
  unfolding advanced
  advanced_keeps n {p} h = ticks_keep ((p.phase + n) / 64) (ch.phase ((p.phase + n) % 64) (omega arith) h)

  selected_keeps : (s0 : Bool) {p : Psi} → P p → P (selected s0 p)
  unfolding selected
  selected_keeps true h = ch.refresh h
  selected_keeps false h = h

  addressed_keeps : (a : ℕ) {p : Psi} → P p → P (addressed a p)
  unfolding addressed
  addressed_keeps a h = selected_keeps _ h

  sensed_keeps : (v : ℕ) (b : CruBit) {p : Psi} → P p → P (sensed p v b).psi
  unfolding sensed
  sensed_keeps v b h = selected_keeps _ h

  written_keeps : (n : ℕ) (x : Bool) {p : Psi} → P p → P (written p n x)
  unfolding written
  written_keeps n x {p} h =
      either_way P (eqb n 0)
      (λ z. controlled_keeps x p h)
      (λ z. either_way P (ltb n 16)
      (λ l. either_way P (control p)
      (λ c. timed_keeps n x p (omega (arith, eqb-false n 0 z)) (ltb-true n 16 l) c h)
      (λ c. masked_keeps n x p (omega (arith, eqb-false n 0 z)) (ltb-true n 16 l) h))
      (λ l. either_way P (ltb n bits)
      (λ m. latched_keeps (n - 16) x p (omega (arith, ltb-true n bits m)) h)
      (λ m. h)))

  driven_keeps : (b : CruBit) (x : Bool) {p : Psi} → P p → P (driven p b x)
  unfolding driven
  driven_keeps b x h = selected_keeps _ (written_keeps b.0 x h)

  all_kept : Kept P
  all_kept = record { start = ch.start; cycles = advanced_keeps; address = addressed_keeps; read = sensed_keeps; write = driven_keeps }

-- the numbers of a tick are bounded by what bounds the old ones
counted_below : (b : ℕ) (p : Psi) → clock_largest ≤ b → p.load ≤ b → p.decrementer ≤ b → counted p ≤ b
unfolding counted
counted_below b p top l d =
    either_way (λ (n : ℕ). n ≤ b) (eqb p.decrementer 0)
    (λ e. either_way (λ (n : ℕ). n ≤ b) (eqb p.load 0) (λ z. top) (λ z. l))
    (λ e. omega arith)

pended_below : (b : ℕ) (p : Psi) → 1 ≤ b → p.pending ≤ b → pended p ≤ b
unfolding pended
pended_below b p one h =
    either_way (λ (n : ℕ). n ≤ b) (eqb p.load 0)
    (λ z. h)
    (λ z. either_way (λ (n : ℕ). n ≤ b) (eqb (counted p) 0) (λ e. one) (λ e. h))

-- the fields fit
fits_counted : (p : Psi) → Fits16 p → Fits16 (with_count (counted p) (pended p) p)
fits_counted p h =
    let count : counted p ≤ 65535 = counted_below 65535 p (omega arith) (omega arith) (omega arith) in
    let flag : pended p ≤ 65535 = pended_below 65535 p (omega arith) (omega arith) in
    omega arith

fits_refreshed : (p : Psi) → Fits16 p → Fits16 (refreshed p)
fits_refreshed p h = omega arith

fits_tick : (p : Psi) → Fits16 p → Fits16 (tick p)
unfolding tick followed
fits_tick p h = either_way Fits16 (control p) (λ c. fits_counted p h) (λ c. fits_refreshed _ (fits_counted p h))

fits_changes : Changes Fits16
fits_changes =
    record {
      start = omega arith;
      count = λ {p} h. fits_tick p h;
      phase = λ x l {p} h. omega arith;
      refresh = λ {p} h. fits_refreshed p h;
      timer = λ {p} h. omega (arith, put_fits 16 0 true p.mask (omega arith) h.mask);
      interrupts = λ {p} h. omega (arith, put_fits 16 0 false p.mask (omega arith) h.mask);
      mask = λ n x l u {p} h. omega (arith, put_fits 16 n x p.mask u h.mask);
      clear = λ {p} h. omega arith;
      load = λ n x l {p} c h. omega (arith, put_fits 16 n x p.load (omega arith) h.load);
      inputs = λ {p} h. omega arith;
      port = λ k x l {p} h. omega (arith, put_fits 16 k true p.direction l h.direction, put_fits 16 k x p.latch l h.latch);
    }

pub kept_fits : KeptFits
kept_fits = all_kept Fits16 fits_changes

-- what well-formedness says of the numbers, and of the read register
record Numbers (p : Psi) : Type 0 where
  load : p.load ≤ clock_largest
  decrementer : p.decrementer ≤ clock_largest
  reading : p.reading ≤ clock_largest
  phase : p.phase < tick_cycles
  pending : p.pending ≤ 1
  latches : without p.latch p.direction ≡ 0

record Form (p : Psi) : Type 0 where
  numbers : Numbers p
  follows : control p ≡ false → p.reading ≡ p.decrementer

other : (a b : Bool) → (a || b) ≡ true → a ≡ false → b ≡ true
other true b e f = cc
other false b e f = e

either_holds : (a b : Bool) → (a ≡ false → b ≡ true) → (a || b) ≡ true
either_holds true b f = refl
either_holds false b f = f refl

form : (p : Psi) → well_formed p ≡ true → Form p
unfolding well_formed
form p w =
    let c1 = conjuncts _ _ w in
    let c2 = conjuncts _ _ c1.1 in
    let c3 = conjuncts _ _ c2.1 in
    let c4 = conjuncts _ _ c3.1 in
    let c5 = conjuncts _ _ c4.1 in
    let c6 = conjuncts _ _ c5.1 in
    record {
      numbers = record {
        load = leb-true p.load _ c1.0;
        decrementer = leb-true p.decrementer _ c2.0;
        reading = leb-true p.reading _ c3.0;
        phase = ltb-true p.phase _ c4.0;
        pending = leb-true p.pending _ c5.0;
        latches = eqb-true _ _ c6.0;
      };
      follows = λ c. eqb-true _ _ (other (control p) _ c6.1 c);
    }

formed : (p : Psi) → Form p → well_formed p ≡ true
unfolding well_formed
formed p f =
    rw (
      le-leb _ _ f.numbers.load,
      le-leb _ _ f.numbers.decrementer,
      le-leb _ _ f.numbers.reading,
      lt-ltb _ _ f.numbers.phase,
      le-leb _ _ f.numbers.pending,
      eq-eqb _ _ f.numbers.latches,
    )
    (either_holds (control p) _ (λ c. eq-eqb _ _ (f.follows c)))

form_counted : (p : Psi) → Form p → Numbers (with_count (counted p) (pended p) p)
form_counted p f =
    let n = f.numbers in
    omega (arith, counted_below clock_largest p (omega arith) n.load n.decrementer, pended_below 1 p (omega arith) n.pending)

form_refreshed : (p : Psi) → Numbers p → Form (refreshed p)
form_refreshed p n = record { numbers = omega arith; follows = λ c. refl }

form_tick : (p : Psi) → Form p → Form (tick p)
unfolding tick followed
form_tick p f =
    either_way Form (control p)
    (λ c. record { numbers = form_counted p f; follows = λ z. cc })
    (λ c. form_refreshed _ (form_counted p f))

no_latches : without 0 0 ≡ 0
unfolding without joined bit
no_latches = refl

blank_formed : well_formed blank ≡ true
unfolding well_formed without joined bit
blank_formed = refl

form_changes : Changes Form
form_changes =
    record {
      start = form blank blank_formed;
      count = λ {p} f. form_tick p f;
      phase = λ x l {p} f. record { numbers = omega arith; follows = f.follows };
      refresh = λ {p} f. form_refreshed p f.numbers;
      timer = λ {p} f. record { numbers = omega arith; follows = λ c. cc (put_read 0 true p.mask) };
      interrupts = λ {p} f. form_refreshed (with_mask (put 0 false p.mask) p) (omega arith);
      mask = λ n x l u {p} f. record { numbers = omega arith; follows = λ c. f.follows (sym (put_others 0 n x p.mask (omega arith)) ∙ c) };
      clear = λ {p} f. record { numbers = omega arith; follows = f.follows };
      load = λ n x l {p} c f. record { numbers = omega (arith, put_fits 14 n x p.load l (omega arith)); follows = λ z. cc };
      inputs = λ {p} f. record { numbers = omega (arith, no_latches); follows = f.follows };
      port = λ k x l {p} f.
          record {
            numbers = omega (arith, without_put k x p.latch p.direction f.numbers.latches);
            follows = f.follows;
          };
    }

pub kept_formed : KeptFormed
kept_formed =
    let kept = all_kept Form form_changes in
    record {
      start = blank_formed;
      cycles = λ n {p} w. formed _ (kept.cycles n (form p w));
      address = λ a {p} w. formed _ (kept.address a (form p w));
      read = λ v b {p} w. formed _ (kept.read v b (form p w));
      write = λ b x {p} w. formed _ (kept.write b x (form p w));
    }
