-- What one access does to the read register and the decrementer is one case analysis over the PSI's table; the PSI after a microprogram is
-- that after its accesses, by one induction; the rest is about lists of accesses.
use Rattle.std.proofs.Common.{◌≡◌, ℕ, ◌<◌, Bool, true, false, ◌||◌, eqb, ltb, List, [], ◌∷◌, ◌++◌, sym, refl, ap, ◌∙◌, arith, ltb-true, lt-ltb, eq-eqb, ne_eqb, eqb-true}
use borrow.Author.Tests.{eqb-false}
use Rattle.bits.specs.Bits.{bit}
use Rattle.memory.specs.declared.Width.TheVariants.{Word}
use Rattle.memory.specs.Memory.{loaded}
use Rattle.memory.proofs.Laws.{and_left, and_right}
use Rattle.psi.specs.declared.Psi.{Psi}
use Rattle.psi.specs.declared.CruBit.{CruBit}
use Rattle.psi.specs.Psi.{bits, control}
use Rattle.psi.specs.Cru as Cru
use Rattle.psi.specs.Cru.{memory_select, cru_select}
use Rattle.psi.proofs.Cases.{either_way}
use Rattle.psi.proofs.Select.{s0_low}
use Rattle.machine.specs.State.{registers}
use Rattle.machine.specs.Micro.{done, look, assign, fetch, read, write, sense, drive, to_wp, to_pc, to_st, to_flags}
use Rattle.machine.specs.Perform.{perform, Access, was_fetched, was_read, was_written, was_sensed, was_driven, accesses, after_assign, after_fetch, after_read, after_write, after_sense, after_drive}
use Rattle.machine.specs.Refresh.{seen, all_seen, PsiByAccesses, refreshes, some_refreshes, Frozen, steady, Refreshed, writes_load, LoadsAloneRestart}
use Rattle.machine.proofs.Laws.{or_left, or_right}

pub psi_by_accesses : {A : Type 0} → PsiByAccesses A
unfolding perform accesses seen all_seen
psi_by_accesses v (done a) m = refl
psi_by_accesses v (look k) m = psi_by_accesses v (k (registers m.state)) m
psi_by_accesses v (assign to_wp x k) m = psi_by_accesses v k (after_assign to_wp x m)
psi_by_accesses v (assign to_pc x k) m = psi_by_accesses v k (after_assign to_pc x m)
psi_by_accesses v (assign to_st x k) m = psi_by_accesses v k (after_assign to_st x m)
psi_by_accesses v (assign to_flags x k) m = psi_by_accesses v k (after_assign to_flags x m)
psi_by_accesses v (fetch k) m = psi_by_accesses v (k (loaded Word m.memory m.state.pc)) (after_fetch m)
psi_by_accesses v (read w a k) m = psi_by_accesses v (k (loaded w m.memory a)) (after_read a m)
psi_by_accesses v (write w a x k) m = psi_by_accesses v k (after_write w a x m)
psi_by_accesses v (sense b k) m = psi_by_accesses v (k (Cru.sensed m.state.psi v b).value) (after_sense v b m)
psi_by_accesses v (drive b x k) m = psi_by_accesses v k (after_drive b x m)

-- accesses to memory alone
unfoldable pub InMemory : List Access → Type 0
InMemory [] = Unit
InMemory (was_fetched a ∷ l) = InMemory l
InMemory (was_read w a ∷ l) = InMemory l
InMemory (was_written w a x ∷ l) = InMemory l
InMemory (was_sensed b ∷ l) = ⊥
InMemory (was_driven b x ∷ l) = ⊥

-- two accesses refresh if one does
selected_twice : (s t : Bool) (p : Psi) → Cru.selected t (Cru.selected s p) ≡ Cru.selected (s || t) p
unfolding Cru.selected
selected_twice true true p = refl
selected_twice true false p = refl
selected_twice false t p = refl

-- they refresh the read register or leave the PSI as it was
pub only_refreshed : (v : ℕ) (l : List Access) (p : Psi) → InMemory l → all_seen v l p ≡ Cru.selected (some_refreshes l) p
unfolding seen all_seen refreshes some_refreshes InMemory Cru.addressed Cru.selected
only_refreshed v [] p h = refl
only_refreshed v (was_fetched a ∷ l) p h = only_refreshed v l _ h ∙ selected_twice (bit memory_select a) (some_refreshes l) p
only_refreshed v (was_read w a ∷ l) p h = only_refreshed v l _ h ∙ selected_twice (bit memory_select a) (some_refreshes l) p
only_refreshed v (was_written w a x ∷ l) p h = only_refreshed v l _ h ∙ selected_twice (bit memory_select a) (some_refreshes l) p
only_refreshed v (was_sensed b ∷ l) p h = absurd h
only_refreshed v (was_driven b x ∷ l) p h = absurd h

-- what an access that turns the PSI from p into q does to the read register and the decrementer
record Sight (a : Access) (p q : Psi) : Type 0 where
  frozen : refreshes a ≡ false → q.reading ≡ p.reading
  fresh : refreshes a ≡ true → q.reading ≡ q.decrementer
  running : writes_load (control p) a ≡ false → q.decrementer ≡ p.decrementer

-- an access that leaves the register, and one that refreshes it
leaves :
    (a : Access) (p q : Psi)
    → refreshes a ≡ false → q.reading ≡ p.reading → (writes_load (control p) a ≡ false → q.decrementer ≡ p.decrementer)
    → Sight a p q
leaves a p q r e d = record { frozen = λ f. e; fresh = λ t. cc; running = d }

renews : (a : Access) (p q : Psi) → refreshes a ≡ true → q.reading ≡ q.decrementer → q.decrementer ≡ p.decrementer → Sight a p q
renews a p q r e d = record { frozen = λ f. cc; fresh = λ t. e; running = λ l. d }

-- an access that changes at most other fields of p, but for S0
by_s0 :
    (a : Access) (s0 : Bool) (p q : Psi)
    → refreshes a ≡ s0 → q.reading ≡ p.reading → q.decrementer ≡ p.decrementer
    → Sight a p (Cru.selected s0 q)
unfolding Cru.selected
by_s0 a true p q r e d = renews a p _ r refl d
by_s0 a false p q r e d = leaves a p _ r e (λ l. d)

module _ (b : CruBit) (x : Bool) (p : Psi) where
  by_control : (y : Bool) → b.0 ≡ 0 → Sight (was_driven b y) p (Cru.controlled p y)
  unfolding Cru.controlled refreshes
  by_control true z = leaves (was_driven b true) p _ (rw (eq-eqb _ _ z)) refl (λ l. refl)
  by_control false z = renews (was_driven b false) p _ (rw (eq-eqb _ _ z)) refl refl

  -- bits 1 to 15 leave the read register
  below_16 :
      (q : Psi) → 0 < b.0 → b.0 < 16 → q.reading ≡ p.reading
      → (writes_load (control p) (was_driven b x) ≡ false → q.decrementer ≡ p.decrementer)
      → Sight (was_driven b x) p q
  unfolding refreshes
  below_16 q l h e d = leaves (was_driven b x) p q (rw (ne_eqb b.0 0 (omega arith)) (s0_low b.0 h)) e d

  by_mask : 0 < b.0 → b.0 < 16 → Sight (was_driven b x) p (Cru.masked p b.0 x)
  unfolding Cru.masked
  by_mask l h =
      either_way (Sight (was_driven b x) p) (eqb b.0 3) (λ e. below_16 _ l h refl (λ d. refl)) (λ e. below_16 _ l h refl (λ d. refl))

  by_load : 0 < b.0 → b.0 < 16 → control p ≡ true → Sight (was_driven b x) p (Cru.timed p b.0 x)
  unfolding Cru.timed writes_load
  by_load l h c =
      either_way (Sight (was_driven b x) p) (eqb b.0 15)
      (λ e. either_way (Sight (was_driven b x) p) x (λ y. below_16 _ l h refl (λ d. refl)) (λ y. below_16 _ l h refl (λ d. refl)))
      (λ e.
      let writes : writes_load (control p) (was_driven b x) ≡ true = rw (c, lt-ltb 0 b.0 l, lt-ltb b.0 15 (omega (arith, eqb-false b.0 15 e))) in
      below_16 _ l h refl (λ d. cc))

  -- what is written, and then S0, which is 0 below 16
  abbrev Written : Psi → Type 0
  Written q = Sight (was_driven b x) p (Cru.selected (bit cru_select b.0) q)

  low : (q : Psi) → b.0 < 16 → Sight (was_driven b x) p q → Written q
  unfolding Cru.selected
  low q h s = rw (s0_low b.0 h) s

  driven_sight : Sight (was_driven b x) p (Cru.driven p b x)
  unfolding Cru.driven Cru.written Cru.latched refreshes
  driven_sight =
      either_way Written (eqb b.0 0)
      (λ z. low _ (omega (arith, eqb-true b.0 0 z)) (by_control x (eqb-true b.0 0 z)))
      (λ z. either_way Written (ltb b.0 16)
      (λ l. either_way Written (control p)
      (λ c. low _ (ltb-true b.0 16 l) (by_load (omega (arith, eqb-false b.0 0 z)) (ltb-true b.0 16 l) c))
      (λ c. low _ (ltb-true b.0 16 l) (by_mask (omega (arith, eqb-false b.0 0 z)) (ltb-true b.0 16 l))))
      (λ l. either_way Written (ltb b.0 bits)
      (λ h. by_s0 (was_driven b x) _ p _ (rw z) refl refl)
      (λ h. by_s0 (was_driven b x) _ p p (rw z) refl refl)))

sight : (v : ℕ) (a : Access) (p : Psi) → Sight a p (seen v a p)
unfolding seen Cru.addressed Cru.sensed refreshes
sight v (was_fetched a) p = by_s0 _ _ p p refl refl refl
sight v (was_read w a) p = by_s0 _ _ p p refl refl refl
sight v (was_written w a x) p = by_s0 _ _ p p refl refl refl
sight v (was_sensed b) p = by_s0 _ _ p p refl refl refl
sight v (was_driven b x) p = driven_sight b x p

pub loads_alone_restart : LoadsAloneRestart
loads_alone_restart v a p = (sight v a p).running

frozen_by : (v : ℕ) (l : List Access) (p : Psi) → some_refreshes l ≡ false → (all_seen v l p).reading ≡ p.reading
unfolding all_seen some_refreshes
frozen_by v [] p f = refl
frozen_by v (a ∷ l) p f =
    frozen_by v l (seen v a p) (or_right (refreshes a) _ f) ∙ (sight v a p).frozen (or_left (refreshes a) _ f)

-- where the read register shows the decrementer, it does so until that changes
shows : (v : ℕ) (l : List Access) (p : Psi) → p.reading ≡ p.decrementer → steady v l p ≡ true
    → (all_seen v l p).reading ≡ (all_seen v l p).decrementer
unfolding all_seen steady
shows v [] p e f = e
shows v (a ∷ l) p e f =
    shows v l (seen v a p) (still (refreshes a) refl (eqb-true _ _ (and_left _ _ f))) (and_right (eqb (seen v a p).decrementer p.decrementer) _ f)
  where
    still : (r : Bool) → refreshes a ≡ r → (seen v a p).decrementer ≡ p.decrementer → (seen v a p).reading ≡ (seen v a p).decrementer
    still true r d = (sight v a p).fresh r
    still false r d = (sight v a p).frozen r ∙ e ∙ sym d

refreshed_by :
    (v : ℕ) (before : List Access) (a : Access) (after : List Access) (p : Psi)
    → refreshes a ≡ true
    → steady v after (seen v a (all_seen v before p)) ≡ true
    → (all_seen v (before ++ (a ∷ after)) p).reading ≡ (all_seen v (before ++ (a ∷ after)) p).decrementer
unfolding all_seen
refreshed_by v [] a after p r f = shows v after (seen v a p) ((sight v a p).fresh r) f
refreshed_by v (b ∷ before) a after p r f = refreshed_by v before a after (seen v b p) r f

pub frozen : {A : Type 0} → Frozen A
frozen v p m f = ap (λ (q : Psi). q.reading) (psi_by_accesses v p m) ∙ frozen_by v (accesses v p m) m.state.psi f

pub refreshed : {A : Type 0} → Refreshed A
refreshed v p m before a after e r f = rw (psi_by_accesses v p m, e) (refreshed_by v before a after m.state.psi r f)
