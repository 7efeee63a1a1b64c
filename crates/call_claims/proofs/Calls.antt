-- What every step from a well-formed state keeps, the steps of a call keep, by induction on them, and so do the calls of a list: an accepted
-- call begins with such a state, and a refused one has no steps and changes nothing. A step keeps a state well formed, and so does power
-- up, a reset entry from the blank state.
use Prim.Native.Nat.{ℕ, zero, suc, ◌≤◌}
use mathlib.Core.Path.{◌≡◌, refl, ap}
use mathlib.Core.Bool.{false, ◌&&◌}
use mathlib.Core.List.{List, [], ◌∷◌}
use native.Mathlib.Omega.{arith}
use lib.Dec.{eqb}
use lib.ListN.{length}
use Rattle.bits.specs.Bits.{bit}
use Rattle.psi.proofs.Cases.{either_way}
use Rattle.psi.proofs.Kept.{kept_formed}
use Rattle.machine.specs.declared.Signal.TheVariants.{Reset as reset}
use Rattle.machine.specs.State.{Machine, at, blank, idle, no_sample}
use Rattle.machine.specs.Step.{step}
use Rattle.machine.specs.Run.{RunResult, StateResult, power_up_refusal, power_up}
use Rattle.machine.proofs.Laws.{Form, form, formed}
use Rattle.machine.proofs.Flags.{boundary_form, keeps_well_formed}
use Rattle.run_rules.proofs.Laws as Laws
use Rattle.book.specs.Book.{Book, Moment, moment, Call, call_moments, call_machine, book_after, all_moments}
use Rattle.book_claim.specs.Claim.{Seen, calls, Chained, Each}
use Rattle.book_claim.proofs.Each.{each_append}
use Rattle.book_claim.proofs.Steps.{every_run, every_call}
use Rattle.call_claims.specs.Calls.{Formed, CallsKeepWellFormed, WellFormedFromPowerUp, NeverIdleUnsampled}

module _ (P : Machine → Type 0) (kept : (word : ℕ) (m : Machine) → Formed m → P m → P (step word m).machine) where
  -- P holds after each of some steps, and of the machine that they lead to
  record Kept (xs : List Moment) (n : Machine) : Type 0 where
    each : Each (λ x. P x.after) xs
    last : P n

  nothing : (m : Machine) → P m → Kept [] m
  unfolding Each
  nothing m p = record { each = tt; last = p }

  one_more :
      (r : ℕ) (m n : Machine) (b : Book) (xs : List Moment)
      → (Formed (step r m).machine → P (step r m).machine → Kept xs n) → Formed m → P m → Kept (moment r m b ∷ xs) n
  unfolding Each moment
  one_more r m n b xs later f p =
      let q = kept r m f p in
      let k = later (keeps_well_formed r m f) q in
      record { each = (q, k.each); last = k.last }

  call_kept : (m : Machine) (b : Book) (c : Call) → P m → Kept (call_moments m b c) (call_machine m c)
  call_kept m b c p =
      every_call Kept m b c
      (λ a. every_run (λ m b xs n. Formed m → P m → Kept xs n) (λ m b f. nothing m) one_more c.stop c.steps c.records m b
      (Laws.accepted _ _ _ _ a).formed p)
      (nothing m p)

  pub all_kept : (m : Machine) (b : Book) (seen : List Seen) → P m → Chained m.state m.memory seen
      → Each (λ x. P x.after) (all_moments m b (calls seen)) × Each (λ x. P (at x.answer.state x.memory)) seen
  unfolding call_machine all_moments calls Chained Each
  all_kept m b [] p c = (tt, tt)
  all_kept m b (x ∷ xs) p c =
      let steps : List Moment = call_moments m b x.call in
      let k = call_kept m b x.call p in
      let answered = ap (λ (z : RunResult). z.answer) c.0 in
      let left = ap (λ (z : RunResult). z.memory) c.0 in
      let r = all_kept (call_machine m x.call) (book_after b steps) xs k.last (rw (answered, left) at c.1) in
      (each_append _ steps _ k.each r.0, (rw (answered, left) k.last, r.1))

pub calls_keep_well_formed : CallsKeepWellFormed
calls_keep_well_formed s m seen f c = all_kept Formed (λ word x g _. keeps_well_formed word x g) (at s m) [] seen f c

blank_form : Form blank
blank_form =
    record {
      even = record { wp = refl; pc = refl };
      flags = omega arith;
      first = record { even = refl; bound = omega arith };
      psi = kept_formed.start;
    }

up : (m : List ℕ) → Form (power_up m).answer.state
unfolding power_up
up m =
    either_way (λ (r : StateResult). Form r.answer.state) (eqb (power_up_refusal (length m)) 0)
    (λ t. boundary_form reset 0 (at blank m) blank_form) (λ f. blank_form)

pub well_formed_from_power_up : WellFormedFromPowerUp
well_formed_from_power_up m seen c =
    let f = formed _ (up m) in
    (f, calls_keep_well_formed _ _ seen f c)

apart : (f : ℕ) → f ≤ 2 → (bit idle f && bit no_sample f) ≡ false
unfolding bit
apart zero h = refl
apart (suc zero) h = refl
apart (suc (suc zero)) h = refl
apart (suc (suc (suc f))) h = absurd (omega arith)

pub never_idle_unsampled : NeverIdleUnsampled
never_idle_unsampled s w = apart s.flags (form s w).flags
