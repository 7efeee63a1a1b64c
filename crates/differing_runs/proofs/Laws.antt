-- Bytes more at the end: those that agree change no run; those that differ make one run, or make the last one longer, which is listed in the
-- same places.
use Prim.Native.Nat.{ℕ, zero, suc, ◌+◌, ◌-◌, ◌*◌, ◌<◌, ◌≤◌}
use mathlib.Core.Path.{◌≡◌, refl, sym, ap, ◌∙◌}
use mathlib.Core.Bool.{Bool, true, false, true≢false}
use mathlib.Core.List.{List, [], ◌∷◌, ◌++◌, append_assoc, append-nil}
use native.Mathlib.Omega.{arith}
use native.Mathlib.Nat.{zero-add, add-zero}
use native.Mathlib.Numerals.{add-one}
use borrow.Author.Tests.{ltb-true, ltb-false}
use lib.Dec.{ltb}
use lib.ListN.{length, set, replicate, length-append, length-replicate, replicate-append-replicate}
use lib.Seq.{take_all, take-append-le}
use Rattle.differing_runs.specs.Runs.{Stretch, extent, runs_from, runs_of, numbers, places}
use Rattle.differing_runs.specs.Scan.{put_run, closed, Holds}
use Rattle.differing_runs.specs.declared.Found.{Found}

-- the run that n differing bytes at an address make, if there are any
abbrev pub ending : ℕ → ℕ → List Stretch
ending at zero = []
ending at (suc n) = record { start = at; length = suc n } ∷ []

extent_closed : (ds more : List Bool) → closed true ds ≡ true → extent (ds ++ more) ≡ extent ds
unfolding extent closed
extent_closed [] more h = absurd (true≢false (sym h))
extent_closed (true ∷ ds) more h = ap suc (extent_closed ds more h)
extent_closed (false ∷ ds) more h = refl

extent_differing : (n : ℕ) → extent (replicate n true) ≡ n
unfolding extent
extent_differing zero = refl
extent_differing (suc n) = ap suc (extent_differing n)

extent_agreeing : (ds : List Bool) (n : ℕ) → extent (ds ++ replicate n false) ≡ extent ds
unfolding extent
extent_agreeing [] zero = refl
extent_agreeing [] (suc n) = refl
extent_agreeing (true ∷ ds) n = ap suc (extent_agreeing ds n)
extent_agreeing (false ∷ ds) n = refl

none_begins : (at n : ℕ) → runs_from true at (replicate n true) ≡ []
unfolding runs_from
none_begins at zero = refl
none_begins at (suc n) = none_begins (at + 1) n

none_agreeing : (before : Bool) (at n : ℕ) → runs_from before at (replicate n false) ≡ []
unfolding runs_from
none_agreeing before at zero = refl
none_agreeing before at (suc n) = none_agreeing false (at + 1) n

-- differing bytes after one that agrees are one run more
pub differing_end :
    (before : Bool) (at n : ℕ) (ds : List Bool) → closed before ds ≡ true
    → runs_from before at (ds ++ replicate n true) ≡ runs_from before at ds ++ ending (at + length ds) n
unfolding closed runs_from extent
differing_end true at n [] h = absurd (true≢false (sym h))
differing_end false at zero [] h = refl
differing_end false at (suc n) [] h = rw (extent_differing n, none_begins (at + 1) n, add-zero at)
differing_end true at n (true ∷ ds) h =
    rw (let e : at + suc (length ds) ≡ at + 1 + length ds = omega arith in e) (differing_end true (at + 1) n ds h)
differing_end false at n (true ∷ ds) h =
    rw (
      extent_closed ds (replicate n true) h,
      let e : at + suc (length ds) ≡ at + 1 + length ds = omega arith in e,
      differing_end true (at + 1) n ds h,
    )
differing_end before at n (false ∷ ds) h =
    rw (let e : at + suc (length ds) ≡ at + 1 + length ds = omega arith in e) (differing_end false (at + 1) n ds h)

-- agreeing bytes change nothing
pub agreeing_end :
    (before : Bool) (at n : ℕ) (ds : List Bool) → runs_from before at (ds ++ replicate n false) ≡ runs_from before at ds
unfolding runs_from extent
agreeing_end before at n [] = none_agreeing before at n
agreeing_end true at n (true ∷ ds) = agreeing_end true (at + 1) n ds
agreeing_end false at n (true ∷ ds) = rw (extent_agreeing ds n, agreeing_end true (at + 1) n ds)
agreeing_end before at n (false ∷ ds) = agreeing_end false (at + 1) n ds

pub closed_end : (before : Bool) (n : ℕ) (ds : List Bool) → closed before (ds ++ replicate (suc n) false) ≡ true
unfolding closed
closed_end before zero [] = refl
closed_end before (suc n) [] = closed_end false n []
closed_end before n (d ∷ ds) = closed_end d n ds

-- the places of a list

numbers_append : (a b : List Stretch) → numbers (a ++ b) ≡ numbers a ++ numbers b
unfolding numbers
numbers_append [] b = refl
numbers_append (r ∷ a) b = rw (numbers_append a b)

pub numbers_length : (rs : List Stretch) → length (numbers rs) ≡ 2 * length rs
unfolding numbers
numbers_length [] = refl
numbers_length (r ∷ rs) = rw (numbers_length rs) (omega arith)

spare : List Stretch → List ℕ
spare rs = replicate (2 * (255 - length rs)) 0

-- a run after those of a list that is not full: its two places come after theirs
last_places : (rs : List Stretch) (at n : ℕ) → length rs < 256 → places (rs ++ ending at (suc n)) ≡ numbers rs ++ (at ∷ suc n ∷ spare rs)
unfolding places numbers spare
last_places rs at n h =
    let long : length (rs ++ ending at (suc n)) ≡ length rs + 1 = length-append rs (ending at (suc n)) in
    let rest : 256 - (length rs + 1) ≡ 255 - length rs = omega arith in
    rw (long, take_all 256 (rs ++ ending at (suc n)) (omega arith), numbers_append rs (ending at (suc n)), rest)
    (append_assoc (numbers rs) _ _)

-- the same two places, whatever they hold
next_places :
    (rs : List Stretch) (at n : ℕ) → length rs < 256
    → (x : ℕ) × (y : ℕ) × (places (rs ++ ending at n) ≡ numbers rs ++ (x ∷ y ∷ spare rs))
unfolding places spare
next_places rs at zero h =
    let rest : 2 * (256 - length rs) ≡ suc (suc (2 * (255 - length rs))) = omega arith in
    (0, 0, rw (append-nil rs, take_all 256 rs (omega arith), rest))
next_places rs at (suc n) h = (at, suc n, last_places rs at n h)

put_two : (p : List ℕ) (x y : ℕ) (z : List ℕ) (a b : ℕ) → set (set (p ++ (x ∷ y ∷ z)) (length p) a) (length p + 1) b ≡ p ++ (a ∷ b ∷ z)
put_two [] x y z a b = refl
put_two (q ∷ p) x y z a b = rw (let e : suc (length p) + 1 ≡ suc (length p + 1) = omega arith in e) (ap (◌∷◌ q) (put_two p x y z a b))

-- a list that is full stays
full : (rs more : List Stretch) → 256 ≤ length rs → places (rs ++ more) ≡ places rs
unfolding places
full rs more h =
    let none : (n : ℕ) → 256 ≤ n → 2 * (256 - n) ≡ 0 = λ n l. omega arith in
    rw (
      take-append-le 256 rs more h,
      none (length (rs ++ more)) (rw (length-append rs more) (omega arith)),
      none (length rs) h,
    )

-- one byte more makes the last run longer, or is a run of its own
pub longer :
    (rs : List Stretch) (at n : ℕ)
    → put_run (places (rs ++ ending at n)) (length rs) at (suc n) ≡ places (rs ++ ending at (suc n))
unfolding put_run
longer rs at n = by_test (ltb (length rs) 256) refl
  where
    by_test : (t : Bool) → ltb (length rs) 256 ≡ t → put_run (places (rs ++ ending at n)) (length rs) at (suc n) ≡ places (rs ++ ending at (suc n))
    by_test true e =
        let room = ltb-true (length rs) 256 e in
        let old = next_places rs at n room in
        rw (e, old.2, ← numbers_length rs, put_two (numbers rs) old.0 old.1 (spare rs) at (suc n))
        (sym (last_places rs at n room))
    by_test false e =
        let no_room = ltb-false (length rs) 256 e in
        rw (e, full rs (ending at n) no_room) (sym (full rs (ending at (suc n)) no_room))

-- what is found in the bytes so far

-- the runs of all bytes: those that ended, and the one at the end
whole : (earlier : List Bool) (n : ℕ) → closed false earlier ≡ true → runs_of (earlier ++ replicate n true) ≡ runs_of earlier ++ ending (length earlier) n
whole earlier n h = rw (zero-add (length earlier)) at (differing_end false 0 n earlier h)

module _ (seen : List Bool) (found : Found) (list : List ℕ) (h : Holds seen found list) where
  found_runs : runs_of seen ≡ runs_of h.earlier ++ ending (length h.earlier) found.length
  found_runs = ap runs_of h.parts ∙ whole h.earlier found.length h.ends

  found_count : length (runs_of seen) ≡ found.ended + length (ending (length h.earlier) found.length)
  found_count = ap length found_runs ∙ length-append (runs_of h.earlier) _ ∙ rw h.counted

  pub all_ended : found.length ≡ 0 → found.ended ≡ length (runs_of seen)
  all_ended none = sym (found_count ∙ rw none (add-zero found.ended))

  pub one_open : (found.length ≡ 0 → ⊥) → found.ended + 1 ≡ length (runs_of seen)
  one_open some =
      let n : ℕ = found.length - 1 in
      let e : found.length ≡ suc n = omega (arith, some) in
      sym (found_count ∙ rw e)

  -- agreeing bytes end a run
  pub agreeing :
      (n : ℕ) (after : Found) → 0 < n → after.ended ≡ length (runs_of seen) → after.length ≡ 0
      → Holds (seen ++ replicate n false) after list
  agreeing n after some e none =
      let more : n ≡ suc (n - 1) = omega arith in
      record {
        earlier = seen ++ replicate n false;
        ends = rw more (closed_end false (n - 1) seen);
        parts = rw none (sym (append-nil (seen ++ replicate n false)));
        counted = e ∙ ap length (sym (agreeing_end false 0 n seen));
        written = h.written ∙ ap places (sym (agreeing_end false 0 n seen));
      }

  -- a differing byte goes on with it
  pub differing :
      (start : ℕ) (after : Found) → start + found.length ≡ length seen
      → after.ended ≡ found.ended → after.length ≡ found.length + 1
      → Holds (seen ++ true ∷ []) after (put_run list found.ended start (found.length + 1))
  differing start after e same longer_by_one =
      let more : seen ++ true ∷ [] ≡ h.earlier ++ replicate (found.length + 1) true =
      ap (λ (l : List Bool). l ++ true ∷ []) h.parts
      ∙ append_assoc h.earlier (replicate found.length true) (true ∷ [])
      ∙ ap (λ (l : List Bool). h.earlier ++ l) (replicate-append-replicate found.length 1 true) in
      let long : length seen ≡ length h.earlier + found.length =
      ap length h.parts ∙ length-append h.earlier _ ∙ rw (length-replicate found.length true) in
      let first : start ≡ length h.earlier = omega arith in
      record {
        earlier = h.earlier;
        ends = h.ends;
        parts = rw longer_by_one more;
        counted = same ∙ h.counted;
        written =
            rw (h.written, found_runs, h.counted, first, add-one found.length)
            (longer (runs_of h.earlier) (length h.earlier) found.length
            ∙ ap places (sym (ap runs_of (rw (add-one found.length) at more) ∙ whole h.earlier (suc found.length) h.ends)));
      }
