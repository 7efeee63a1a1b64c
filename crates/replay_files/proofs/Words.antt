-- The words of a file are the numbers of its chunks of four bytes, the highest first; a list that is put over another, element by element.
use Prim.Native.Nat.{ℕ, zero, suc, min, ◌+◌, ◌-◌, ◌*◌, ◌/◌, ◌<◌, ◌≤◌}
use mathlib.Core.Path.{◌≡◌, refl, sym, ap, ◌∙◌}
use mathlib.Core.List.{List, [], ◌∷◌, ◌++◌, map}
use native.Mathlib.Omega.{arith}
use native.Mathlib.Numerals.{add-one}
use lib.ListN.{length, get_or, set, take, drop, length-drop, length-map}
use lib.Seq.{drop-cons, set_at, append_snoc, take-suc, length-take-le}
use Rattle.std.specs.Int.{w32, from_be_bytes}
use Rattle.std.specs.Simd.{first_chunks}
use Rattle.std.proofs.lemmas.List.{take-map, drop-map, take_all, take_min, get_or-map}
use Rattle.replay_files.specs.Pins.{word, words, stop, stop_in, records, records_in, most}

words_of_chunks : (l : List ℕ) (n : ℕ) → n ≡ length l / 4 → map (from_be_bytes w32) (first_chunks 4 n l) ≡ words l
unfolding words word
words_of_chunks [] zero e = refl
words_of_chunks [] (suc n) e = absurd (omega arith)
words_of_chunks (a ∷ []) zero e = refl
words_of_chunks (a ∷ []) (suc n) e = absurd (omega arith)
words_of_chunks (a ∷ (b ∷ [])) zero e = refl
words_of_chunks (a ∷ (b ∷ [])) (suc n) e = absurd (omega arith)
words_of_chunks (a ∷ (b ∷ (c ∷ []))) zero e = refl
words_of_chunks (a ∷ (b ∷ (c ∷ []))) (suc n) e = absurd (omega arith)
words_of_chunks (a ∷ (b ∷ (c ∷ (d ∷ l)))) zero e = absurd (omega arith)
words_of_chunks (a ∷ (b ∷ (c ∷ (d ∷ l)))) (suc n) e =
    let first : from_be_bytes w32 (a ∷ (b ∷ (c ∷ (d ∷ [])))) ≡ (a * 256 + b) * 65536 + (c * 256 + d) = omega arith in
    rw (words_of_chunks l n (omega arith)) (ap (λ (w : ℕ). w ∷ words l) first)

taken_in : (ws : List ℕ) → take most (drop 1 ws) ≡ records_in ws
unfolding records_in
taken_in [] = refl
taken_in (w ∷ l) = refl

pub records_of_chunks :
    (l : List ℕ) (chunks : List (List ℕ)) (m : ℕ) → chunks ≡ first_chunks 4 (length l / 4) l → m ≡ min (length chunks - 1) most
    → map (from_be_bytes w32) (take m (take (length chunks - 1) (drop 1 chunks))) ≡ records l
unfolding records
records_of_chunks l chunks m is count =
    let f : List ℕ → ℕ = from_be_bytes w32 in
    let all : take (length chunks - 1) (drop 1 chunks) ≡ drop 1 chunks = take_all _ _ (omega (arith, length-drop 1 chunks)) in
    let least : m ≡ min most (length (drop 1 chunks)) = omega (arith, length-drop 1 chunks) in
    rw (all, least, take_min most (drop 1 chunks), ← take-map f most (drop 1 chunks), ← drop-map f 1 chunks, is, words_of_chunks l _ refl)
    (taken_in (words l))

pub no_records : (l : List ℕ) → length l < 4 → [] ≡ records l
unfolding records records_in words
no_records [] h = refl
no_records (a ∷ []) h = refl
no_records (a ∷ (b ∷ [])) h = refl
no_records (a ∷ (b ∷ (c ∷ []))) h = refl
no_records (a ∷ (b ∷ (c ∷ (d ∷ l)))) h = absurd (omega arith)

pub stop_none : (l : List ℕ) → length l < 4 → stop l ≡ 1
unfolding stop stop_in words
stop_none [] h = refl
stop_none (a ∷ []) h = refl
stop_none (a ∷ (b ∷ [])) h = refl
stop_none (a ∷ (b ∷ (c ∷ []))) h = refl
stop_none (a ∷ (b ∷ (c ∷ (d ∷ l)))) h = absurd (omega arith)

pub stop_some : (l : List ℕ) → 4 ≤ length l → get_or l 2 0 < 256 → get_or l 3 0 < 256 → get_or l 2 0 * 256 + get_or l 3 0 ≡ stop l
unfolding stop stop_in words word
stop_some [] h e f = absurd (omega arith)
stop_some (a ∷ []) h e f = absurd (omega arith)
stop_some (a ∷ (b ∷ [])) h e f = absurd (omega arith)
stop_some (a ∷ (b ∷ (c ∷ []))) h e f = absurd (omega arith)
stop_some (a ∷ (b ∷ (c ∷ (d ∷ l)))) h e f = omega arith

-- the numbers of chunks that are put over a list, one by one
pub next_record :
    (chunks : List (List ℕ)) (old all l : List ℕ) (i w : ℕ) → i < length chunks → length chunks ≤ length old → map (from_be_bytes w32) chunks ≡ all
    → l ≡ take i all ++ drop i old → w ≡ from_be_bytes w32 (get_or chunks i [])
    → set l i w ≡ take (i + 1) all ++ drop (i + 1) old
next_record chunks old all l i w h k value so_far next =
    let at : w ≡ get_or all i 0 = rw (← value, next) (sym (get_or-map (from_be_bytes w32) chunks i [] 0 h)) in
    let within : i < length all = rw (← value) (omega (arith, length-map chunks (from_be_bytes w32))) in
    rw (so_far, at, add-one i)
    (ap (λ (r : List ℕ). set (take i all ++ r) i (get_or all i 0)) (drop-cons old i 0 (omega arith))
    ∙ set_at (take i all) (get_or old i 0) (drop (suc i) old) (get_or all i 0) i (length-take-le i all (omega arith))
    ∙ sym (append_snoc (take i all) (get_or all i 0) (drop (suc i) old))
    ∙ ap (λ (r : List ℕ). r ++ drop (suc i) old) (sym (take-suc all i 0 within)))
