-- A file with more than a byte after its image is cut to one that is still too long, which is refused alike; a pin file is cut after a whole
-- word, behind which no word is taken.
use Prim.Native.Nat.{ℕ, zero, suc, ◌+◌, ◌*◌, ◌<◌, ◌≤◌}
use mathlib.Core.Path.{◌≡◌, refl, sym, ap, ◌∙◌}
use mathlib.Core.Bool.{Bool, true, false}
use mathlib.Core.List.{List, [], ◌∷◌}
use native.Mathlib.Omega.{arith}
use borrow.Author.Tests.{ne_eqb, leb-true, leb-false}
use lib.ListN.{length, take, replicate}
use lib.Seq.{length-take-le, take_all, take-take}
use lib.Dec.{leb}
use Rattle.memory.specs.Memory.{size}
use Rattle.image_blocks.specs.Image as Image
use Rattle.image.specs.Calls.{ReadResult, read, image_fault, read_fault}
use Rattle.machine.specs.State.{blank}
use Rattle.replay_files.specs.Pins as Pins
use Rattle.replay_call.specs.Replay.{replay_in}
use Rattle.replay_claims.specs.Claims as Claims

-- an image of another size is refused with 5
refused : List ℕ → ReadResult
refused m = record { answer = record { number = 5; block = 0; state = blank }; memory = m }

too_long : (img m : List ℕ) → length m ≡ size → Image.image_size < length img → read img m ≡ refused m
unfolding read read_fault image_fault refused
too_long img m h k = rw (h, ne_eqb (length img) Image.image_size (λ e. absurd (omega arith)))

read_start : (img m : List ℕ) → length m ≡ size → read (take (Image.image_size + 1) img) m ≡ read img m
read_start img m h = by_test (leb (length img) (Image.image_size + 1)) refl
  where
    by_test : (t : Bool) → leb (length img) (Image.image_size + 1) ≡ t → read (take (Image.image_size + 1) img) m ≡ read img m
    by_test true e = rw (take_all (Image.image_size + 1) img (leb-true _ _ e))
    by_test false e =
        let long = leb-false (length img) (Image.image_size + 1) e in
        let cut = length-take-le (Image.image_size + 1) img (omega arith) in
        too_long (take (Image.image_size + 1) img) m h (omega arith) ∙ sym (too_long img m h (omega arith))

words_taken : (k : ℕ) (l : List ℕ) → Pins.words (take (4 * k) l) ≡ take k (Pins.words l)
unfolding Pins.words
words_taken zero l = refl
words_taken (suc k) l = rw (let e : 4 * suc k ≡ suc (suc (suc (suc (4 * k)))) = omega arith in e) (four l (words_taken k))
  where
    four : (l : List ℕ) → ((r : List ℕ) → Pins.words (take (4 * k) r) ≡ take k (Pins.words r))
        → Pins.words (take (suc (suc (suc (suc (4 * k))))) l) ≡ take (suc k) (Pins.words l)
    four [] further = refl
    four (a ∷ []) further = refl
    four (a ∷ (b ∷ [])) further = refl
    four (a ∷ (b ∷ (c ∷ []))) further = refl
    four (a ∷ (b ∷ (c ∷ (d ∷ l)))) further = ap (λ (r : List ℕ). Pins.word a b c d ∷ r) (further l)

stop_taken : (n : ℕ) (ws : List ℕ) → Pins.stop_in (take (suc n) ws) ≡ Pins.stop_in ws
unfolding Pins.stop_in
stop_taken n [] = refl
stop_taken n (w ∷ l) = refl

records_taken : (n : ℕ) (ws : List ℕ) → Pins.most ≤ n → Pins.records_in (take (suc n) ws) ≡ Pins.records_in ws
unfolding Pins.records_in
records_taken n [] h = refl
records_taken n (w ∷ l) h = take-take Pins.most n l h

stop_start : (pins : List ℕ) → Pins.stop (take (4 * (1 + Pins.most)) pins) ≡ Pins.stop pins
unfolding Pins.stop
stop_start pins = ap Pins.stop_in (words_taken (1 + Pins.most) pins) ∙ stop_taken Pins.most (Pins.words pins)

records_start : (pins : List ℕ) → Pins.records (take (4 * (1 + Pins.most)) pins) ≡ Pins.records pins
unfolding Pins.records
records_start pins = ap Pins.records_in (words_taken (1 + Pins.most) pins) ∙ records_taken Pins.most (Pins.words pins) (omega arith)

-- of the files no more matters than what is read and taken of them
same_replay :
    (m image start pins first after : List ℕ) → read start m ≡ read image m → Pins.stop first ≡ Pins.stop pins → Pins.records first ≡ Pins.records pins
    → replay_in m start first after ≡ replay_in m image pins after
unfolding replay_in
same_replay m image start pins first after r s e = rw (r, s, e)

pub starts_of_files : Claims.StartsOfFiles
starts_of_files image pins after =
    same_replay
    (replicate size 0)
    image
    (take (Image.image_size + 1) image)
    pins
    (take (4 * (1 + Pins.most)) pins)
    after
    (read_start image (replicate size 0) refl)
    (stop_start pins)
    (records_start pins)
