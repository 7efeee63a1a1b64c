-- What a call does in each of its three cases.
use Rattle.std.proofs.Common.{◌≡◌, ℕ, ◌<◌, ◌≤◌, ◌++◌, List, length, drop, eq-eqb, ne_eqb, lt-ltb, le-ltb}
use Rattle.memory.specs.Memory.{size}
use Rattle.listing.specs.Listing.{ListResult, list, list_refusal, least_buffer, line_at, word_count}

abbrev pub refused : ℕ → List ℕ → ListResult
refused n text = record { answer = record { number = n; length = 0; words = 0 }; text = text }

pub wrong_size : (m text : List ℕ) (a : ℕ) → ¬ (length m ≡ size) → list m a text ≡ refused 1 text
unfolding list list_refusal
wrong_size m text a h = rw (ne_eqb (length m) size h)

pub too_short : (m text : List ℕ) (a : ℕ) → length m ≡ size → length text < least_buffer → list m a text ≡ refused 11 text
unfolding list list_refusal
too_short m text a h k = rw (eq-eqb (length m) size h, lt-ltb (length text) least_buffer k)

pub accepted :
    (m text : List ℕ) (a : ℕ) → length m ≡ size → least_buffer ≤ length text
    → list m a text
    ≡ record {
      answer = record { number = 0; length = length (line_at m a); words = word_count m a };
      text = line_at m a ++ drop (length (line_at m a)) text;
    }
unfolding list list_refusal
accepted m text a h k = rw (eq-eqb (length m) size h, le-ltb (length text) least_buffer k)

pub ruleset cases = (wrong_size, too_short, accepted)
