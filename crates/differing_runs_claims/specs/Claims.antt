-- What is claimed of runs (document 02, Q-8), of any two memories. `d` tells of each byte whether it differs; beyond its end none does.
use Rattle.std.specs.Prelude.{ℕ, ◌+◌, ◌*◌, ◌<◌, ◌≤◌, ◌≡◌, ◌↔◌, Bool, true, false, not, List, length, get_or, eqb}
use Rattle.differing_runs.specs.Runs.{Stretch, differences, runs_of, listed, places}

-- whether byte i differs
abbrev pub differs : List Bool → ℕ → Bool
differs d i = get_or d i false

-- A byte differs exactly if two memories, of one size, have different numbers there.
abbrev pub ByteByByte : Type 0
ByteByByte =
    (a b : List ℕ) (i : ℕ) → length a ≡ length b → differs (differences a b) i ≡ not (eqb (get_or a i 0) (get_or b i 0))

-- the address after a stretch's last byte
abbrev pub end : Stretch → ℕ
end r = r.start + r.length

-- A stretch of differing bytes that is maximal: it has a byte, all its bytes differ, and neither the byte before it nor the one after it does.
pub record Maximal (d : List Bool) (r : Stretch) : Type 0 where
  pub some : 0 < r.length
  pub differing : (i : ℕ) → r.start ≤ i → i < end r → differs d i ≡ true
  pub before : (i : ℕ) → i + 1 ≡ r.start → differs d i ≡ false
  pub after : differs d (end r) ≡ false

-- stretch k of a list, counted from 0
abbrev pub stretch : List Stretch → ℕ → Stretch
stretch l k = get_or l k (record { start = 0; length = 0 })

-- whether a stretch is in a list
abbrev pub Among : List Stretch → Stretch → Type 0
Among l r = (k : ℕ) × (k < length l) × (stretch l k ≡ r)

-- a list whose stretches start one after the other
abbrev pub Rising : List Stretch → Type 0
Rising l = (j k : ℕ) → j < k → k < length l → (stretch l j).start < (stretch l k).start

-- run k
abbrev pub run : List Bool → ℕ → Stretch
run d k = stretch (runs_of d) k

-- whether a stretch is one of the runs
abbrev pub IsRun : List Bool → Stretch → Type 0
IsRun d r = Among (runs_of d) r

-- The runs are the maximal stretches, all of them and nothing else.
abbrev pub MaximalStretches : Type 0
MaximalStretches = (d : List Bool) (r : Stretch) → IsRun d r ↔ Maximal d r

-- They rise, and no two touch: a byte that agrees lies between them.
abbrev pub RisingApart : Type 0
RisingApart = (d : List Bool) (j k : ℕ) → j < k → k < length (runs_of d) → end (run d j) < (run d k).start

-- A byte differs exactly if it lies in a run.
abbrev pub CoversExactly : Type 0
CoversExactly =
    (d : List Bool) (i : ℕ)
    → (differs d i ≡ true) ↔ ((r : Stretch) × IsRun d r × (r.start ≤ i) × (i < end r))

-- A list that rises and has the maximal stretches and no others is the list of runs: nothing else could have been meant.
pub record Lists (d : List Bool) (l : List Stretch) : Type 0 where
  pub maximal : (r : Stretch) → Among l r ↔ Maximal d r
  pub rising : Rising l

abbrev pub OnlyList : Type 0
OnlyList = (d : List Bool) (l : List Stretch) → Lists d l → l ≡ runs_of d

-- n bytes have at most (n + 1) / 2 runs.
abbrev pub AtMostHalf : Type 0
AtMostHalf = (d : List Bool) → 2 * length (runs_of d) ≤ length d + 1

-- The list: of the first 256 runs start and length, each in its places; the other places are 0. There are 512.
pub record Listed (rs : List Stretch) : Type 0 where
  pub size : length (places rs) ≡ 2 * listed
  pub run : (k : ℕ) (r : Stretch) → k < length rs → k < listed → get_or rs k r ≡ record { start = get_or (places rs) (2 * k) 0; length = get_or (places rs) (2 * k + 1) 0 }
  pub spare : (i : ℕ) → 2 * length rs ≤ i → get_or (places rs) i 0 ≡ 0

abbrev pub FirstAreListed : Type 0
FirstAreListed = (rs : List Stretch) → Listed rs
