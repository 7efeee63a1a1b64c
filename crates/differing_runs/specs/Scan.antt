-- How the code finds runs: it takes byte after byte, and keeps what it has found in the bytes so far.
use Rattle.std.specs.Prelude.{ℕ, ◌+◌, ◌*◌, ◌≡◌, Bool, true, false, not, List, [], ◌∷◌, ◌++◌, length, replicate, set, ltb, if◌then◌else◌}
use Rattle.differing_runs.specs.Runs.{runs_of, listed, places}
use Rattle.differing_runs.specs.declared.Found.{Found}

-- a list of runs with run n, counted from 0, put into its places if it has any
unfoldable pub put_run : List ℕ → ℕ → ℕ → ℕ → List ℕ
put_run list n start size = if ltb n listed then set (set list (2 * n) start) (2 * n + 1) size else list

-- whether these bytes end in one that agrees, given whether the byte before them differs
unfoldable pub closed : Bool → List Bool → Bool
closed before [] = not before
closed before (d ∷ ds) = closed d ds

-- The bytes so far are some that do not end in a differing one, and then `length` that differ; `ended` counts the runs of the former; the list
-- is that of all.
pub record Holds (seen : List Bool) (found : Found) (list : List ℕ) : Type 0 where
  pub earlier : List Bool
  pub ends : closed false earlier ≡ true
  pub parts : seen ≡ earlier ++ replicate found.length true
  pub counted : found.ended ≡ length (runs_of earlier)
  pub written : list ≡ places (runs_of seen)
