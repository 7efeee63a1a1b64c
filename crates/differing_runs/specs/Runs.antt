-- What differs between two memories, byte by byte, and its runs: maximal stretches of differing bytes (document 02, Q-8).
use Rattle.std.specs.Prelude.{ℕ, suc, ◌+◌, ◌-◌, ◌*◌, Bool, false, not, ◌&&◌, List, [], ◌∷◌, ◌++◌, length, take, replicate, eqb, if◌then◌else◌}

-- for each byte whether it differs
unfoldable pub differences : List ℕ → List ℕ → List Bool
differences [] b = []
differences (x ∷ a) [] = []
differences (x ∷ a) (y ∷ b) = not (eqb x y) ∷ differences a b

-- bytes that lie one after the other: the first one's address, and how many
pub record Stretch : Type 0 where
  pub start : ℕ
  pub length : ℕ

-- how many of these bytes differ before the first that agrees
unfoldable pub extent : List Bool → ℕ
extent [] = 0
extent (d ∷ ds) = if d then suc (extent ds) else 0

-- A run begins at each byte that differs where the byte before it does not, and reaches as far as bytes differ. These are the runs
-- that begin at an address or later, given whether the byte before it differs, and the bytes from it on.
unfoldable pub runs_from : Bool → ℕ → List Bool → List Stretch
runs_from before at [] = []
runs_from before at (d ∷ ds) =
    if d && not before then record { start = at; length = extent (d ∷ ds) } ∷ runs_from d (at + 1) ds
    else runs_from d (at + 1) ds

-- the runs of bytes from address 0 on, in rising order
abbrev pub runs_of : List Bool → List Stretch
runs_of = runs_from false 0

-- how many runs are listed at most
abbrev pub listed : ℕ
listed = 256

unfoldable pub numbers : List Stretch → List ℕ
numbers [] = []
numbers (r ∷ rs) = r.start ∷ r.length ∷ numbers rs

-- the list: start and length of each of the first 256 runs, and zeros in the spare places
unfoldable pub places : List Stretch → List ℕ
places rs = numbers (take listed rs) ++ replicate (2 * (listed - length rs)) 0
