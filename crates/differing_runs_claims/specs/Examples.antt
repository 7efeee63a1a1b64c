-- Runs of short memories, as the kernel computes them.
use Rattle.std.specs.Prelude.{ℕ, ◌≡◌, List, [], ◌∷◌}
use Rattle.differing_runs.specs.Runs.{differences, runs_of, numbers}

-- start and length of each run of two memories
abbrev pub found : List ℕ → List ℕ → List ℕ
found a b = numbers (runs_of (differences a b))

pub record Examples : Type 0 where
  pub none : found (7 ∷ 8 ∷ 9 ∷ []) (7 ∷ 8 ∷ 9 ∷ []) ≡ []
  pub all : found (7 ∷ 8 ∷ 9 ∷ []) (1 ∷ 1 ∷ 1 ∷ []) ≡ 0 ∷ 3 ∷ []
  pub first : found (7 ∷ 8 ∷ 9 ∷ []) (1 ∷ 8 ∷ 9 ∷ []) ≡ 0 ∷ 1 ∷ []
  pub last : found (7 ∷ 8 ∷ 9 ∷ []) (7 ∷ 8 ∷ 1 ∷ []) ≡ 2 ∷ 1 ∷ []
  pub both_ends : found (7 ∷ 8 ∷ 9 ∷ []) (1 ∷ 8 ∷ 1 ∷ []) ≡ 0 ∷ 1 ∷ 2 ∷ 1 ∷ []
  pub longer : found (7 ∷ 8 ∷ 9 ∷ 7 ∷ 8 ∷ 9 ∷ 7 ∷ []) (7 ∷ 1 ∷ 1 ∷ 7 ∷ 8 ∷ 1 ∷ 7 ∷ []) ≡ 1 ∷ 2 ∷ 5 ∷ 1 ∷ []
