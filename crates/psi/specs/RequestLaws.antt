-- What the number that `Pins.request` gives means.
use Rattle.std.specs.Prelude.{ℕ, ◌<◌, ◌≡◌, true, false}
use Rattle.psi.specs.declared.Psi.{Psi}
use Rattle.psi.specs.Pins.{requested, request}

-- no request from 1 up to but not r is enabled and active
abbrev pub NoneBelow : Psi → ℕ → ℕ → Type 0
NoneBelow s v r = (n : ℕ) → 0 < n → n < r → requested s v n ≡ false

-- 0: none of the 15 is enabled and active. Otherwise the number is that of a request that is, and none lower is.
pub record Meant (s : Psi) (v : ℕ) : Type 0 where
  pub none : request s v ≡ 0 → NoneBelow s v 16
  pub found : 0 < request s v → (request s v < 16) × (requested s v (request s v) ≡ true) × NoneBelow s v (request s v)

abbrev pub RequestMeaning : Type 0
RequestMeaning = (s : Psi) (v : ℕ) → Meant s v
