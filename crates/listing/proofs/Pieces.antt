-- Words behind words, and all three words where two further ones are taken.
use Rattle.std.proofs.Common.{◌≡◌, ℕ, suc, ◌≤◌, List, [], ◌∷◌, ◌++◌, refl, append_assoc, arith, take_all}
use Rattle.text.specs.Texts.{ascii, hex}
use Rattle.notation.specs.declared.Words.{Words}
use Rattle.listing.specs.Listing.{spaced, used}

pub spaced_more : (vs ws : List ℕ) → spaced vs ++ spaced ws ≡ spaced (vs ++ ws)
unfolding spaced ascii
spaced_more [] ws = refl
spaced_more (v ∷ vs) ws = rw (← spaced_more vs ws, append_assoc (hex v) (spaced vs) (spaced ws))

pub used_all : (n : ℕ) (ws : Words) → 2 ≤ n → used n ws ≡ ws.first ∷ ws.second ∷ ws.third ∷ []
unfolding used
used_all n ws h = take_all (suc n) _ (omega arith)
