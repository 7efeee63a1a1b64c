-- Which word a step performs in the end: X leads on to another, so only the last of them is performed.
use Rattle.std.specs.Prelude.{ℕ, zero, suc, ◌≡◌, if◌then◌else◌}
use Rattle.memory.specs.declared.Width.TheVariants.{Word}
use Rattle.isa.specs.Isa.{source, decoded}
use Rattle.isa.specs.Words.{is_x}
use Rattle.machine.specs.State.{Machine}
use Rattle.machine.specs.Micro.{Micro, done, ◌>>=◌, load}
use Rattle.machine.specs.Operands.{operand}
use Rattle.machine.specs.Execute.{execute}
use Rattle.machine.specs.Perform.{perform}

-- a word that is no X is itself the one; `again` is what X leads to
abbrev pub resolve_by : (ℕ → Micro ℕ) → ℕ → Micro ℕ
resolve_by again w = if is_x (decoded w) then again w else done w

-- X leads to the word at its operand's address, with an allowance lower by one; with none left it is itself the one
unfoldable pub again : ℕ → ℕ → Micro ℕ
again zero w = done w
again (suc k) w = (operand Word (source w) >>= load Word) >>= resolve_by (again k)

unfoldable pub resolve : ℕ → ℕ → Micro ℕ
resolve k = resolve_by (again k)

-- A word executed with an allowance of X does what its last word does with none left.
abbrev pub Resolves : Type 0
Resolves = (k w v : ℕ) (m : Machine) → perform v (execute k w) m ≡ perform v (resolve k w >>= execute 0) m
