-- A general operand takes at most one further word.
use Rattle.std.specs.Prelude.{if◌then◌else◌}
use Rattle.std.proofs.Common.{◌≡◌, ℕ, ◌≤◌, Bool, true, false, eqb, arith}
use Rattle.isa.specs.declared.Operand.{Operand}
use Rattle.isa.specs.Isa.{operand_words}

pub operand_words_at_most : {n : ℕ} (o : Operand) → n ≡ operand_words o → n ≤ 1
unfolding operand_words
operand_words_at_most {n} o e = by_test (eqb o.mode 2) e
  where
    by_test : (b : Bool) → n ≡ (if b then 1 else 0) → n ≤ 1
    by_test true e = omega arith
    by_test false e = omega arith
