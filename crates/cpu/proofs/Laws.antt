-- What X does matters to X alone; so a word is executed as the last that X leads to, by induction on the allowance.
use Prim.Native.Nat.{ℕ, zero, suc}
use mathlib.Core.Path.{◌≡◌, refl, ◌∙◌}
use mathlib.Core.Bool.{Bool, true, false}
use Rattle.isa.specs.declared.Operand.{Operand}
use Rattle.isa.specs.declared.Instruction.{Instruction}
use Rattle.isa.specs.declared.Instruction.TheVariants.{Dual, Register, Xop, Transfer, Bit, Jump, Shift, Single, Blwp, X, Immediate, Stwp, Stst, Lwpi, Limi, Control, Unassigned}
use Rattle.isa.specs.Isa.{decoded, source}
use Rattle.isa.specs.Words.{is_x}
use Rattle.isa.proofs.Words.{x_operand}
use Rattle.machine.specs.declared.Deed.{Deed}
use Rattle.machine.specs.State.{Machine}
use Rattle.machine.specs.Micro.{Micro, ◌>>=◌, load}
use Rattle.machine.specs.Operands.{operand}
use Rattle.memory.specs.declared.Width.TheVariants.{Word}
use Rattle.machine.specs.Execute.{instruction, execute, again as performed-again}
use Rattle.machine.specs.Perform.{perform}
use Rattle.machine.proofs.Bind.{perform_bind}
use Rattle.cpu.specs.Resolve.{resolve, again, Resolves}

not_x : (f g : Operand → Micro Deed) (i : Instruction) → is_x i ≡ false → instruction f i ≡ instruction g i
unfolding instruction is_x
not_x f g (Dual o s d w) h = refl
not_x f g (Register o s r) h = refl
not_x f g (Xop s n) h = refl
not_x f g (Transfer o s n) h = refl
not_x f g (Bit o d) h = refl
not_x f g (Jump o d) h = refl
not_x f g (Shift o r n) h = refl
not_x f g (Single o s) h = refl
not_x f g (Blwp s) h = refl
not_x f g (X s) h = (cc)
not_x f g (Immediate o r) h = refl
not_x f g (Stwp r) h = refl
not_x f g (Stst r) h = refl
not_x f g Lwpi h = refl
not_x f g Limi h = refl
not_x f g (Control o) h = refl
not_x f g Unassigned h = refl

-- the same first part, and then what does the same
follows : {A B C : Type 0} (v : ℕ) (p : Micro A) (f : A → Micro C) (g : A → Micro B) (h : B → Micro C) (m : Machine)
    → ((a : A) (n : Machine) → perform v (f a) n ≡ perform v (g a >>= h) n)
    → perform v (p >>= f) m ≡ perform v ((p >>= g) >>= h) m
follows v p f g h m same =
    rw (perform_bind v (p >>= g) h m, perform_bind v p g m)
    (perform_bind v p f m ∙ same _ _ ∙ perform_bind v (g _) h _)

module _ (w v : ℕ) (m : Machine) where
  Same : ℕ → Type 0
  Same k = perform v (execute k w) m ≡ perform v (resolve k w >>= execute 0) m

  -- a word that is no X is itself the last
  other : (k : ℕ) → is_x (decoded w) ≡ false → Same k
  unfolding Same resolve execute
  other k e = rw (e, not_x (performed-again k) (performed-again 0) (decoded w) e)

  with_none : (t : Bool) → is_x (decoded w) ≡ t → Same 0
  unfolding Same resolve again
  with_none true e = rw e
  with_none false e = other 0 e

  with_one_more : (k : ℕ) → ((x : ℕ) (n : Machine) → perform v (execute k x) n ≡ perform v (resolve k x >>= execute 0) n)
      → (t : Bool) → is_x (decoded w) ≡ t → Same (suc k)
  unfolding Same resolve again execute performed-again instruction
  with_one_more k less true e = rw (e, x_operand w e) (follows v (operand Word (source w) >>= load Word) (execute k) (resolve k) (execute 0) m less)
  with_one_more k less false e = other (suc k) e

pub resolves : Resolves
unfolding Same
resolves zero w v m = with_none w v m (is_x (decoded w)) refl
resolves (suc k) w v m = with_one_more w v m k (λ x n. resolves k x v n) (is_x (decoded w)) refl
