-- What a microprogram does to a machine with installed memory and fields of 16 bits, as a statement of its value, the machine
-- before and after it and the number of words fetched. A steady microprogram may stand in front.
use Rattle.std.specs.Prelude.{if◌then◌else◌}
use Prim.Native.Nat.{ℕ, ◌+◌}
use mathlib.Core.Bool.{Bool, true, false}
use native.Mathlib.Nat.{add-zero}
use Rattle.memory.specs.Memory.{Installed}
use Rattle.machine.specs.State.{Machine}
use Rattle.machine.specs.Micro.{Micro, done, ◌>>=◌}
use Rattle.machine.specs.Perform.{perform, accesses, fetches}
use Rattle.machine.specs.Laws.{Words}
use Rattle.machine.proofs.Bind.{perform_bind, accesses_bind, fetches_append}
use Rattle.machine.proofs.Laws.{keeps_the_length, keeps_words}
use Rattle.book_claim.proofs.Steady.{Steady, Held, held}

-- the memory is installed and every field has 16 bits
pub record Fit (m : Machine) : Type 0 where
  pub installed : Installed m.memory
  pub words : Words m.state

pub fit_kept : {A : Type 0} (v : ℕ) (p : Micro A) (m : Machine) → Fit m → Fit (perform v p m).machine
fit_kept v p m h =
    record {
      installed = rw (keeps_the_length v p m) h.installed;
      words = keeps_words v p m h.words;
    }

abbrev pub Judgement : Type 0 → Type 1
Judgement A = A → Machine → Machine → ℕ → Type 0

abbrev pub Does : {A : Type 0} → Judgement A → Micro A → Type 0
Does J p =
    (v : ℕ) (m : Machine) → Fit m → J (perform v p m).value m (perform v p m).machine (fetches (accesses v p m))

-- a judgement that looks at no more of the machine before than WP, ST and where PC is
abbrev pub Movable : {A : Type 0} → Judgement A → Type 0
Movable {A} J =
    (a : A) (l m n : Machine) (i j : ℕ) → Held l.state m.state i → J a m n j → J a l n (i + j)

pub after_steady :
    {A B : Type 0} (J : Judgement B) → Movable J
    → (p : Micro A) (f : A → Micro B) → Steady p → ((a : A) → Does J (f a)) → Does J (p >>= f)
after_steady J move p f q d v m h =
    rw (perform_bind v p f m, accesses_bind v p f m, fetches_append)
    (move _ m _ _ _ _ (held v p m q h.words.pc) (d _ v _ (fit_kept v p m h)))

-- a value made of the value
pub then_done :
    {A B : Type 0} (J : Judgement A) (K : Judgement B) (g : A → B)
    → ((a : A) (m n : Machine) (i : ℕ) → J a m n i → K (g a) m n i)
    → (p : Micro A) → Does J p → Does K (p >>= λ a. done (g a))
unfolding perform accesses fetches
then_done J K g turn p d v m h =
    rw (perform_bind v p (λ a. done (g a)) m, accesses_bind v p (λ a. done (g a)) m, fetches_append, add-zero)
    (turn _ m _ _ (d v m h))

pub does_if : {A : Type 0} (J : Judgement A) (b : Bool) (p q : Micro A) → Does J p → Does J q → Does J (if b then p else q)
does_if J true p q d e = d
does_if J false p q d e = e
