-- A microprogram followed by another does what the first does and then what the second does; so its accesses are the
-- first's and then the second's. By induction on the first.
use Rattle.std.proofs.Common.{◌≡◌, ℕ, ◌+◌, List, [], ◌∷◌, ◌++◌, refl, ap, arith}
use Rattle.memory.specs.declared.Width.TheVariants.{Word}
use Rattle.memory.specs.Memory.{loaded}
use Rattle.psi.specs.Cru as Cru
use Rattle.machine.specs.State as State
use Rattle.machine.specs.State.{Machine}
use Rattle.machine.specs.Micro.{Micro, done, look, assign, fetch, read, write, sense, drive, ◌>>=◌, registers}
use Rattle.machine.specs.Perform.{perform, performed, accesses, fetches, Access, was_fetched, was_read, was_written, was_sensed, was_driven, after_assign, after_fetch, after_read, after_write, after_sense, after_drive}

module _ {A B : Type 0} (v : ℕ) where
  pub perform_bind : (p : Micro A) (f : A → Micro B) (m : Machine)
      → perform v (p >>= f) m ≡ perform v (f (perform v p m).value) (perform v p m).machine
  unfolding perform
  perform_bind (done a) f m = refl
  perform_bind (look k) f m = perform_bind (k _) f m
  perform_bind (assign t x k) f m = perform_bind k f _
  perform_bind (fetch k) f m = perform_bind (k _) f _
  perform_bind (read w a k) f m = perform_bind (k _) f _
  perform_bind (write w a x k) f m = perform_bind k f _
  perform_bind (sense b k) f m = perform_bind (k _) f _
  perform_bind (drive b x k) f m = perform_bind k f _

  pub accesses_bind : (p : Micro A) (f : A → Micro B) (m : Machine)
      → accesses v (p >>= f) m ≡ accesses v p m ++ accesses v (f (perform v p m).value) (perform v p m).machine
  unfolding perform accesses
  accesses_bind (done a) f m = refl
  accesses_bind (look k) f m = accesses_bind (k _) f m
  accesses_bind (assign t x k) f m = accesses_bind k f (after_assign t x m)
  accesses_bind (fetch k) f m = ap (was_fetched m.state.pc ∷◌) (accesses_bind (k (loaded Word m.memory m.state.pc)) f (after_fetch m))
  accesses_bind (read w a k) f m = ap (was_read w a ∷◌) (accesses_bind (k (loaded w m.memory a)) f (after_read a m))
  accesses_bind (write w a x k) f m = ap (was_written w a x ∷◌) (accesses_bind k f (after_write w a x m))
  accesses_bind (sense b k) f m = ap (was_sensed b ∷◌) (accesses_bind (k (Cru.sensed m.state.psi v b).value) f (after_sense v b m))
  accesses_bind (drive b x k) f m = ap (was_driven b x ∷◌) (accesses_bind k f (after_drive b x m))

-- the words fetched in two lists of accesses
pub fetches_append : (a b : List Access) → fetches (a ++ b) ≡ fetches a + fetches b
unfolding fetches
fetches_append [] b = omega arith
fetches_append (was_fetched a ∷ l) b = omega (arith, fetches_append l b)
fetches_append (was_read w a ∷ l) b = fetches_append l b
fetches_append (was_written w a x ∷ l) b = fetches_append l b
fetches_append (was_sensed c ∷ l) b = fetches_append l b
fetches_append (was_driven c x ∷ l) b = fetches_append l b

-- nothing more, and looking at the registers
module _ (v : ℕ) where
  pub perform_done : {A : Type 0} (a : A) (m : Machine) → perform v (done a) m ≡ performed a m
  unfolding perform
  perform_done a m = refl

  pub perform_registers : (m : Machine) → perform v registers m ≡ performed (State.registers m.state) m
  unfolding perform registers
  perform_registers m = refl

-- one access after the other, as a straight run of calls performs them
pub ruleset in_turn = (perform_bind, perform_done, perform_registers)
