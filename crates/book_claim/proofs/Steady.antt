-- Until a context switch only fetches move PC: a microprogram that loads no register but the flags keeps WP and ST, and its
-- PC rises by 2 for each word that it fetches. By induction on the microprogram.
use Prim.Native.Nat.{ℕ, ◌+◌, ◌*◌, ◌%◌, ◌<◌}
use mathlib.Core.Path.{◌≡◌, refl}
use mathlib.Core.Bool.{Bool}
use native.Mathlib.Omega.{arith}
use Rattle.memory.specs.declared.Width.TheVariants.{Word}
use Rattle.memory.specs.Memory.{loaded}
use Rattle.psi.specs.Cru as Cru
use Rattle.machine.specs.declared.State.{State}
use Rattle.machine.specs.State.{Machine}
use Rattle.machine.specs.State as Own
use Rattle.machine.specs.Micro.{Target, to_wp, to_pc, to_st, to_flags, Micro, done, look, assign, fetch, read, write, sense, drive}
use Rattle.machine.specs.Perform.{perform, accesses, fetches, after_assign, after_fetch, after_read, after_write, after_sense, after_drive}
use Rattle.machine.proofs.Loads.{Loads}

-- the flags alone: WP, PC and ST are never loaded
abbrev OnlyFlags : Target → Type 0
OnlyFlags to_wp = ⊥
OnlyFlags to_pc = ⊥
OnlyFlags to_st = ⊥
OnlyFlags to_flags = Unit

abbrev pub Steady : {A : Type 0} → Micro A → Type 0
Steady p = Loads OnlyFlags p

-- WP and ST are as they were, and PC is so many words further
pub record Held (s t : State) (words : ℕ) : Type 0 where
  pub wp : t.wp ≡ s.wp
  pub pc : t.pc ≡ (s.pc + 2 * words) % 65536
  pub st : t.st ≡ s.st

pub held :
    {A : Type 0} (v : ℕ) (p : Micro A) (m : Machine)
    → Steady p → m.state.pc < 65536
    → Held m.state (perform v p m).machine.state (fetches (accesses v p m))
unfolding Loads perform accesses fetches
held v (done a) m q h = record { wp = refl; pc = omega arith; st = refl }
held v (look k) m q h = held v (k (Own.registers m.state)) m (q (Own.registers m.state)) h
held v (assign to_wp x k) m q h = absurd q.0
held v (assign to_pc x k) m q h = absurd q.0
held v (assign to_st x k) m q h = absurd q.0
held v (assign to_flags x k) m q h =
    let r = held v k (after_assign to_flags x m) q.1 h in
    record { wp = r.wp; pc = r.pc; st = r.st }
held v (fetch k) m q h =
    let x : ℕ = loaded Word m.memory m.state.pc in
    let r = held v (k x) (after_fetch m) (q x) (omega arith) in
    record { wp = r.wp; pc = omega arith; st = r.st }
held v (read w a k) m q h =
    let x : ℕ = loaded w m.memory a in
    let r = held v (k x) (after_read a m) (q x) h in
    record { wp = r.wp; pc = r.pc; st = r.st }
held v (write w a x k) m q h =
    let r = held v k (after_write w a x m) q h in
    record { wp = r.wp; pc = r.pc; st = r.st }
held v (sense b k) m q h =
    let x : Bool = (Cru.sensed m.state.psi v b).value in
    let r = held v (k x) (after_sense v b m) (q x) h in
    record { wp = r.wp; pc = r.pc; st = r.st }
held v (drive b x k) m q h =
    let r = held v k (after_drive b x m) q h in
    record { wp = r.wp; pc = r.pc; st = r.st }
