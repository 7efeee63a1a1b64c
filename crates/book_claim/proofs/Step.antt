-- What a step means for the book: the clock changes nothing that is noted, an entry is a context switch from the machine
-- before the step, and any other step is steady until it executes a word.
use Prim.Native.Nat.{ℕ, ◌-◌, ◌*◌, ◌%◌}
use mathlib.Core.Bool.{false}
use Rattle.bits.specs.Bits.{bit, put}
use Rattle.psi.specs.declared.Record.{Record}
use Rattle.psi.specs.Pins.{parted, code}
use Rattle.psi.proofs.Kept.{kept_fits}
use Rattle.machine.specs.declared.Deed.TheVariants.{Ordinary, Unassigned, Switched, Returned}
use Rattle.machine.specs.State.{Machine, idle, no_sample}
use Rattle.machine.specs.State as Own
use Rattle.machine.specs.Micro.{Micro, done, to_flags, ◌>>=◌, registers, set, fetched}
use Rattle.machine.specs.Perform.{perform, accesses, fetches}
use Rattle.machine.specs.Groups.{masked}
use Rattle.machine.specs.Execute.{execute, allowance}
use Rattle.machine.specs.declared.Signal.{Signal}
use Rattle.machine.specs.declared.Signal.TheVariants.{Reset as reset, Load as load, Nothing as none, Level as level}
use Rattle.machine.specs.Step.{Kind, was_reset, was_load, was_idle, was_level, ran, signal, admitted, enter, proceed, boundary, clocked, stepping, step}
use Rattle.machine.proofs.Laws.{Form}
use Rattle.machine.proofs.Flags.{step_form}
use Rattle.machine.proofs.Loads.{registers_loads, set_loads, fetched_loads}
use Rattle.book.specs.Book.{step_accesses}
use Rattle.book_claim.proofs.Steady.{Steady}
use Rattle.book_claim.proofs.Does.{Fit, fit_kept, Judgement, Does, Movable, after_steady, then_done, does_if}
use Rattle.book_claim.proofs.Switch.{noted, Standing, enter_saves}
use Rattle.book_claim.proofs.Execute.{Meant, meant_movable, executed}

-- what a step of each kind has done
unfoldable pub Meaning : Judgement Kind
Meaning was_reset m n words = Unit
Meaning was_load m n words = Standing n (noted m n 0)
Meaning was_idle m n words = Unit
Meaning (was_level k) m n words = Standing n (noted m n 0)
Meaning (ran d) m n words = Meant d m n words

-- the same of a step that enters nothing
Proceeded : Judgement Kind
Proceeded was_reset m n words = ⊥
Proceeded was_load m n words = ⊥
Proceeded was_idle m n words = Unit
Proceeded (was_level k) m n words = ⊥
Proceeded (ran d) m n words = Meant d m n words

proceeded_movable : Movable Proceeded
unfolding Proceeded
proceeded_movable was_reset l m n i j h d = d
proceeded_movable was_load l m n i j h d = d
proceeded_movable was_idle l m n i j h d = tt
proceeded_movable (was_level k) l m n i j h d = d
proceeded_movable (ran e) l m n i j h d = meant_movable e l m n i j h d

proceeded_means : (k : Kind) (m n : Machine) (words : ℕ) → Proceeded k m n words → Meaning k m n words
unfolding Proceeded Meaning
proceeded_means was_reset m n words d = absurd d
proceeded_means was_load m n words d = absurd d
proceeded_means was_idle m n words d = tt
proceeded_means (was_level k) m n words d = absurd d
proceeded_means (ran e) m n words d = d

flags_steady : (x : ℕ) → Steady (set to_flags x)
flags_steady x = set_loads _ to_flags x tt

idles : Does Proceeded (done was_idle)
unfolding Proceeded perform
idles v m h = tt

runs_word : (w : ℕ) → Does Proceeded (execute allowance w >>= λ d. done (ran d))
unfolding Proceeded
runs_word w = then_done Meant Proceeded ran (λ d m n i t. t) (execute allowance w) (executed allowance w)

follow : {A : Type 0} (p : Micro A) (f : A → Micro Kind) → Steady p → ((a : A) → Does Proceeded (f a)) → Does Proceeded (p >>= f)
follow = after_steady Proceeded proceeded_movable

proceeds : Does Proceeded proceed
unfolding proceed
proceeds =
    follow registers _ (registers_loads _)
    (λ r. does_if Proceeded (bit idle r.flags) (done was_idle) _ idles
    (follow (set to_flags (put no_sample false r.flags)) _ (flags_steady _)
    (λ u. follow fetched _ (fetched_loads _) runs_word)))

bounds : (s : Signal) → Does Meaning (boundary s)
unfolding boundary Meaning
bounds reset = then_done (λ u m n i. Unit) Meaning (λ u. was_reset) (λ u m n i t. tt) (enter 0 (λ st. 0)) (λ v m h. tt)
bounds load = then_done _ Meaning (λ u. was_load) (λ u m n i t. t) (enter 0x3FFC (masked 0)) (enter_saves 0x3FFC (masked 0))
bounds none = λ v m h. proceeded_means _ m _ _ (proceeds v m h)
bounds (level k) =
    then_done _ Meaning (λ u. was_level k) (λ u m n i t. t) (enter (4 * k % 65536) (masked (k - 1))) (enter_saves (4 * k % 65536) (masked (k - 1)))

-- the clock
clocked_means :
    (cycles : ℕ) (k : Kind) (m n : Machine) (words : ℕ) → Meaning k (clocked cycles m) n words → Meaning k m n words
unfolding Meaning Meant
clocked_means cycles was_reset m n words d = d
clocked_means cycles was_load m n words d = d
clocked_means cycles was_idle m n words d = d
clocked_means cycles (was_level k) m n words d = d
clocked_means cycles (ran Ordinary) m n words d = d
clocked_means cycles (ran Unassigned) m n words d = d
clocked_means cycles (ran Switched) m n words d = d
clocked_means cycles (ran Returned) m n words d = d

clocked_fit : (cycles : ℕ) (m : Machine) → Fit m → Fit (clocked cycles m)
clocked_fit cycles m h =
    record {
      installed = h.installed;
      words =
          record {
            wp = h.words.wp;
            pc = h.words.pc;
            st = h.words.st;
            flags = h.words.flags;
            psi = kept_fits.cycles cycles h.words.psi;
          };
    }

pub step_means :
    (word : ℕ) (m : Machine) → Fit m
    → Meaning (step word m).value m (step word m).machine (fetches (step_accesses word m))
unfolding step stepping step_accesses registers perform accesses
step_means word m h =
    let p : Record = parted word in
    let start : Machine = clocked p.cycles m in
    clocked_means p.cycles _ m _ _
    (bounds (admitted (Own.registers m.state) (signal (code start.state.psi p.levels))) p.levels start (clocked_fit p.cycles m h))

-- what every machine of an accepted run has
pub record Sound (m : Machine) : Type 0 where
  pub fit : Fit m
  pub form : Form m.state

pub step_sound : (word : ℕ) (m : Machine) → Sound m → Sound (step word m).machine
unfolding step
step_sound word m h =
    let p : Record = parted word in
    let start : Machine = clocked p.cycles m in
    record {
      fit = fit_kept p.levels (stepping p.levels start) start (clocked_fit p.cycles m h.fit);
      form = step_form word m h.form;
    }
