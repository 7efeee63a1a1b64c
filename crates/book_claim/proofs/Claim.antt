-- The claim: what one step keeps, the steps of a call keep, by induction on them; a refused call has no steps and changes
-- nothing; and what was observed of a call is what the rules give, so the calls of a list keep it one after the other.
use Prim.Native.Nat.{ℕ}
use mathlib.Core.Path.{◌≡◌, ap}
use mathlib.Core.List.{List, [], ◌∷◌}
use lib.ListN.{length}
use Rattle.machine.specs.declared.State.{State}
use Rattle.machine.specs.State.{Machine, at}
use Rattle.machine.specs.Step.{step}
use Rattle.machine.specs.Run.{runs, run_refusal, RunResult}
use Rattle.machine.specs.Laws.{Words}
use Rattle.machine.proofs.Laws.{form}
use Rattle.run_rules.proofs.Laws as Laws
use Rattle.book.specs.Book.{Book, turn, event, Moment, moment, moments, book_after, Call, call_moments, call_machine, all_moments}
use Rattle.book_claim.specs.Claim.{Seen, calls, Chained, Each, Respected, GivenBack, Kept, LastGivenBack, CallsKept, OpenEntriesAreKept}
use Rattle.book_claim.proofs.Each.{each_map, each_split, each_append}
use Rattle.book_claim.proofs.Steps.{every_run, every_call}
use Rattle.book_claim.proofs.Step.{Sound, step_sound}
use Rattle.book_claim.proofs.Kept.{Good, step_kept}

-- what is claimed after the last of some steps, and P if there are none
Last : (State → Type 0) → List Moment → State → Type 0
Last P [] s = P s
Last P (x ∷ xs) s = Last (GivenBack x.event x.book) xs s

last_given_back : (P : State → Type 0) (xs : List Moment) (s : State) → Last P xs s → LastGivenBack xs s
unfolding Last LastGivenBack
last_given_back P [] s l = tt
last_given_back P (x ∷ []) s l = l
last_given_back P (x ∷ (y ∷ xs)) s l = last_given_back (GivenBack x.event x.book) (y ∷ xs) s l

-- steps that lead from a book to a machine keep what is claimed
record Through (P : State → Type 0) (b : Book) (xs : List Moment) (n : Machine) : Type 0 where
  kept : Each Kept xs
  words : Words n.state
  good : Each (Good n.memory) (book_after b xs)
  last : Last P xs n.state

nothing : (P : State → Type 0) (b : Book) (m : Machine) → Words m.state → Each (Good m.memory) b → P m.state → Through P b [] m
unfolding Each book_after Last
nothing P b m h g p = record { kept = tt; words = h; good = g; last = p }

-- one step more in front
one_more :
    (P : State → Type 0) (r : ℕ) (m n : Machine) (b : Book) (xs : List Moment)
    → Kept (moment r m b) → Through (GivenBack (event r m) b) (turn (event r m) b) xs n → Through P b (moment r m b ∷ xs) n
unfolding Each moment book_after Last
one_more P r m n b xs k t = record { kept = (k, t.kept); words = t.words; good = t.good; last = t.last }

-- a run's steps keep what is claimed
abbrev RunsThrough : Machine → Book → List Moment → Machine → Type 1
RunsThrough m b xs n =
    (P : State → Type 0) → Sound m → Each (Good m.memory) b → P m.state → Each Respected xs → Through P b xs n

more_through : (r : ℕ) (m n : Machine) (b : Book) (xs : List Moment) → RunsThrough (step r m).machine (turn (event r m) b) xs n → RunsThrough m b (moment r m b ∷ xs) n
unfolding Each moment
more_through r m n b xs later P h g p e =
    let k = step_kept r m b h g e.0 in
    one_more P r m n b xs k.1 (later (GivenBack (event r m) b) (step_sound r m h) k.0 k.1.given_back e.1)

through : (stop n : ℕ) (rs : List ℕ) (m : Machine) (b : Book) → RunsThrough m b (moments stop n rs m b) (runs stop n rs m).machine
through = every_run RunsThrough (λ m b P h g p e. nothing P b m h.fit.words g p) more_through

-- an accepted call: memory is installed, and the state is well formed
accepted_sound :
    (m : Machine) (records : List ℕ) (steps : ℕ)
    → Words m.state → run_refusal (length m.memory) m.state (length records) steps ≡ 0 → Sound m
accepted_sound m records steps h e =
    let a = Laws.accepted _ _ _ _ e in
    record {
      fit = record { installed = a.sized; words = h };
      form = form m.state a.formed;
    }

call_through :
    (m : Machine) (b : Book) (c : Call)
    → Words m.state → Each (Good m.memory) b → Each Respected (call_moments m b c)
    → Through (λ s. Unit) b (call_moments m b c) (call_machine m c)
call_through m b c h g =
    every_call (λ xs n. Each Respected xs → Through (λ s. Unit) b xs n) m b c
    (λ r. through c.stop c.steps c.records m b (λ s. Unit) (accepted_sound m c.records c.steps h r) g tt)
    (λ e. nothing (λ s. Unit) b m h g tt)

-- the calls of a list
all_through :
    (m : Machine) (b : Book) (seen : List Seen)
    → Words m.state → Each (Good m.memory) b
    → Chained m.state m.memory seen
    → Each Respected (all_moments m b (calls seen))
    → Each Kept (all_moments m b (calls seen)) × CallsKept m b seen
unfolding call_machine all_moments calls Chained Each CallsKept
all_through m b [] h g c e = (tt, tt)
all_through m b (x ∷ xs) h g c e =
    let steps : List Moment = call_moments m b x.call in
    let later : List Moment = all_moments (call_machine m x.call) (book_after b steps) (calls xs) in
    let es = each_split Respected steps later e in
    let t = call_through m b x.call h g es.0 in
    let answered = ap (λ (z : RunResult). z.answer) c.0 in
    let left = ap (λ (z : RunResult). z.memory) c.0 in
    let r = all_through (call_machine m x.call) (book_after b steps) xs t.words t.good (rw (answered, left) at c.1) es.1 in (
      each_append Kept steps later t.kept r.0,
      (
        rw left (each_map (λ n k. k.stands) (book_after b steps) t.good),
        rw answered (last_given_back _ steps _ t.last),
        r.1,
      ),
    )

pub open_entries_are_kept : OpenEntriesAreKept
unfolding Each
open_entries_are_kept s m seen h c e = all_through (at s m) [] seen h tt c e
