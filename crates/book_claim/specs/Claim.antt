-- Demand 3: one claim about any list of calls of run.
use Rattle.std.specs.Prelude.{ℕ, ◌%◌, ◌<◌, ◌≡◌, true, List, [], ◌∷◌, ◌++◌}
use Rattle.memory.specs.declared.Width.TheVariants.{Word}
use Rattle.memory.specs.Memory.{size, loaded, touched, disjoint}
use Rattle.machine.specs.declared.State.{State}
use Rattle.machine.specs.State.{Machine, at}
use Rattle.machine.specs.Laws.{Words}
use Rattle.machine.specs.Operands.{register_at}
use Rattle.machine.specs.Run.{Promised, RunAnswer}
use Rattle.book.specs.Book.{Note, Book, Event, opened, returned, cleared, other, turn, Moment, Call, call_moments, call_machine, book_after, all_moments}

-- what was observed of a call: its arguments, its answer, and the lent memory after it
pub record Seen : Type 0 where
  pub call : Call
  pub answer : RunAnswer
  pub memory : List ℕ

unfoldable pub calls : List Seen → List Call
calls [] = []
calls (x ∷ xs) = x.call ∷ calls xs

-- each call keeps what run promises, which is the contract of the code's `run`, from the state and the memory that the one before it left
unfoldable pub Chained : State → List ℕ → List Seen → Type 0
Chained s m [] = Unit
Chained s m (x ∷ xs) =
    Promised m s x.call.records x.call.steps x.call.stop x.answer x.memory
    × Chained x.answer.state x.memory xs

-- something holds of each element
unfoldable pub Each : {A : Type 0} → (A → Type 0) → List A → Type 0
Each P [] = Unit
Each P (x ∷ xs) = P x × Each P xs

-- the places of an entry's save words: R13 to R15 at its new WP
unfoldable pub save_places : Note → List ℕ
save_places n =
    touched Word (register_at n.workspace 13)
    ++ (touched Word (register_at n.workspace 14) ++ touched Word (register_at n.workspace 15))

-- A step stores into no save word of an entry that was open before it; a reset closes every entry, so it is free.
unfoldable pub Avoided : Event → Book → List ℕ → Type 0
Avoided (opened n) b ws = Each (λ x. disjoint (save_places x) ws ≡ true) b
Avoided returned b ws = Each (λ x. disjoint (save_places x) ws ≡ true) b
Avoided cleared b ws = Unit
Avoided other b ws = Each (λ x. disjoint (save_places x) ws ≡ true) b

-- RTWP runs in the workspace of the latest open entry, if there is one.
unfoldable pub InWorkspace : Event → Book → ℕ → Type 0
InWorkspace (opened n) b wp = Unit
InWorkspace returned [] wp = Unit
InWorkspace returned (n ∷ b) wp = wp % size ≡ n.workspace % size
InWorkspace cleared b wp = Unit
InWorkspace other b wp = Unit

-- Q-7: each byte of the save words of an entry that a step opens is below the read-only address, so that none of them is dropped. What
-- reset saves is no entry's.
unfoldable pub Saved : Event → ℕ → Type 0
Saved (opened n) first = Each (λ p. p < first) (save_places n)
Saved returned first = Unit
Saved cleared first = Unit
Saved other first = Unit

-- the premises at a step
pub record Respected (x : Moment) : Type 0 where
  pub avoids : Avoided x.event x.book x.writes
  pub in_place : InWorkspace x.event x.book x.before.state.wp
  pub saved : Saved x.event x.before.state.rom

-- a note's WP, PC and ST are R13, R14 and R15 at its new WP
pub record Stands (m : List ℕ) (n : Note) : Type 0 where
  pub wp : loaded Word m (register_at n.workspace 13) ≡ n.wp
  pub pc : loaded Word m (register_at n.workspace 14) ≡ n.pc
  pub st : loaded Word m (register_at n.workspace 15) ≡ n.st

-- the machine's WP, PC and ST are a note's
pub record Restored (s : State) (n : Note) : Type 0 where
  pub wp : s.wp ≡ n.wp
  pub pc : s.pc ≡ n.pc
  pub st : s.st ≡ n.st

-- after an RTWP the machine has what the note that it removed says
unfoldable pub GivenBack : Event → Book → State → Type 0
GivenBack (opened n) b s = Unit
GivenBack returned [] s = Unit
GivenBack returned (n ∷ b) s = Restored s n
GivenBack cleared b s = Unit
GivenBack other b s = Unit

-- The conclusion at a step, about the rules' machine after it.
pub record Kept (x : Moment) : Type 0 where
  pub stand : Each (Stands x.after.memory) (turn x.event x.book)
  pub given_back : GivenBack x.event x.book x.after.state

-- the same after a call's last step, about the state that was observed
unfoldable pub LastGivenBack : List Moment → State → Type 0
LastGivenBack [] s = Unit
LastGivenBack (x ∷ []) s = GivenBack x.event x.book s
LastGivenBack (x ∷ (y ∷ xs)) s = LastGivenBack (y ∷ xs) s

-- The conclusion after each call, about the lent memory and the returned state that were observed; m and b are the rules'
-- machine and the book before the call.
unfoldable pub CallsKept : Machine → Book → List Seen → Type 0
CallsKept m b [] = Unit
CallsKept m b (x ∷ xs) =
    Each (Stands x.memory) (book_after b (call_moments m b x.call))
    × LastGivenBack (call_moments m b x.call) x.answer.state
    × CallsKept (call_machine m x.call) (book_after b (call_moments m b x.call)) xs

-- Open entries keep their save words, and RTWP gives back what was kept: any first state and memory, no entry open; any
-- list of calls. `Words` is the type of the code: fields of 16 bits, all but the read-only address. (That memory has bytes is not needed.)
abbrev pub OpenEntriesAreKept : Type 0
OpenEntriesAreKept =
    (s : State) (m : List ℕ) (seen : List Seen)
    → Words s
    → Chained s m seen
    → Each Respected (all_moments (at s m) [] (calls seen))
    → Each Kept (all_moments (at s m) [] (calls seen)) × CallsKept (at s m) [] seen
