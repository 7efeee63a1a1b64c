-- Document 02, Q-7: over any list of calls of run the read-only part stays as it is.
use Rattle.std.specs.Prelude.{ℕ, List}
use Rattle.machine.specs.declared.State.{State}
use Rattle.machine.specs.State.{at}
use Rattle.machine.specs.Laws.{Unaltered}
use Rattle.book_claim.specs.Claim.{Seen, Chained}
use Rattle.call_claims.specs.Calls.{Throughout}

-- Every machine that calls of run come to has the first read-only address of the first one, and from there on its bytes: any first state
-- and memory, for a state that is not well formed is refused.
abbrev pub CallsKeepTheReadOnlyPart : Type 0
CallsKeepTheReadOnlyPart =
    (s : State) (m : List ℕ) (seen : List Seen) → Chained s m seen → Throughout (Unaltered (at s m)) s m seen
