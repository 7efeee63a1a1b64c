-- Demand 3 for any list of calls of `tms_run`.
use Rattle.std.specs.Prelude.{ℕ, List, [], ◌∷◌, get_or}
use Rattle.machine.specs.State.{at}
use Rattle.book.specs.Book.{Call, all_moments}
use Rattle.book_claim.specs.Claim.{Seen, calls, Each, Respected, Kept, CallsKept}
use Rattle.state_array.specs.Arrays.{state_of}
use Rattle.tms_replay.specs.Exported.{Ran, Promised}
use Rattle.exported_claims.specs.Answers.{answer_of}

-- what was observed of a call: its arguments, and what it answered and left
pub record Observed : Type 0 where
  pub call : Call
  pub ran : Ran

-- each call keeps what `tms_run` promises, which is the contract of the code's `tms_run`, on the array and the memory that the one before it left
unfoldable pub Linked : List ℕ → List ℕ → List Observed → Type 0
Linked w m [] = Unit
Linked w m (x ∷ xs) =
    Promised m w x.call.records x.call.steps x.call.stop x.ran.number x.ran.memory x.ran.state x.ran.counts
    × Linked x.ran.state x.ran.memory xs

-- the same as a call of run: the state of the array, the two counts, and the answer that the two numbers after them stand for
abbrev pub as_seen : Call → Ran → Seen
as_seen c r =
    record {
      call = c;
      answer = record {
        number = r.number;
        state = state_of r.state;
        steps = get_or r.counts 0 0;
        unassigned = get_or r.counts 1 0;
        last = answer_of (get_or r.counts 2 0) (get_or r.counts 3 0);
      };
      memory = r.memory;
    }

unfoldable pub seen : List Observed → List Seen
seen [] = []
seen (x ∷ xs) = as_seen x.call x.ran ∷ seen xs

-- The claim `OpenEntriesAreKept`, for any first array and memory and any list of calls of `tms_run`.
abbrev pub OpenEntriesAreKeptByTmsRun : Type 0
OpenEntriesAreKeptByTmsRun =
    (w m : List ℕ) (xs : List Observed)
    → Linked w m xs
    → Each Respected (all_moments (at (state_of w) m) [] (calls (seen xs)))
    → Each Kept (all_moments (at (state_of w) m) [] (calls (seen xs))) × CallsKept (at (state_of w) m) [] (seen xs)
