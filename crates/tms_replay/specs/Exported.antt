-- The calls as C, Fortran and Rust see them: a state is an array of thirteen numbers, a run's counts are four, a line's length and words
-- two, a block is one, what is told of two images four.
use Rattle.std.specs.Prelude.{ℕ, ◌≡◌, List, [], ◌∷◌, eqb, if◌then◌else◌}
use Rattle.machine.specs.Answer as Answer
use Rattle.machine.specs.Run as Run
use Rattle.image_blocks.specs.Image as Image
use Rattle.image.specs.Calls as Calls
use Rattle.listing.specs.Listing as Listing
use Rattle.comparison.specs.Compare as Compare
use Rattle.state_array.specs.Arrays.{state_of}

-- What a call answers and leaves where it was lent something to be changed.
pub record Powered : Type 0 where
  pub number : ℕ
  pub memory : List ℕ
  pub state : List ℕ

-- power up: the returned state, refused or not
unfoldable pub power_up : List ℕ → Powered
power_up m =
    record {
      number = (Run.power_up m).answer.number;
      memory = (Run.power_up m).memory;
      state = Image.fields (Run.power_up m).answer.state;
    }

pub record Ran : Type 0 where
  pub number : ℕ
  pub memory : List ℕ
  pub state : List ℕ
  pub counts : List ℕ

-- what is handed on of a run: the state after, or on a refusal the array as given; the steps done, how many of them met an unassigned
-- word, and what the last one answered
abbrev pub handed : List ℕ → Run.RunResult → Ran
handed w r =
    record {
      number = r.answer.number;
      memory = r.memory;
      state = if eqb r.answer.number 0 then Image.fields r.answer.state else w;
      counts =
          r.answer.steps ∷ r.answer.unassigned ∷ Answer.number r.answer.last ∷ Answer.value r.answer.last ∷ [];
    }

-- run, on the state of the array
unfoldable pub run : List ℕ → List ℕ → List ℕ → ℕ → ℕ → Ran
run m w records steps stop = handed w (Run.run m (state_of w) records steps stop)

-- What a call of `tms_run` promises: its number, and the memory, the array and the counts after it, are these.
abbrev pub Promised : List ℕ → List ℕ → List ℕ → ℕ → ℕ → ℕ → List ℕ → List ℕ → List ℕ → Type 0
Promised m w records steps stop number memory state counts =
    record { number = number; memory = memory; state = state; counts = counts } ≡ run m w records steps stop

pub record Read : Type 0 where
  pub number : ℕ
  pub memory : List ℕ
  pub state : List ℕ
  pub block : ℕ

-- reading an image: the returned state, refused or not; the block that refusals 6 and 7 name, else 0
unfoldable pub read : List ℕ → List ℕ → Read
read img m =
    record {
      number = (Calls.read img m).answer.number;
      memory = (Calls.read img m).memory;
      state = Image.fields (Calls.read img m).answer.state;
      block = (Calls.read img m).answer.block;
    }

pub record Written : Type 0 where
  pub number : ℕ
  pub image : List ℕ

-- writing an image
unfoldable pub write : List ℕ → List ℕ → List ℕ → Written
write w m img =
    record { number = (Calls.write (state_of w) m img).answer.number; image = (Calls.write (state_of w) m img).image }

pub record Listed : Type 0 where
  pub number : ℕ
  pub text : List ℕ
  pub answer : List ℕ

-- the line of the instruction at an address: the line's length and the number of words, zeros on a refusal
unfoldable pub list : List ℕ → ℕ → List ℕ → Listed
list m a text =
    record {
      number = (Listing.list m a text).answer.number;
      text = (Listing.list m a text).text;
      answer = (Listing.list m a text).answer.length ∷ (Listing.list m a text).answer.words ∷ [];
    }

pub record Compared : Type 0 where
  pub number : ℕ
  pub answer : List ℕ
  pub list : List ℕ

-- two images compared: the image and the block that a refusal names, which fields differ, the number of runs; start and length of the first
-- 256 runs
unfoldable pub compare : List ℕ → List ℕ → Compared
compare a b =
    record {
      number = (Compare.compare a b).answer.number;
      answer =
          (Compare.compare a b).answer.image ∷ (Compare.compare a b).answer.block
          ∷ (Compare.compare a b).answer.fields ∷ (Compare.compare a b).answer.runs ∷ [];
      list = (Compare.compare a b).list;
    }
