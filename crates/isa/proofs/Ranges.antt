-- Between two of the definition's limits a word is of the range that begins at the lower.
use Rattle.std.proofs.Common.{◌≡◌, ℕ, ◌<◌, ◌≤◌, arith, le-leb}
use borrow.Author.Tests.{lt-leb}
use Rattle.isa.specs.declared.Instruction.TheVariants.{Unassigned}
use Rattle.isa.specs.Isa.{dual, with_register, with_displacement, shift, single, immediate, decoded}

module _ (w : ℕ) where
  pub from_4000 : 0x4000 ≤ w → decoded w ≡ dual w
  unfolding decoded
  from_4000 h = rw (le-leb 0x4000 w h)

  pub from_2000 : w < 0x4000 → 0x2000 ≤ w → decoded w ≡ with_register w
  unfolding decoded
  from_2000 l h = rw (lt-leb 0x4000 w l, le-leb 0x2000 w h)

  pub from_1000 : w < 0x2000 → 0x1000 ≤ w → decoded w ≡ with_displacement w
  unfolding decoded
  from_1000 l h = rw (lt-leb 0x4000 w (omega arith), lt-leb 0x2000 w l, le-leb 0x1000 w h)

  pub from_0800 : w < 0x1000 → 0x0800 ≤ w → decoded w ≡ shift w
  unfolding decoded
  from_0800 l h = rw (lt-leb 0x4000 w (omega arith), lt-leb 0x2000 w (omega arith), lt-leb 0x1000 w l, le-leb 0x0800 w h)

  pub from_0400 : w < 0x0800 → 0x0400 ≤ w → decoded w ≡ single w
  unfolding decoded
  from_0400 l h =
      rw (lt-leb 0x4000 w (omega arith), lt-leb 0x2000 w (omega arith), lt-leb 0x1000 w (omega arith), lt-leb 0x0800 w l, le-leb 0x0400 w h)

  pub from_0200 : w < 0x0400 → 0x0200 ≤ w → decoded w ≡ immediate w
  unfolding decoded
  from_0200 l h =
      rw (lt-leb 0x4000 w (omega arith), lt-leb 0x2000 w (omega arith), lt-leb 0x1000 w (omega arith), lt-leb 0x0800 w (omega arith), lt-leb 0x0400 w l, le-leb 0x0200 w h)

  pub from_0 : w < 0x0200 → decoded w ≡ Unassigned
  unfolding decoded
  from_0 l =
      rw (lt-leb 0x4000 w (omega arith), lt-leb 0x2000 w (omega arith), lt-leb 0x1000 w (omega arith), lt-leb 0x0800 w (omega arith), lt-leb 0x0400 w (omega arith), lt-leb 0x0200 w l)

-- whichever range a word is of
pub ruleset ranges = (from_4000, from_2000, from_1000, from_0800, from_0400, from_0200, from_0)
