-- The forms with one name have its letters.
use Rattle.text.specs.Texts.{ascii}
use Rattle.mnemonics.specs.Spelling.{name}
use Rattle.mnemonics.proofs.name.Goals as goal

pub returns-in-Xop : goal.returns-in-Xop
unfolding ascii name
returns-in-Xop c = rw c.in-Xop.is

pub returns-in-Blwp : goal.returns-in-Blwp
unfolding ascii name
returns-in-Blwp c = rw c.in-Blwp.is

pub returns-in-X : goal.returns-in-X
unfolding ascii name
returns-in-X c = rw c.in-X.is

pub returns-in-Stwp : goal.returns-in-Stwp
unfolding ascii name
returns-in-Stwp c = rw c.in-Stwp.is

pub returns-in-Stst : goal.returns-in-Stst
unfolding ascii name
returns-in-Stst c = rw c.in-Stst.is

pub returns-in-Lwpi : goal.returns-in-Lwpi
unfolding ascii name
returns-in-Lwpi c = rw c.in-Lwpi.is

pub returns-in-Limi : goal.returns-in-Limi
unfolding ascii name
returns-in-Limi c = rw c.in-Limi.is

pub returns-in-Data : goal.returns-in-Data
unfolding ascii name
returns-in-Data c = rw c.in-Data.is
