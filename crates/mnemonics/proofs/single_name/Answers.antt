-- Each arm has the letters of its name.
use Rattle.text.specs.Texts.{ascii}
use Rattle.mnemonics.specs.Spelling.{single_name}
use Rattle.mnemonics.proofs.single_name.Goals as goal

pub returns-in-B : goal.returns-in-B
unfolding ascii single_name
returns-in-B c = cc

pub returns-in-Clr : goal.returns-in-Clr
unfolding ascii single_name
returns-in-Clr c = cc

pub returns-in-Neg : goal.returns-in-Neg
unfolding ascii single_name
returns-in-Neg c = cc

pub returns-in-Inv : goal.returns-in-Inv
unfolding ascii single_name
returns-in-Inv c = cc

pub returns-in-Inc : goal.returns-in-Inc
unfolding ascii single_name
returns-in-Inc c = cc

pub returns-in-Inct : goal.returns-in-Inct
unfolding ascii single_name
returns-in-Inct c = cc

pub returns-in-Dec : goal.returns-in-Dec
unfolding ascii single_name
returns-in-Dec c = cc

pub returns-in-Dect : goal.returns-in-Dect
unfolding ascii single_name
returns-in-Dect c = cc

pub returns-in-Bl : goal.returns-in-Bl
unfolding ascii single_name
returns-in-Bl c = cc

pub returns-in-Swpb : goal.returns-in-Swpb
unfolding ascii single_name
returns-in-Swpb c = cc

pub returns-in-Seto : goal.returns-in-Seto
unfolding ascii single_name
returns-in-Seto c = cc

pub returns-in-Abs : goal.returns-in-Abs
unfolding ascii single_name
returns-in-Abs c = cc
