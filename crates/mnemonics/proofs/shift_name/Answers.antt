-- Each arm has the letters of its name.
use Rattle.text.specs.Texts.{ascii}
use Rattle.mnemonics.specs.Spelling.{shift_name}
use Rattle.mnemonics.proofs.shift_name.Goals as goal

pub returns-in-Sra : goal.returns-in-Sra
unfolding ascii shift_name
returns-in-Sra c = cc

pub returns-in-Srl : goal.returns-in-Srl
unfolding ascii shift_name
returns-in-Srl c = cc

pub returns-in-Sla : goal.returns-in-Sla
unfolding ascii shift_name
returns-in-Sla c = cc

pub returns-in-Src : goal.returns-in-Src
unfolding ascii shift_name
returns-in-Src c = cc
