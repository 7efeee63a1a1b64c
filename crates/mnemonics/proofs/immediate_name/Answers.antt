-- Each arm has the letters of its name.
use Rattle.text.specs.Texts.{ascii}
use Rattle.mnemonics.specs.Spelling.{immediate_name}
use Rattle.mnemonics.proofs.immediate_name.Goals as goal

pub returns-in-Li : goal.returns-in-Li
unfolding ascii immediate_name
returns-in-Li c = cc

pub returns-in-Ai : goal.returns-in-Ai
unfolding ascii immediate_name
returns-in-Ai c = cc

pub returns-in-Andi : goal.returns-in-Andi
unfolding ascii immediate_name
returns-in-Andi c = cc

pub returns-in-Ori : goal.returns-in-Ori
unfolding ascii immediate_name
returns-in-Ori c = cc

pub returns-in-Ci : goal.returns-in-Ci
unfolding ascii immediate_name
returns-in-Ci c = cc
