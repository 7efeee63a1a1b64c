-- Each arm has the letters of its name.
use Rattle.text.specs.Texts.{ascii}
use Rattle.mnemonics.specs.Spelling.{register_name}
use Rattle.mnemonics.proofs.register_name.Goals as goal

pub returns-in-Coc : goal.returns-in-Coc
unfolding ascii register_name
returns-in-Coc c = cc

pub returns-in-Czc : goal.returns-in-Czc
unfolding ascii register_name
returns-in-Czc c = cc

pub returns-in-Xor : goal.returns-in-Xor
unfolding ascii register_name
returns-in-Xor c = cc

pub returns-in-Mpy : goal.returns-in-Mpy
unfolding ascii register_name
returns-in-Mpy c = cc

pub returns-in-Div : goal.returns-in-Div
unfolding ascii register_name
returns-in-Div c = cc
