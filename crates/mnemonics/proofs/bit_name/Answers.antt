-- Each arm has the letters of its name.
use Rattle.text.specs.Texts.{ascii}
use Rattle.mnemonics.specs.Spelling.{bit_name}
use Rattle.mnemonics.proofs.bit_name.Goals as goal

pub returns-in-Sbo : goal.returns-in-Sbo
unfolding ascii bit_name
returns-in-Sbo c = cc

pub returns-in-Sbz : goal.returns-in-Sbz
unfolding ascii bit_name
returns-in-Sbz c = cc

pub returns-in-Tb : goal.returns-in-Tb
unfolding ascii bit_name
returns-in-Tb c = cc
