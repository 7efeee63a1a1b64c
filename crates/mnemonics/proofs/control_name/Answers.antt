-- Each arm has the letters of its name.
use Rattle.text.specs.Texts.{ascii}
use Rattle.mnemonics.specs.Spelling.{control_name}
use Rattle.mnemonics.proofs.control_name.Goals as goal

pub returns-in-Idle : goal.returns-in-Idle
unfolding ascii control_name
returns-in-Idle c = cc

pub returns-in-Rset : goal.returns-in-Rset
unfolding ascii control_name
returns-in-Rset c = cc

pub returns-in-Rtwp : goal.returns-in-Rtwp
unfolding ascii control_name
returns-in-Rtwp c = cc

pub returns-in-Ckon : goal.returns-in-Ckon
unfolding ascii control_name
returns-in-Ckon c = cc

pub returns-in-Ckof : goal.returns-in-Ckof
unfolding ascii control_name
returns-in-Ckof c = cc

pub returns-in-Lrex : goal.returns-in-Lrex
unfolding ascii control_name
returns-in-Lrex c = cc
