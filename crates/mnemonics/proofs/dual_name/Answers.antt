-- Each arm has the letters of its name.
use Rattle.text.specs.Texts.{ascii}
use Rattle.mnemonics.specs.Spelling.{dual_name}
use Rattle.mnemonics.proofs.dual_name.Goals as goal

pub returns-in-Szc : goal.returns-in-Szc
unfolding ascii dual_name
returns-in-Szc c = cc

pub returns-in-S : goal.returns-in-S
unfolding ascii dual_name
returns-in-S c = cc

pub returns-in-C : goal.returns-in-C
unfolding ascii dual_name
returns-in-C c = cc

pub returns-in-A : goal.returns-in-A
unfolding ascii dual_name
returns-in-A c = cc

pub returns-in-Mov : goal.returns-in-Mov
unfolding ascii dual_name
returns-in-Mov c = cc

pub returns-in-Soc : goal.returns-in-Soc
unfolding ascii dual_name
returns-in-Soc c = cc

pub returns-in-Szc-op : goal.returns-in-Szc-op
unfolding ascii dual_name
returns-in-Szc-op c = cc

pub returns-in-S-op : goal.returns-in-S-op
unfolding ascii dual_name
returns-in-S-op c = cc

pub returns-in-C-op : goal.returns-in-C-op
unfolding ascii dual_name
returns-in-C-op c = cc

pub returns-in-A-op : goal.returns-in-A-op
unfolding ascii dual_name
returns-in-A-op c = cc

pub returns-in-Mov-op : goal.returns-in-Mov-op
unfolding ascii dual_name
returns-in-Mov-op c = cc

pub returns-in-Soc-op : goal.returns-in-Soc-op
unfolding ascii dual_name
returns-in-Soc-op c = cc
