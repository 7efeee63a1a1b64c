-- Each arm has the letters of its name.
use Rattle.text.specs.Texts.{ascii}
use Rattle.mnemonics.specs.Spelling.{transfer_name}
use Rattle.mnemonics.proofs.transfer_name.Goals as goal

pub returns-in-Ldcr : goal.returns-in-Ldcr
unfolding ascii transfer_name
returns-in-Ldcr c = cc

pub returns-in-Stcr : goal.returns-in-Stcr
unfolding ascii transfer_name
returns-in-Stcr c = cc
