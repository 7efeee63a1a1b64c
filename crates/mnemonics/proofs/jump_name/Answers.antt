-- Each arm has the letters of its name.
use Rattle.text.specs.Texts.{ascii}
use Rattle.mnemonics.specs.Spelling.{jump_name}
use Rattle.mnemonics.proofs.jump_name.Goals as goal

pub returns-in-Jmp : goal.returns-in-Jmp
unfolding ascii jump_name
returns-in-Jmp c = cc

pub returns-in-Jlt : goal.returns-in-Jlt
unfolding ascii jump_name
returns-in-Jlt c = cc

pub returns-in-Jle : goal.returns-in-Jle
unfolding ascii jump_name
returns-in-Jle c = cc

pub returns-in-Jeq : goal.returns-in-Jeq
unfolding ascii jump_name
returns-in-Jeq c = cc

pub returns-in-Jhe : goal.returns-in-Jhe
unfolding ascii jump_name
returns-in-Jhe c = cc

pub returns-in-Jgt : goal.returns-in-Jgt
unfolding ascii jump_name
returns-in-Jgt c = cc

pub returns-in-Jne : goal.returns-in-Jne
unfolding ascii jump_name
returns-in-Jne c = cc

pub returns-in-Jnc : goal.returns-in-Jnc
unfolding ascii jump_name
returns-in-Jnc c = cc

pub returns-in-Joc : goal.returns-in-Joc
unfolding ascii jump_name
returns-in-Joc c = cc

pub returns-in-Jno : goal.returns-in-Jno
unfolding ascii jump_name
returns-in-Jno c = cc

pub returns-in-Jl : goal.returns-in-Jl
unfolding ascii jump_name
returns-in-Jl c = cc

pub returns-in-Jh : goal.returns-in-Jh
unfolding ascii jump_name
returns-in-Jh c = cc

pub returns-in-Jop : goal.returns-in-Jop
unfolding ascii jump_name
returns-in-Jop c = cc
