-- The three counts go one behind the other.
use Rattle.std.proofs.Common.{◌≤◌, ◌++◌, length, arith}
use Rattle.text.specs.Texts.{ascii, decimal}
use Rattle.text.proofs.Laws.{appended_twice}
use Rattle.replay_files.specs.Line.{counts}
use Rattle.replay_files.proofs.line.push_counts.Goals as goal

pub returns-clause-value : goal.returns-clause-value
unfolding ascii counts
returns-clause-value c =
    let a = c.args in
    let x = a.text.now in
    let one = ascii "answer " ++ decimal a.number in
    let two = ascii " steps " ++ decimal a.steps in
    let held : x.length ≤ length x.bytes = omega arith in
    rw (
      c.push_count-3.ensures.value,
      c.push_count-2.ensures.value,
      c.push_count.ensures.value,
      appended_twice x one two held,
      appended_twice x (one ++ two) (ascii " unassigned " ++ decimal a.unassigned) held,
    )
