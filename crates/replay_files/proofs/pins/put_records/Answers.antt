-- Each turn puts the next record in its place.
use Rattle.std.proofs.Common.{arith}
use Rattle.replay_files.proofs.Words.{next_record}
use Rattle.replay_files.proofs.pins.put_records.Goals as goal

pub loop-i-preserved : goal.loop-i-preserved
loop-i-preserved c =
    next_record c.taken-word-items.result.now c.args.records.now _ _ _ _ (omega arith) (omega arith)
    c.taken-word-items.ensures.value c.loop-i.invariant c.from_be_bytes.ensures
