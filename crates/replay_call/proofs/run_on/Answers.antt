-- `run_on` meets its contract: the first of the array are the file's records, and the stop address is the file's.
use Rattle.replay_call.proofs.Parts.{first}
use Rattle.replay_call.proofs.run_on.Goals as goal

pub returns : goal.returns
returns c =
    let n = c.record_count-n in
    rw (first _ _ n.result n.ensures.value c.put_records.ensures, n.ensures.value, c.stop.ensures) at c.run.ensures
