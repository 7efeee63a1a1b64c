-- `Found::scan` meets its contract: equal parts are agreeing bytes.
use Rattle.std.proofs.Common.{◌≡◌, rules}
use Rattle.differing_runs.proofs.Differences.{none_differs}
use Rattle.differing_runs.proofs.Found.scan.Goals as goal

pub returns-then-eq-clause-holds : goal.returns-then-eq-clause-holds
returns-then-eq-clause-holds c =
    let same : c.args.first.now ≡ c.args.second.now = search rules in
    λ seen l h. rw (← same, none_differs c.args.first.now) (c.agree.ensures.holds seen _ h)
