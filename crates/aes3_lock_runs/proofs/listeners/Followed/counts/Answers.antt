use Rattle.std.proofs.Common.{rules}
use Rattle.aes3_lock_runs.proofs.ReportRuns.{counted}
use Rattle.aes3_lock_runs.proofs.listeners.Followed.counts.Goals as goal

pub returns : goal.returns
returns g c = λ form b n m t.
    let k = c.args.self.now.tally in
    search (rules, counted form b c.args.bytes c.args.cells k.blocks k.faults k.unfinished n m t)
