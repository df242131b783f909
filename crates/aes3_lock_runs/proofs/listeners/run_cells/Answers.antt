use Rattle.std.proofs.Common.{[], ap, rules, sym, subst}
use Rattle.std.proofs.lemmas.Result.{err_from_is_err_and}
use Rattle.aes3_lock_runs.proofs.ReportRuns.{heard-err, heard-ok, none-counted}
use Rattle.aes3_lock_runs.proofs.listeners.run_cells.Goals as goal

pub drive-requires-clause-start : goal.drive-requires-clause-start
drive-requires-clause-start g c = (
  c.new-taker.ensures.lock,
  none-counted c.new-taker.ensures.tally,
  subst (λ l. g.L.Listener.follows l []) (sym c.new-taker.ensures.listener) c.requires.start,
)

pub returns : goal.returns
returns g c =
    heard-ok g.L.Listener.finished (ap (λ l. g.L.Listener.writes l) c.new-taker.ensures.listener)
    (λ b n m t. search (rules, c.counts.ensures c.args.input b n m t)) c.in_ok-bytes.ensures

pub returns-in_err-bytes : goal.returns-in_err-bytes
returns-in_err-bytes g c =
    let error = err_from_is_err_and c.from_residual.result c.from_residual.ensures.1 in
    rw (error.1, error.2) (heard-err g.L.Listener.finished
    (ap (λ l. g.L.Listener.writes l) c.new-taker.ensures.listener) c.in_err-bytes.ensures)
