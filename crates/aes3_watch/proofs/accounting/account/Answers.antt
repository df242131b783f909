use Rattle.std.proofs.Common.{Ok, arith, rules}
use Rattle.std.proofs.lemmas.Result.{err_from_is_err_and}
use Rattle.aes3_input.proofs.InputRuns.{run-err, run-ok, run-wrote}
use Rattle.aes3_watch.specs.Accounting.{IsClosedLedgerOf}
use Rattle.aes3_watch.proofs.Accounts.{counted, gives-account, sum-room}
use Rattle.aes3_watch.proofs.accounting.account.Goals as goal

pub run_cells-requires-clause-start : goal.run_cells-requires-clause-start
run_cells-requires-clause-start g c = c.new.ensures.none

pub overflow_add-result : goal.overflow_add-result
overflow_add-result g c =
    let r = c.in_ok-counts.ensures in
    let l = sum-room c.args.input r.bytes r.ran.1.0 r.ran.1.1 in
    omega (arith, l)

pub returns-clause-run : goal.returns-clause-run
returns-clause-run g c =
    run-ok (gives-account c.args.input IsClosedLedgerOf (search (rules, c.new.ensures.lines)))
    (λ b i h. search (rules, counted c.args.input b h.0 h.1)) c.in_ok-counts.ensures

pub returns-clause-lines : goal.returns-clause-lines
returns-clause-lines g c = run-wrote (Ok _) (returns-clause-run g c)

pub returns-in_err-counts-clause-run : goal.returns-in_err-counts-clause-run
returns-in_err-counts-clause-run g c =
    let error = err_from_is_err_and c.from_residual.result c.from_residual.ensures.1 in
    rw (error.1, error.2) (run-err (gives-account c.args.input IsClosedLedgerOf (search (rules, c.new.ensures.lines)))
    c.in_err-counts.ensures)
