use Rattle.std.proofs.Common.{[], arith}
use Rattle.aes3_watch.proofs.Accounts.{starts, starts-found}
use Rattle.aes3_watch.proofs.ledger.Ledger.new.Goals as goal

pub returns-clause-none : goal.returns-clause-none
returns-clause-none c =
    let t = c.new.ensures [] (omega arith) in
    record { accounts = starts t.place_is; found_is = starts-found t.found_is }
