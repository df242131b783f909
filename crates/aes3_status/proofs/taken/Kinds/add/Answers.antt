use Rattle.std.proofs.Common.{arith, rules}
use Rattle.aes3_status.proofs.TakenKinds.{more-kinds}
use Rattle.aes3_status.proofs.taken.Kinds.add.Goals as goal

pub returns : goal.returns
returns c = λ statuses status e h.
    more-kinds c.args.self.now.met statuses c.args.bits status c.number_of.result (omega arith) e
    (search (rules, c.number_of.ensures.value)) h
