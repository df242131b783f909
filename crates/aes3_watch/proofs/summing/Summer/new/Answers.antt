use Rattle.aes3_watch.proofs.SumWrites.{begins-sums}
use Rattle.aes3_watch.proofs.summing.Summer.new.Goals as goal

pub returns-clause-none : goal.returns-clause-none
returns-clause-none c =
    let w = c.new.result in
    begins-sums c.args.every w.state c.new-2.result w.lasts c.requires.some c.requires.few c.new-2.ensures
    c.new.ensures.state
