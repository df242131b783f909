use Rattle.aes3_engine.proofs.StatusTells.{first-bit, second-bit}
use Rattle.aes3_engine.proofs.rewriting_runs.status_bit.Goals as goal

pub returns-in-First : goal.returns-in-First
returns-in-First c =
    first-bit c.args.block.now c.args.channel c.args.frame c.frame-frame.result.first c.in-First.is
    c.frame-frame.ensures.first

pub returns-in-Second : goal.returns-in-Second
returns-in-Second c =
    second-bit c.args.block.now c.args.channel c.args.frame c.frame-frame.result.second c.in-Second.is
    c.frame-frame.ensures.second
