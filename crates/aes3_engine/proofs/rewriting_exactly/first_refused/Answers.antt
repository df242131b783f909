use Rattle.std.proofs.Common.{◌∙◌, rules}
use Rattle.aes3_frame.specs.declared.block.Channel.TheVariants.{First, Second}
use Rattle.aes3_engine.proofs.RewritingExactly.{both-refused, rising-met}
use Rattle.aes3_engine.proofs.rewriting_exactly.first_refused.Goals as goal

pub returns : goal.returns
returns c = λ xs r h.
    c.earlier.ensures
    ∙ both-refused c.args.change.now xs r (c.first_refused_in.ensures First xs (rising-met First 0 xs r) h.first)
    (c.first_refused_in-2.ensures Second xs (search (rules, rising-met Second 0 xs r)) (search (rules, h.second)))
