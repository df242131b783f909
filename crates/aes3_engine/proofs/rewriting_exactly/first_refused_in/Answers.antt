use Rattle.std.proofs.Common.{sym, ◌∙◌, rules}
use Rattle.aes3_engine.specs.RewritingExactly.{met_of}
use Rattle.aes3_engine.proofs.RewritingExactly.{given-refused, given-taken, long-met, none-refused, own-refused}
use Rattle.aes3_engine.proofs.rewriting_exactly.first_refused_in.Goals as goal

pub returns-in-None-default : goal.returns-in-None-default
returns-in-None-default c = λ channel xs r h.
    search (rules, none-refused channel c.args.status.now c.args.settings.now xs c.in-None-default.is-0)

pub returns-in-Some-None : goal.returns-in-Some-None
returns-in-Some-None c = λ channel xs r h.
    own-refused channel c.args.status.now c.args.settings.now xs c.in-Some-None.settings c.in-Some-None.is-1
    c.in-Some-None.is-0 (c.first_refusing.ensures (met_of channel xs) r (long-met channel xs) h)

pub returns-then-takes_all : goal.returns-then-takes_all
returns-then-takes_all c = λ channel xs r h.
    given-taken channel c.args.status.now c.args.settings.now xs c.in-Some-Some.status c.in-Some-Some.settings
    c.in-Some-Some.is-1 c.in-Some-Some.is-0 (sym c.takes_all.ensures ∙ c.if-takes_all.true)

pub returns-else-takes_all : goal.returns-else-takes_all
returns-else-takes_all c = λ channel xs r h.
    given-refused channel c.args.status.now c.args.settings.now xs c.in-Some-Some.status c.in-Some-Some.settings
    c.in-Some-Some.is-1 c.in-Some-Some.is-0 (sym c.takes_all.ensures ∙ c.if-takes_all.false)
    (c.first.ensures (met_of channel xs) r h)
