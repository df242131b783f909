use Rattle.std.proofs.Common.{arith, rules}
use Rattle.aes3_cell_octets.proofs.Ends.{front-grew, handed-on}
use Rattle.aes3_cell_octets.proofs.reversed_sink.ReversedSinkSink.write.Goals as goal

pub returns-clause-bytes : goal.returns-clause-bytes
returns-clause-bytes g c =
    front-grew (g.T.Sink.taken c.args.self.now.sink) (g.T.Sink.taken c.write.new.self)
    c.fill_reversed-n.result c.args.buf.now c.fill_reversed-n.new.piece c.write.result c.fill_reversed-n.ensures.octets
    (λ i. omega (arith, c.type_inv.buf i)) (search (rules, c.write.ensures.bound))
    (search (rules, c.write.ensures.bytes))

pub returns-clause-handed : goal.returns-clause-handed
returns-clause-handed g c =
    handed-on (g.T.Sink.taken c.args.self.now.sink) (g.T.Sink.taken c.write.new.self)
    c.fill_reversed-n.result c.args.buf.now c.fill_reversed-n.new.piece c.write.result c.fill_reversed-n.ensures.octets
    (search (rules, c.write.ensures.bound))
    (search (rules, c.write.ensures.bytes))
