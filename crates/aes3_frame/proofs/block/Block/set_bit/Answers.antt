use Rattle.std.proofs.Common.{arith}
use Rattle.aes3_frame.proofs.BlockLemmas.{block_subframes_384, payload-set}
use Rattle.aes3_frame.proofs.block.Block.set_bit.Goals as goal

pub with_bit-requires-clause-lawful : goal.with_bit-requires-clause-lawful
with_bit-requires-clause-lawful c = c.self.invariant c.args.subframe (omega (arith, block_subframes_384))

pub returns : goal.returns
returns c = payload-set c.self.inside.words c.args.self.now c.args.subframe c.with_bit.result c.args.place c.args.value
    c.self.view_is (omega (arith, c.self.told)) c.with_bit.ensures.payload
