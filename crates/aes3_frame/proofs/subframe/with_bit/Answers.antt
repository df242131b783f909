use Rattle.aes3_frame.proofs.BitLemmas.{low_bits-with_bit, with_bit-lt}
use Rattle.aes3_frame.proofs.subframe.with_bit.Goals as goal

pub returns-clause-bits : goal.returns-clause-bits
returns-clause-bits c =
    low_bits-with_bit c.args.len 32 c.args.bits c.from.result c.args.bit c.requires.few c.requires.bound c.from.ensures

pub returns-clause-bound : goal.returns-clause-bound
returns-clause-bound c =
    with_bit-lt c.args.len 32 c.args.bits c.from.result c.args.bit c.requires.few c.requires.bound c.from.ensures
