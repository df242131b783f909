use Rattle.std.proofs.Common.{w32}
use Rattle.std.proofs.lemmas.Simd.{below_from_Fits}
use Rattle.aes3_slot.proofs.Spread.{words-spread}
use Rattle.aes3_slot.proofs.four.spread_words.Goals as goal

pub returns-clause-bits : goal.returns-clause-bits
returns-clause-bits c =
    words-spread c.args.words c.spread_octets.result (below_from_Fits w32 c.args.words c.fits-words.1)
    c.spread_octets.ensures.len c.spread_octets.ensures.fits c.spread_octets.ensures.bits
