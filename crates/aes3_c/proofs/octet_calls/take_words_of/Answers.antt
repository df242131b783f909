use Rattle.std.proofs.Common.{◌*◌, List, length, subst}
use Rattle.aes3_level.specs.declared.level.Level.{Level}
use Rattle.aes3_c.specs.Taking.{TookFirst}
use Rattle.aes3_c.proofs.octet_calls.take_words_of.Goals as goal

pub returns : goal.returns
returns c =
    subst (λ (d : List Level). TookFirst c.args.state.now c.take_first.new.state d (8 * length c.args.octets.now) c.take_first.result)
    c.words_of_octets.ensures.cells c.take_first.ensures
