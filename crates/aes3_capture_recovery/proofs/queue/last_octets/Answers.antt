use Rattle.std.proofs.Common.{arith, refl, ◌∙◌, rules}
use Rattle.aes3_capture_recovery.proofs.WordBits.{octets-end}
use Rattle.aes3_capture_recovery.proofs.queue.last_octets.Goals as goal

pub returns : goal.returns
returns c =
    octets-end c.args.len c.args.word c.div_ceil-needed.result _ c.copy_from_slice.new.self _ c.requires.few
    c.requires.no_more
    (c.copy_from_slice.ensures.after ∙ c.octets_of_word.ensures) (c.div_ceil-needed.ensures ∙ omega arith) refl (search rules)
