use Rattle.aes3_level.specs.Words.{word_len}
use Rattle.aes3_slot.specs.Slots.{slots_len}
use Rattle.aes3_slot.proofs.Turns.{turns-word}
use Rattle.aes3_slot.proofs.subframe_encoding.slot_turns.Goals as goal

pub returns : goal.returns
unfolding word_len slots_len
returns c = turns-word c.mark_turns.result c.spread.result c.args.slots c.args.mark c.mark_turns.ensures.turns
    c.mark_turns.ensures.bound c.spread.ensures
