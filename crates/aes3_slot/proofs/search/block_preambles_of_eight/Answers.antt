use Rattle.aes3_slot.proofs.EightWords.{lanes-and, lanes-not, block-lanes}
use Rattle.aes3_slot.proofs.search.block_preambles_of_eight.Goals as goal

pub returns : goal.returns
returns c =
    block-lanes c.args.cells c.args.next
    (lanes-and
    (lanes-and (lanes-and (lanes-not c.unlike_of_eight.ensures) (lanes-not c.unlike_of_eight-2.ensures))
    (lanes-and c.unlike_of_eight-3.ensures c.unlike_of_eight-4.ensures))
    (lanes-and (lanes-not c.unlike_of_eight-5.ensures)
    (lanes-and c.unlike_of_eight-6.ensures c.unlike_of_eight-7.ensures)))
