use Rattle.aes3_slot.proofs.FourSubframes.{all-sums, odd-first, odd-next}
use Rattle.aes3_slot.proofs.four.odd_so_far.Goals as goal

pub returns-clause-first : goal.returns-clause-first
returns-clause-first c =
    odd-first (all-sums c.fits-words.0 c.invert_from_below-odd.ensures c.invert_from_below-odd-2.ensures
    c.invert_from_below-odd-3.ensures c.invert_from_below-odd-4.ensures c.invert_from_below.ensures)

pub returns-clause-next : goal.returns-clause-next
returns-clause-next c =
    odd-next (all-sums c.fits-words.0 c.invert_from_below-odd.ensures c.invert_from_below-odd-2.ensures
    c.invert_from_below-odd-3.ensures c.invert_from_below-odd-4.ensures c.invert_from_below.ensures)
