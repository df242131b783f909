use Rattle.std.proofs.Common.{◌∙◌, ap, arith}
use Rattle.aes3_cell.specs.Packed.{octets_of}
use Rattle.aes3_level.specs.Words.{word_cells}
use Rattle.aes3_cell_octets.proofs.ReversedOctets.{eight-reversed}
use Rattle.aes3_cell_octets.proofs.reversing.reversed_eight.Goals as goal

pub returns : goal.returns
returns c =
    eight-reversed c.args.octets.now c.octets_of_word.result c.told-octets (λ i. omega (arith, c.fits-octets i))
    (c.octets_of_word.ensures ∙ ap (λ w. octets_of (word_cells w)) c.from_le_bytes.ensures)
