use Rattle.std.proofs.Common.{◌∙◌, ap, length, arith}
use Rattle.std.specs.List.{filter}
use Rattle.aes3_bits.specs.Bits.{odd_ones}
use Rattle.aes3_slot.specs.ReadWords.{read_words}
use Rattle.aes3_frame.proofs.GatheredWords.{right-even}
use Rattle.aes3_frame.proofs.gathered.GatheredCells.wrong_parities.Goals as goal

pub returns-then-self-ge-SUBFRAMES : goal.returns-then-self-ge-SUBFRAMES
returns-then-self-ge-SUBFRAMES c =
    let v = c.self.inside in
    let l = c.self.told in
    right-even v.before v.right v.words (omega (arith, l, c.if-self-ge-SUBFRAMES.true)) c.self.invariant
    ∙ ap (λ ws. length (filter odd_ones (read_words ws))) c.self.view_is
