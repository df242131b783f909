use Rattle.std.proofs.Common.{◌≡◌, subst, map, take, arith}
use Rattle.std.specs.List.{flat_map}
use Rattle.aes3_level.specs.Words.{word_cells}
use Rattle.aes3_slot.specs.ReadWords.{read_words}
use Rattle.aes3_slot.specs.Slots.{payload_len}
use Rattle.aes3_frame.specs.Blocks.{block_cells}
use Rattle.aes3_frame.proofs.GatheredWords.{right-cells}
use Rattle.aes3_frame.proofs.gathered.GatheredCells.level_before.Goals as goal

pub returns-then-self-ge-SUBFRAMES : goal.returns-then-self-ge-SUBFRAMES
returns-then-self-ge-SUBFRAMES c =
    let v = c.self.inside in
    let l = c.self.told in
    subst (λ ws. flat_map word_cells ws ≡ block_cells v.before (map (take payload_len) (read_words ws))) c.self.view_is
    (right-cells v.before v.right v.words (omega (arith, l, c.if-self-ge-SUBFRAMES.true)) c.self.invariant)
