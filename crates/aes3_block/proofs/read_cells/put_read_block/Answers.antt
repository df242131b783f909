use Rattle.std.proofs.Common.{◌∙◌, ap, sym, map, take}
use Rattle.std.specs.List.{flat_map}
use Rattle.aes3_level.specs.Cells.{other}
use Rattle.aes3_level.specs.Words.{word_cells}
use Rattle.aes3_cell.specs.Written.{bytes_of}
use Rattle.aes3_cell.proofs.Writing.{wrote-is}
use Rattle.aes3_slot.specs.ReadWords.{read_words}
use Rattle.aes3_slot.specs.Slots.{payload_len}
use Rattle.aes3_frame.specs.Blocks.{block_cells}
use Rattle.aes3_frame.proofs.GatheredWords.{block-other}
use Rattle.aes3_block.proofs.read_cells.put_read_block.Goals as goal
use Rattle.aes3_slot.proofs.RuleTests.{same-true}

pub returns-then-are_equal : goal.returns-then-are_equal
returns-then-are_equal g c =
    let ps = map (take payload_len) (read_words c.args.gathered.now) in
    wrote-is (ap (bytes_of c.args.form) (ap (flat_map word_cells) c.words-kept.ensures ∙ c.in-Some.ensures
    ∙ ap (λ s. block_cells s ps)
    (same-true c.in-Some.level c.args.before (sym c.are_equal.ensures ∙ c.if-are_equal.true)))) c.put_words.ensures

pub returns-else-are_equal : goal.returns-else-are_equal
returns-else-are_equal g c =
    let ps = map (take payload_len) (read_words c.args.gathered.now) in
    wrote-is (ap (bytes_of c.args.form) (ap (λ ws. map other (flat_map word_cells ws)) c.words-kept.ensures
    ∙ block-other c.in-Some.level c.args.before c.args.gathered.now ps c.in-Some.ensures (sym c.are_equal.ensures
    ∙ c.if-are_equal.false))) c.put_inverted.ensures
