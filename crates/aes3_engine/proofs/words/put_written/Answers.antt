use Rattle.std.proofs.Common.{ap, ◌∙◌}
use Rattle.aes3_cell.proofs.Writing.{wrote-is}
use Rattle.aes3_forms_words.specs.Lists.{written_of}
use Rattle.aes3_engine.proofs.words.put_written.Goals as goal

pub returns : goal.returns
returns g c =
    wrote-is (c.write_words.ensures.words ∙ ap (written_of c.args.words) c.bytes_of_block-bytes.ensures)
    c.write_all.ensures
