use Rattle.std.proofs.Common.{sym, ap, ◌∙◌, arith}
use Rattle.aes3_block.specs.Readers.{end_answer}
use Rattle.aes3_block.proofs.Reading.{end-left, end-whole}
use Rattle.aes3_block.proofs.file.BlockFile.end.Goals as goal

pub returns-in-None : goal.returns-in-None
returns-in-None c =
    let v = c.self.inside in
    sym (end-left v.seen v.words.items v.word v.fault c.in-None.is (omega arith)) ∙ ap end_answer c.self.view_is

pub returns-in-None-2 : goal.returns-in-None-2
returns-in-None-2 c =
    let v = c.self.inside in
    sym (end-whole v.seen v.words.items v.word v.fault c.in-None-2.is (omega arith)) ∙ ap end_answer c.self.view_is
