use Rattle.std.proofs.Common.{sym, ◌∙◌}
use Rattle.aes3_program.specs.Lines.{remark_line}
use Rattle.aes3_program.specs.Streams.{moved}
use Rattle.aes3_program.proofs.RemarkLines.{told-front}
use Rattle.aes3_program.proofs.remark.tell_remark.Goals as goal

pub returns-else-is_ok-clause-told : goal.returns-else-is_ok-clause-told
returns-else-is_ok-clause-told g c =
    told-front c.put_remark.result
    (moved g.E.Sink c.args.errors.now c.put_remark.new.sink)
    (remark_line c.args.typed.now c.args.remark.now) (sym c.is_ok.ensures.value ∙ c.if-is_ok.false) c.put_remark.ensures.err
