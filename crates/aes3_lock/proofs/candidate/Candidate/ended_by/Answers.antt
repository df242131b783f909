use Rattle.std.proofs.Common.{◌≡◌, ◌+◌, ◌-◌, false, not, sym, ap, ◌∙◌, arith}
use Rattle.aes3_slot.specs.ReadWords.{read_words}
use Rattle.aes3_slot.specs.Reading.{same}
use Rattle.aes3_lock.specs.declared.report.Report.TheVariants.{Fault}
use Rattle.aes3_lock.specs.Outcomes.{why_of}
use Rattle.aes3_lock.specs.Reports.{ending_report, report_of}
use Rattle.aes3_lock.proofs.Codes.{ended-block, ended-early, ended-unclosed, same-differs}
use Rattle.aes3_lock.proofs.candidate.Candidate.ended_by.Goals as goal

pub returns-then-turns : goal.returns-then-turns
returns-then-turns c =
    let e : same c.args.cell c.args.previous ≡ false = same-differs c.args.cell c.args.previous
    ∙ ap not (sym c.turns.ensures ∙ c.if-turns.true) in
    c.closed.ensures
    ∙ ap (report_of c.args.self.at)
    (sym (ended-block c.args.self.before c.args.offset (same c.args.cell c.args.previous)
    (read_words c.args.words.now) (omega arith) e))

pub returns-else-offset-ge-BLOCK_CELLS : goal.returns-else-offset-ge-BLOCK_CELLS
returns-else-offset-ge-BLOCK_CELLS c =
    ap (ending_report (read_words c.args.words.now)) c.refuted_at.ensures
    ∙ ap (λ o. Fault c.args.self.at (c.args.self.at + c.args.offset) (why_of o))
    (let e : c.args.self.at + c.args.offset - c.args.self.at ≡ c.args.offset = omega arith in e)
    ∙ ap (report_of c.args.self.at) (elim c.else-offset-ge-BLOCK_CELLS.branch [
      | goal.else-offset-ge-BLOCK_CELLS-via-then-offset-ge-BLOCK_CELLS+else-turns w ↦
          sym (ended-unclosed c.args.self.before c.args.offset (same c.args.cell c.args.previous)
          (read_words c.args.words.now) (omega arith)
          (same-differs c.args.cell c.args.previous ∙ ap not (sym w.turns.ensures ∙ w.if-turns.false)))
      | goal.else-offset-ge-BLOCK_CELLS-via-else-offset-ge-BLOCK_CELLS w ↦
          sym (ended-early c.args.self.before c.args.offset (same c.args.cell c.args.previous)
          (read_words c.args.words.now) (omega arith))
    ])
