use Rattle.std.proofs.Common.{◌+◌, ◌++◌, drop, sym, ap, ◌∙◌, arith, rules}
use Rattle.aes3_level.specs.Words.{word_cells, word_len}
use Rattle.aes3_slot.proofs.ReadSubframes.{length-word}
use Rattle.aes3_lock.specs.Following.{ScanState}
use Rattle.aes3_lock.proofs.QuietWords.{seven-before}
use Rattle.aes3_lock.proofs.Scanning.{scan-follows}
use Rattle.aes3_lock.proofs.scan.Scan.take_word.Goals as goal

pub returns-clause-follows : goal.returns-clause-follows
unfolding word_cells word_len
returns-clause-follows c = λ l f.
    let e = sym (length-word c.args.word) in
    scan-follows c.args.self.now c.pass.new.self l (word_cells c.args.word) f
    (c.pass.ensures.seen ∙ ap (λ n. c.args.self.now.seen + n) e)
    (c.pass.ensures.recent ∙ ap (λ n. drop n (c.args.self.now.recent ++ word_cells c.args.word)) e)

pub returns-clause-marks : goal.returns-clause-marks
returns-clause-marks c = λ l f.
    c.new-found.ensures l c.args.word (ap (λ (k : ScanState). k.seen) c.self.view_is ∙ f.seen)
    (search (
      rules,
      seven-before c.self.inside.recent c.from.result c.args.word c.complete_subframe-cells.result c.rest_of.result
          c.from.ensures c.complete_subframe-cells.ensures c.rest_of.ensures.cells (omega arith)
          ∙ ap (λ (k : ScanState). drop 1 k.recent ++ word_cells c.args.word) c.self.view_is
          ∙ ap (λ r. drop 1 r ++ word_cells c.args.word) f.recent,
    ))
