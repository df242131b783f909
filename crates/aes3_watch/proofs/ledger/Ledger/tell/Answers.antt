use Rattle.std.proofs.Common.{◌+◌, ◌++◌, ◌∷◌, [], length, ltb, sym, ap, ◌∙◌, append-nil, arith}
use Rattle.std.specs.List.{filter}
use Rattle.std.proofs.lemmas.Result.{err_from_is_err_and}
use Rattle.aes3_cell.proofs.Growing.{grew-is, front-is, front-more}
use Rattle.aes3_cell.proofs.Writing.{ok-always, wrote-behind, wrote-is}
use Rattle.aes3_slot.specs.ReadWords.{read_words}
use Rattle.aes3_lock.specs.Following.{report_in}
use Rattle.aes3_lock.specs.Outcomes.{payloads_of}
use Rattle.aes3_lock.specs.Reports.{wholes}
use Rattle.aes3_lock_gaps.specs.Gaps.{gaps_before, is_lost, reported}
use Rattle.aes3_text_reports.specs.Lines.{told_line}
use Rattle.aes3_text_reports.proofs.EndingLines.{ending-told}
use Rattle.aes3_watch.specs.GapLines.{account_lines}
use Rattle.aes3_watch.proofs.GapWrites.{due-place, due-report, ending-with, lines-append}
use Rattle.aes3_watch.proofs.EventWrites.{wrote-failed}
use Rattle.aes3_watch.proofs.ledger.Ledger.tell.Goals as goal

pub tell_gaps-requires-clause-few : goal.tell_gaps-requires-clause-few
tell_gaps-requires-clause-few g c =
    let k = c.args.self.now in
    let t = due-place (read_words c.args.lock.now.words) k.account.found c.args.ending c.before_report.result
    c.before_report.ensures in
    let r = c.requires.few in
    omega arith

pub returns-in_err-tell_gaps-clause-wrote : goal.returns-in_err-tell_gaps-clause-wrote
returns-in_err-tell_gaps-clause-wrote g c =
    let k = c.args.self.now in
    let n = c.args.blocks in
    let slots = read_words c.args.lock.now.words in
    let x = report_in c.args.lock.now c.args.ending in
    let p = err_from_is_err_and c.from_residual.result c.from_residual.ensures.1 in
    let f = c.in_err-tell_gaps.ensures.wrote.err in
    rw p.1 (wrote-failed f.0
    (front-is (sym (lines-append k.lines (gaps_before n k.account.place x) (reported x ∷ [])))
    (front-more (front-is (ap (account_lines k.lines) (due-report n k.account.place slots k.account.found c.args.ending
    c.before_report.result c.before_report.ensures c.requires.found)) f.1) (account_lines k.lines (reported x ∷ [])))))

pub returns-clause-wrote : goal.returns-clause-wrote
returns-clause-wrote g c =
    let k = c.args.self.now in
    let n = c.args.blocks in
    let slots = read_words c.args.lock.now.words in
    let x = report_in c.args.lock.now c.args.ending in
    let b = c.in_ok-tell_gaps.ensures.wrote in
    wrote-is (ap (λ z. account_lines k.lines (gaps_before n k.account.place x) ++ z)
    (sym (append-nil (told_line k.lines x)))
    ∙ sym (lines-append k.lines (gaps_before n k.account.place x) (reported x ∷ [])))
    (wrote-behind c.tell_ending.result b.no_failure
    (grew-is (ap (account_lines k.lines) (due-report n k.account.place slots k.account.found c.args.ending
    c.before_report.result c.before_report.ensures c.requires.found)) b.grew)
    (wrote-is (ending-told k.lines c.args.ending slots) (rw c.tell_gaps.ensures.lines at c.tell_ending.ensures)))

pub returns-clause-found : goal.returns-clause-found
returns-clause-found g c =
    let slots = read_words c.args.lock.now.words in
    ok-always c.tell_ending.result
    (c.take.ensures.found (payloads_of slots) c.args.blocks (c.tell_gaps.ensures.found ∙ c.requires.found)
    ∙ ap (λ x. ltb 0 (c.args.blocks + length (wholes (x ∷ [])))) (ending-with slots c.args.ending))

pub returns-clause-lost : goal.returns-clause-lost
returns-clause-lost g c =
    let k = c.args.self.now in
    ok-always c.tell_ending.result
    (c.in_ok-tell_gaps.ensures.lost
    ∙ ap (λ z. k.lost + length (filter is_lost z)) (due-report c.args.blocks k.account.place
    (read_words c.args.lock.now.words) k.account.found c.args.ending c.before_report.result c.before_report.ensures
    c.requires.found))
