use Rattle.std.proofs.Common.{Result, Ok, Err, OnOk, ◌++◌, length, ap, sym, subst, arith, length-append}
use Rattle.std.proofs.lemmas.Result.{on_ok_weaker, on_err_weaker}
use Rattle.aes3_level.specs.Words.{word_cells}
use Rattle.aes3_cell.proofs.Growing.{front-is}
use Rattle.aes3_slot.proofs.ReadSubframes.{length-word}
use Rattle.aes3_lock.specs.Preambles.{marks}
use Rattle.aes3_text_reports.specs.Scanning.{Scanned}
use Rattle.aes3_text_lines.proofs.Gathering.{held-is}
use Rattle.aes3_text_reports.proofs.Scans.{few-marks, marks-behind, scanned-marks}
use Rattle.aes3_text_reports.proofs.scanning.MarkLines.take_word.Goals as goal

pub take_word-found-requires : goal.take_word-found-requires
take_word-found-requires g c =
    let q = c.requires.following in
    let l = q.1 in
    let s = q.2.follows.seen in
    omega (arith, l, s)

pub tell_all-requires-clause-few : goal.tell_all-requires-clause-few
tell_all-requires-clause-few g c =
    let q = c.requires.following in
    let l = q.1 in
    let f = c.take_word-found in
    let d = word_cells c.args.word in
    let s = q.2.count_is in
    let m = ap length (f.ensures.marks q.0 q.2.follows) in
    let n = few-marks (q.0 ++ d) in
    let a = length-append q.0 d in
    let b = length-word c.args.word in
    let e = length-append (marks q.0) f.result in
    omega (arith, l, s, m, n, a, b, e)

-- what follows from two clauses of a call that ended well
from-both : {R E A B C : Type 0} (r : Result R E) → OnOk r A → OnOk r B → (A → B → C) → OnOk r C
from-both (Ok v) a b f = f a b
from-both (Err e) a b f = tt

pub returns-clause-next : goal.returns-clause-next
returns-clause-next g c =
    let f = c.take_word-found in
    from-both c.tell_all.result c.tell_all.ensures.scan c.tell_all.ensures.marks (λ s m d h.
    subst (λ k. Scanned k c.tell_all.new.self.marks (d ++ word_cells c.args.word)) (sym s)
    (scanned-marks (word_cells c.args.word) f.result h (f.ensures.follows d h.follows)
    (f.ensures.marks d h.follows) m))

pub returns-clause-wrote : goal.returns-clause-wrote
returns-clause-wrote g c =
    let f = c.take_word-found in
    on_ok_weaker c.tell_all.result (λ w d h.
    held-is (sym (marks-behind d (word_cells c.args.word) f.result (f.ensures.marks d h.follows))) w)
    c.tell_all.ensures.wrote

pub returns-clause-err_grew : goal.returns-clause-err_grew
returns-clause-err_grew g c =
    let f = c.take_word-found in
    on_err_weaker c.tell_all.result (λ e d h.
    front-is (ap (λ z. c.args.self.now.lines ++ z)
    (sym (marks-behind d (word_cells c.args.word) f.result (f.ensures.marks d h.follows)))) e.1)
    c.tell_all.ensures.err
