use Rattle.std.proofs.Common.{◌≡◌, ◌+◌, ◌++◌, drop, length, ℕ, List, sym, ap, ap₂, ◌∙◌, arith, append-nil, w64}
use Rattle.std.proofs.Common.{length-append}
use Rattle.std.specs.Prelude.{option_to_list}
use Rattle.std.specs.Int.{trailing_zeros}
use Rattle.aes3_level.specs.declared.level.Level.{Level}
use Rattle.aes3_level.specs.Words.{low_cells, word_cells}
use Rattle.aes3_level.proofs.WordCells.{length-low_cells}
use Rattle.aes3_slot.specs.Preambles.{with_seven}
use Rattle.aes3_lock.specs.Preambles.{marks}
use Rattle.aes3_lock.specs.Steps.{last_eight, ended_mark}
use Rattle.aes3_lock.specs.Following.{ScanState, ScanFollows}
use Rattle.aes3_lock.proofs.QuietWords.{seven-before}
use Rattle.aes3_lock.proofs.QuietScans.{none-end, one-ends, none-further, is-told}
use Rattle.aes3_lock.proofs.Scanning.{scan-follows}
use Rattle.aes3_lock.proofs.scan.Scan.next_in.Goals as goal

-- no preamble ends in the first len cells
pub returns-then-quiet-len-clause-follows : goal.returns-then-quiet-len-clause-follows
returns-then-quiet-len-clause-follows c = λ l f.
    let e = sym (length-low_cells c.args.len c.args.word) in
    scan-follows c.args.self.now c.pass.new.self l (low_cells c.args.len c.args.word) f
    (c.pass.ensures.seen ∙ ap (λ n. c.args.self.now.seen + n) e)
    (c.pass.ensures.recent ∙ ap (λ n. drop n (c.args.self.now.recent ++ low_cells c.args.len c.args.word)) e)

pub returns-then-quiet-len-clause-mark : goal.returns-then-quiet-len-clause-mark
returns-then-quiet-len-clause-mark c = λ l f.
    none-end l (with_seven c.complete_subframe-cells.result c.rest_of.result) c.preambles-begun.result c.args.word (omega arith)
    (seven-before c.self.inside.recent c.from.result c.args.word c.complete_subframe-cells.result c.rest_of.result
    c.from.ensures c.complete_subframe-cells.ensures c.rest_of.ensures.cells (omega arith)
    ∙ ap (λ (k : ScanState). drop 1 k.recent ++ word_cells c.args.word) c.self.view_is
    ∙ ap (λ r. drop 1 r ++ word_cells c.args.word) f.recent)
    c.preambles-begun.ensures c.args.len c.if-quiet-len.true c.requires.len
    ∙ sym (append-nil (marks l))

-- one ends with the cell behind the quiet ones
abbrev first : goal.After-pass-2 → ℕ
first c = trailing_zeros w64 c.preambles-begun.result + 1

followed : (c : goal.After-pass-2) (l : List Level) → ScanFollows c.args.self.now l
    → ScanFollows (record { seen = c.self.inside.seen + c.from-2.result; recent = low_cells 8 c.last_behind.result })
    (l ++ low_cells (first c) c.args.word)
followed c l f =
    let e = sym (length-low_cells (first c) c.args.word) in
    let v = ap (λ (k : ScanState). k.seen) c.self.view_is in
    scan-follows c.args.self.now _ l (low_cells (first c) c.args.word) f
    (ap₂ ◌+◌ v (c.from-2.ensures ∙ e))
    (c.last_behind.ensures
    ∙ ap (λ (k : ScanState). drop (first c) (k.recent ++ low_cells (first c) c.args.word)) c.self.view_is
    ∙ ap (λ m. drop m (c.args.self.now.recent ++ low_cells (first c) c.args.word)) e)

told : (c : goal.After-pass-2) (l : List Level) → ScanFollows c.args.self.now l
    → with_seven c.complete_subframe-cells.result c.rest_of.result ≡ drop 1 (last_eight l) ++ word_cells c.args.word
told c l f =
    seven-before c.self.inside.recent c.from.result c.args.word c.complete_subframe-cells.result c.rest_of.result c.from.ensures
    c.complete_subframe-cells.ensures c.rest_of.ensures.cells (omega arith)
    ∙ ap (λ (k : ScanState). drop 1 k.recent ++ word_cells c.args.word) c.self.view_is
    ∙ ap (λ r. drop 1 r ++ word_cells c.args.word) f.recent

pub returns-clause-follows : goal.returns-clause-follows
returns-clause-follows c = λ l f.
    let n = c.min-taken.result in
    let e = sym (length-low_cells n c.args.word) in
    scan-follows c.args.self.now c.pass-2.new.self l (low_cells n c.args.word) f
    (c.pass-2.ensures.seen ∙ ap (λ n. c.args.self.now.seen + n) e)
    (c.pass-2.ensures.recent ∙ ap (λ m. drop m (c.args.self.now.recent ++ low_cells n c.args.word)) e)

pub returns-clause-mark : goal.returns-clause-mark
returns-clause-mark c = λ l f.
    let g = followed c l f in
    let q = c.if-quiet-len.false in
    let r = c.requires.len in
    let m = c.min-taken.ensures in
    none-further l (with_seven c.complete_subframe-cells.result c.rest_of.result) c.preambles-begun.result c.args.word
    (omega arith) (told c l f)
    c.preambles-begun.ensures c.min-taken.result (omega (arith, m, q)) (omega (arith, m)) (omega (arith, m, r))
    ∙ one-ends l (with_seven c.complete_subframe-cells.result c.rest_of.result) c.preambles-begun.result c.args.word
    (omega arith) (told c l f)
    c.preambles-begun.ensures (omega (arith, q, r))
    ∙ ap₂ (λ n d. marks l ++ option_to_list (ended_mark n d)) (sym g.seen) (sym g.recent)
    ∙ ap (λ o. marks l ++ option_to_list o) (sym c.mark_ending-found.ensures)

pub returns-clause-all : goal.returns-clause-all
returns-clause-all c = λ l f n e.
    let g = followed c l f in
    let q = c.if-quiet-len.false in
    let r = c.requires.len in
    let k = trailing_zeros w64 c.preambles-begun.result + 1 in
    absurd (is-told l (with_seven c.complete_subframe-cells.result c.rest_of.result) c.preambles-begun.result c.args.word
    (omega arith) (told c l f)
    c.preambles-begun.ensures (length (l ++ low_cells k c.args.word)) (omega (arith, q, r))
    (let a = length-append l (low_cells k c.args.word) in let b = length-low_cells k c.args.word in
    omega (arith, a, b, n))
    (ap₂ ended_mark (sym g.seen) (sym g.recent) ∙ sym c.mark_ending-found.ensures ∙ e))
