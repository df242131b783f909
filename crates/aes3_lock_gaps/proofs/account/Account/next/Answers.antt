use Rattle.std.proofs.Common.{◌+◌, ◌≡◌, ◌∷◌, ap, ap₂, sym, ◌∙◌, arith}
use Rattle.aes3_lock.proofs.Deciding.{block_len_24576}
use Rattle.aes3_lock_gaps.specs.declared.gap.Gap.{Gap}
use Rattle.aes3_lock_gaps.specs.Gaps.{behind_full, lost, gaps, kind}
use Rattle.aes3_lock_gaps.specs.Told.{due_gaps, gap_entry}
use Rattle.aes3_lock_gaps.proofs.NextGaps.{due-next, behind-next, gaps-last, gaps-none, full-none, told-one}
use Rattle.aes3_lock_gaps.proofs.account.Account.next.Goals as goal

pub returns-then-cells-ge-BLOCK_CELLS-clause-gap : goal.returns-then-cells-ge-BLOCK_CELLS-clause-gap
returns-then-cells-ge-BLOCK_CELLS-clause-gap c = λ g e.
    let k = c.args.self.now in
    let b = block_len_24576 in
    told-one (λ (g : Gap). due_gaps k.place c.args.due ≡ gap_entry g ∷ due_gaps (k.place + 24576) c.args.due) _ g e
    (due-next k.place c.args.due (omega arith)
    ∙ ap₂ (λ m n. lost k.place m ∷ due_gaps (k.place + n) c.args.due) (omega (arith, b)) b)

pub returns-then-cells-ge-BLOCK_CELLS-clause-behind : goal.returns-then-cells-ge-BLOCK_CELLS-clause-behind
returns-then-cells-ge-BLOCK_CELLS-clause-behind c = λ _.
    let k = c.args.self.now in
    let b = block_len_24576 in
    behind-next k.place c.args.due.to (omega arith) ∙ ap (λ n. behind_full (k.place + n) c.args.due.to) b

pub returns-in-Some-clause-gap : goal.returns-in-Some-clause-gap
returns-in-Some-clause-gap c = λ g e.
    let k = c.args.self.now in
    let b = block_len_24576 in
    let q = c.in-Some.is in
    told-one (λ (g : Gap). due_gaps k.place c.args.due ≡ gap_entry g ∷ due_gaps c.args.due.to c.args.due) _ g e
    (rw q (gaps-last c.in-Some.counts k.place c.args.due.to (omega arith) (omega arith)
    ∙ ap (λ n. kind c.in-Some.counts k.place n ∷ gaps c.in-Some.counts c.args.due.to c.args.due.to)
    (sym c.saturating_sub-cells.ensures)))

pub returns-in_default-clause-none : goal.returns-in_default-clause-none
returns-in_default-clause-none c = λ _.
    let k = c.args.self.now in
    rw c.in-Some.is (gaps-none c.in-Some.counts k.place c.args.due.to (omega arith))

pub returns-in_default-2-clause-none : goal.returns-in_default-2-clause-none
returns-in_default-2-clause-none c = λ _.
    let b = block_len_24576 in
    rw c.in_default.is (full-none c.args.self.now.place c.args.due.to (omega arith))
