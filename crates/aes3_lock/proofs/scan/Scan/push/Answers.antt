use Rattle.std.proofs.Common.{◌+◌, ◌++◌, refl, sym, ap, subst, ◌∙◌, arith}
use Rattle.std.specs.Prelude.{option_to_list}
use Rattle.aes3_level.specs.Words.{low_cells}
use Rattle.aes3_lock.specs.Preambles.{marks}
use Rattle.aes3_lock.specs.Steps.{ended_mark}
use Rattle.aes3_lock.specs.Following.{ScanFollows}
use Rattle.aes3_lock.proofs.Scanning.{scan-next, scan-mark}
use Rattle.aes3_lock.proofs.scan.Scan.push.Goals as goal

pub returns-clause-follows : goal.returns-clause-follows
returns-clause-follows c = λ l f.
    scan-next _ _ l c.args.cell
    (subst (λ k. ScanFollows k l) (sym c.self.view_is) f) refl c.with_cell-self-inside.ensures

pub returns-clause-mark : goal.returns-clause-mark
returns-clause-mark c = λ l f.
    scan-mark _ (record {
      seen = c.self.inside.seen + 1;
      recent = low_cells 8 c.with_cell-self-inside.result;
    }) l c.args.cell
    (subst (λ k. ScanFollows k l) (sym c.self.view_is) f) refl c.with_cell-self-inside.ensures
    ∙ ap (λ n. marks l ++ option_to_list (ended_mark n (low_cells 8 c.with_cell-self-inside.result))) (omega arith)
    ∙ ap (λ r. marks l ++ option_to_list r) (sym c.mark_ending.ensures)
