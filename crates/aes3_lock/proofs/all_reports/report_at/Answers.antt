use Rattle.std.proofs.Common.{[], ◌∷◌, take, sym, ap, subst, ◌∙◌, arith}
use Rattle.aes3_slot.specs.ReadWords.{read_words}
use Rattle.aes3_lock.specs.Reports.{ending_report, told, report_of}
use Rattle.aes3_lock.specs.Steps.{begun}
use Rattle.aes3_lock.specs.Following.{Filled}
use Rattle.aes3_lock.proofs.OnePlace.{outcome_at-short, outcome_at-none, outcome_at-some, place-ended, place-left}
use Rattle.aes3_lock.proofs.all_reports.report_at.Goals as goal
use Rattle.aes3_lock.proofs.all_reports.report_at.Goals.{then-place-cells, else-place-cells}

pub returns-then-cells-lt8 : goal.returns-then-cells-lt8
returns-then-cells-lt8 c = sym (ap (told c.args.at) (outcome_at-short c.args.cells.now (omega arith)))

pub returns-in_default : goal.returns-in_default
returns-in_default c = sym (ap (told c.args.at) (outcome_at-none c.args.cells.now (omega arith)
    (ap (begun 8) (sym c.first_eight.ensures) ∙ sym c.in_last_eight.ensures.value ∙ c.in_default.is)))

pub returns : goal.returns
returns c =
    let e = outcome_at-some c.args.cells.now c.in-Some.begun (omega arith)
    (ap (begun 8) (sym c.first_eight.ensures) ∙ sym c.in_last_eight.ensures.value ∙ c.in-Some.is) in
    sym (ap (told c.args.at) e.0 ∙ ap (λ r. r ∷ []) (elim c.if-place-cells.branch [
      | then-place-cells w ↦ ap (report_of c.args.at)
          (place-ended c.args.cells.now c.in-Some.begun.before c.of_words-gathered.result c.go_through-offset.result.0
          c.go_through-offset.result.1 e.1
          c.go_through-offset.ensures.front c.go_through-offset.ensures.last
          (subst (λ ws. Filled ws (take c.go_through-offset.result.0 c.args.cells.now))
          (sym c.of_words-gathered.ensures.words) c.go_through-offset.ensures.words)
          c.of_words-gathered.ensures.len (omega arith))
          ∙ sym (ap (ending_report (read_words c.of_words-gathered.result)) w.ending-is ∙ w.ended_by-ending.ensures)
      | else-place-cells w ↦ ap (report_of c.args.at)
          (place-left c.args.cells.now c.in-Some.begun.before c.of_words-gathered.result c.go_through-offset.result.0
          c.go_through-offset.result.1 e.1
          c.go_through-offset.ensures.front c.go_through-offset.ensures.last
          (subst (λ ws. Filled ws (take c.go_through-offset.result.0 c.args.cells.now))
          (sym c.of_words-gathered.ensures.words) c.go_through-offset.ensures.words)
          c.of_words-gathered.ensures.len (omega arith))
          ∙ sym (ap (ending_report (read_words c.of_words-gathered.result)) w.ending-is ∙ w.cut_after-ending.ensures)
    ] ∙ sym c.report_with.ensures))
