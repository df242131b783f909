use Rattle.std.proofs.Common.{◌-◌, refl, sym, ap, ◌∙◌, arith}
use Rattle.std.specs.Prelude.{option_map}
use Rattle.aes3_level.specs.Words.{low_cells}
use Rattle.aes3_lock.specs.Preambles.{placed}
use Rattle.aes3_lock.proofs.Scanning.{first_mark-line, first_mark-none, ended-short, ended-long}
use Rattle.aes3_lock.proofs.scan.mark_ending.Goals as goal
use Rattle.std.proofs.lemmas.Option.{none-some}

pub returns-then-seen-lt-PREAMBLE_CELLS : goal.returns-then-seen-lt-PREAMBLE_CELLS
returns-then-seen-lt-PREAMBLE_CELLS c = sym (ended-short c.args.seen (low_cells 8 c.args.recent) (omega arith))

pub returns-in-Some : goal.returns-in-Some
returns-in-Some c =
    sym (ended-long c.args.seen (low_cells 8 c.args.recent) (omega arith)
    ∙ ap (option_map (placed (c.args.seen - 8)))
    (first_mark-line c.in-Some.mark c.in-Some.before (low_cells 8 c.args.recent) c.in-Some.ensures.some))

pub returns-in-None : goal.returns-in-None
returns-in-None c =
    sym (ended-long c.args.seen (low_cells 8 c.args.recent) (omega arith)
    ∙ ap (option_map (placed (c.args.seen - 8)))
    (first_mark-none (low_cells 8 c.args.recent) refl
    (λ m s e. none-some _ (sym c.in-None.is ∙ c.match_mark.ensures.owed m s e))))
