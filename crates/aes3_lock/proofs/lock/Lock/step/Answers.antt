use Rattle.std.proofs.Common.{◌++◌}
use Rattle.aes3_level.specs.Words.{low_cells}
use Rattle.aes3_lock.specs.Following.{report_in}
use Rattle.aes3_lock.proofs.HeldBlocks.{none-held}
use Rattle.aes3_lock.proofs.PushedWords.{none-told}
use Rattle.aes3_lock.proofs.lock.Lock.step.Goals as goal

pub returns-in-None-clause-report : goal.returns-in-None-clause-report
returns-in-None-clause-report c = λ l f.
    none-told (report_in c.search.new.self) l c.args.word c.search.result c.quiet.result.taken c.quiet.result.ending
    c.quiet.ensures.taken c.quiet.ensures.ending (c.search.ensures.none l f)

pub returns-in-None-clause-held : goal.returns-in-None-clause-held
returns-in-None-clause-held c = λ l f.
    none-held c.search.new.self.words (l ++ low_cells c.quiet.result.taken c.args.word) c.quiet.result.ending
    c.quiet.ensures.ending

pub returns-in-Some-clause-held : goal.returns-in-Some-clause-held
returns-in-Some-clause-held c = c.go_on.ensures.held
