use Rattle.std.proofs.Common.{◌∙◌, ap, ltb}
use Rattle.aes3_lock_gaps.specs.Gaps.{gaps}
use Rattle.aes3_info.specs.Facts.{gap_facts}
use Rattle.aes3_info.proofs.Counting.{whole-found}
use Rattle.aes3_info.proofs.inspector.Inspector.gaps_before.Goals as goal

pub returns-in-Whole : goal.returns-in-Whole
returns-in-Whole c =
    λ r h. rw c.in-Whole.is (c.all.ensures
    ∙ ap (λ k. gap_facts (gaps k c.args.self.now.place c.in-Whole.at)) (ap (ltb 0) h ∙ whole-found r))
