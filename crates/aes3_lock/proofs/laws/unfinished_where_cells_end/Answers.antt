use Rattle.std.proofs.Common.{ap, ◌∙◌, subst, sym, ◌<◌}
use Rattle.aes3_lock.specs.Outcomes.{unfinished}
use Rattle.aes3_frame.specs.Blocks.{block_len}
use Rattle.aes3_lock.proofs.Refutations.{unfinished-viable, viable-unfinished}
use Rattle.aes3_lock.proofs.laws.unfinished_where_cells_end.Goals as goal

pub returns : goal.returns
returns c = λ n c. (
  λ o. let r = unfinished-viable c n o in (r.0, sym r.1, r.2),
  λ h. viable-unfinished c (subst (λ k. k < block_len) (sym h.1) h.2) h.0 ∙ ap unfinished h.1,
)
