use Rattle.std.proofs.Common.{[], ◌∷◌, ◌++◌, subst}
use Rattle.aes3_engine.specs.RewritingRuns.{AreMet}
use Rattle.aes3_engine.proofs.rewriting_runs.RewrittenBlocks.put_cells.Goals as goal

pub returns-clause-met : goal.returns-clause-met
returns-clause-met g c = λ bs h.
    subst (λ b. AreMet c.add.new.self (bs ++ b ∷ [])) c.block-block.ensures (c.add.ensures bs h)
