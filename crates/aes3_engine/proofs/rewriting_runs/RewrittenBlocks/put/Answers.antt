use Rattle.std.proofs.Common.{ℕ, List, map, take, [], ◌∷◌, ◌++◌, ap, subst}
use Rattle.aes3_slot.specs.ReadWords.{read_words}
use Rattle.aes3_slot.specs.Slots.{payload_len}
use Rattle.aes3_lock.specs.declared.report.Ending.{Ending}
use Rattle.aes3_lock.specs.Following.{report_in}
use Rattle.aes3_lock.specs.Reports.{wholes}
use Rattle.aes3_engine.specs.RewritingRuns.{AreMet}
use Rattle.aes3_engine.proofs.RewritingRuns.{met-whole, met-other}
use Rattle.aes3_engine.proofs.rewriting_runs.RewrittenBlocks.put.Goals as goal

pub returns-in-Whole-clause-met : goal.returns-in-Whole-clause-met
returns-in-Whole-clause-met g c = λ r h.
    met-whole c.put_cells.new.self.met r (report_in c.args.lock.now c.args.ending)
    (ap (λ (e : Ending). report_in c.args.lock.now e) c.in-Whole.is)
    (subst (λ (words : List ℕ). AreMet c.put_cells.new.self.met
    (wholes r ++ map (take payload_len) (read_words words) ∷ [])) c.gathered_cells.ensures
    (c.put_cells.ensures.met (wholes r) h))

pub returns-in-Marked-clause-met : goal.returns-in-Marked-clause-met
returns-in-Marked-clause-met g c = λ r h.
    met-other c.args.self.now.met r (report_in c.args.lock.now c.args.ending)
    (ap (λ (e : Ending). wholes (report_in c.args.lock.now e ∷ [])) c.in-Marked.is) h

pub returns-in-Fault-clause-met : goal.returns-in-Fault-clause-met
returns-in-Fault-clause-met g c = λ r h.
    met-other c.args.self.now.met r (report_in c.args.lock.now c.args.ending)
    (ap (λ (e : Ending). wholes (report_in c.args.lock.now e ∷ [])) c.in-Fault.is) h

pub returns-in-Unfinished-clause-met : goal.returns-in-Unfinished-clause-met
returns-in-Unfinished-clause-met g c = λ r h.
    met-other c.args.self.now.met r (report_in c.args.lock.now c.args.ending)
    (ap (λ (e : Ending). wholes (report_in c.args.lock.now e ∷ [])) c.in-Unfinished.is) h
