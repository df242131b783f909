use Rattle.std.proofs.Common.{ap₂, ap₂, sym, subst, ◌∙◌, ◌++◌}
use Rattle.std.proofs.lemmas.Result.{err_from_is_err_and}
use Rattle.aes3_cell.proofs.Growing.{front-more}
use Rattle.aes3_cell.proofs.Writing.{wrote-behind, wrote-is}
use Rattle.aes3_input.specs.Taking.{behind}
use Rattle.aes3_lock_runs.specs.Listening.{reports_in}
use Rattle.aes3_wave_runs.specs.HeadedSamples.{IsOpened, IsQuiet, opened_after}
use Rattle.aes3_wave_runs.specs.ToWav.{first_given}
use Rattle.aes3_wave_runs.proofs.HeadedSamples.{behind-headed, ok-two, opened-next}
use Rattle.aes3_wave_runs.proofs.headed.HeadedListener.hear.Goals as goal

pub returns-in_err-open-clause-wrote : goal.returns-in_err-open-clause-wrote
returns-in_err-open-clause-wrote g c =
    let k = c.args.self.now in
    let m = g.L.GivenBlocks.marked in
    let y = reports_in c.args.lock.now c.args.ending in
    let w = g.L.Listener.writes k.samples in
    let error = err_from_is_err_and c.from_residual.result c.from_residual.ensures.1 in
    λ d f h q.
    rw (error.1, error.2)
    (wrote-is (ap₂ (λ t s. opened_after k.header.depth k.header.rate t (first_given s y) ++ behind w d f) q.0.is
    c.gives_marked.ensures
    ∙ behind-headed m k.header.depth k.header.rate w q.1 d f y h.told)
    (record {
      grew = tt;
      no_failure = tt;
      err = (c.in_err-open.ensures.wrote.err.0, front-more c.in_err-open.ensures.wrote.err.1 (behind w d f));
    }))

pub returns-clause-next : goal.returns-clause-next
returns-clause-next g c =
    let k = c.args.self.now in
    let m = g.L.GivenBlocks.marked in
    let new = c.open.new.self in
    let y = reports_in c.args.lock.now c.args.ending in
    let e = c.in_ok-open.ensures in
    ok-two c.hear.result (λ same next d f h q. (
      subst (IsOpened m new) (sym h.told) (opened-next m k.header new _ y c.gives_marked.ensures e.is_written e.named q.0),
      subst (IsQuiet m) (sym same) q.1,
      next d f h q.2,
    )) c.hear.ensures.unchanged c.hear.ensures.next

pub returns-clause-wrote : goal.returns-clause-wrote
returns-clause-wrote g c =
    let k = c.args.self.now in
    let m = g.L.GivenBlocks.marked in
    let y = reports_in c.args.lock.now c.args.ending in
    let e = c.in_ok-open.ensures in
    let w = g.L.Listener.writes k.samples in
    λ d f h q.
    wrote-is (ap₂ (λ t s. opened_after k.header.depth k.header.rate t (first_given s y) ++ behind w d f) q.0.is
    c.gives_marked.ensures
    ∙ behind-headed m k.header.depth k.header.rate w q.1 d f y h.told)
    (wrote-behind c.hear.result e.wrote.no_failure e.wrote.grew (c.hear.ensures.wrote d f h q.2))
