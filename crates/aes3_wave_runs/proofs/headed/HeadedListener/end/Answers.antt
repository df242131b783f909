use Rattle.std.proofs.Common.{Err, ap₂, sym, subst, ◌∙◌, ◌++◌}
use Rattle.std.proofs.lemmas.Result.{IfOk-weaker, err_from_is_err_and}
use Rattle.aes3_cell.proofs.Growing.{front-is, front-more, grew-is}
use Rattle.aes3_cell.proofs.Writing.{wrote-behind, wrote-is}
use Rattle.aes3_lock_runs.specs.Listening.{reports_in}
use Rattle.aes3_wave_runs.specs.HeadedSamples.{IsOpened, close_of, open_after, opened_after}
use Rattle.aes3_wave_runs.specs.ToWav.{first_given}
use Rattle.aes3_wave_runs.proofs.HeadedSamples.{close-is, ends-headed, opened-next}
use Rattle.aes3_wave_runs.proofs.headed.HeadedListener.end.Goals as goal

pub returns-in_err-open-clause-wrote : goal.returns-in_err-open-clause-wrote
returns-in_err-open-clause-wrote g c =
    let k = c.args.self.now in
    let m = g.L.GivenBlocks.marked in
    let y = reports_in c.args.lock.now c.args.ending in
    let w = g.L.Listener.writes k.samples in
    let error = err_from_is_err_and c.from_residual.result c.from_residual.ensures.1 in
    λ d h q.
    let b = first_given c.gives_marked.result y in
    rw (error.1, error.2)
    (wrote-is (ap₂ (λ t s. opened_after k.header.depth k.header.rate t (first_given s y)
    ++ (close_of k.header.depth k.header.rate (open_after t (first_given s y)) ++ w.ends d)) q.0.is c.gives_marked.ensures
    ∙ ends-headed m k.header.depth k.header.rate w q.1 d y h.told)
    (record {
      grew = tt;
      no_failure = tt;
      err = (
        c.in_err-open.ensures.wrote.err.0,
        front-more c.in_err-open.ensures.wrote.err.1
            (close_of k.header.depth k.header.rate (open_after k.header.is_written b) ++ w.ends d),
      );
    }))

pub returns-in_err-close-clause-wrote : goal.returns-in_err-close-clause-wrote
returns-in_err-close-clause-wrote g c =
    let k = c.args.self.now in
    let m = g.L.GivenBlocks.marked in
    let y = reports_in c.args.lock.now c.args.ending in
    let w = g.L.Listener.writes k.samples in
    let e = c.in_ok-open.ensures in
    let error = err_from_is_err_and c.from_residual-in_err-close.result c.from_residual-in_err-close.ensures.1 in
    λ d h q.
    let b = first_given c.gives_marked.result y in
    rw (error.1, error.2)
    (wrote-is (ap₂ (λ t s. opened_after k.header.depth k.header.rate t (first_given s y)
    ++ (close_of k.header.depth k.header.rate (open_after t (first_given s y)) ++ w.ends d)) q.0.is c.gives_marked.ensures
    ∙ ends-headed m k.header.depth k.header.rate w q.1 d y h.told)
    (wrote-behind (Err c.in_err-close.field-0.0) e.wrote.no_failure e.wrote.grew
    (record {
      grew = tt;
      no_failure = tt;
      err = (
        c.in_err-close.ensures.err.0,
        front-more (front-is (close-is e.depth e.rate e.is_written) c.in_err-close.ensures.err.1) (w.ends d),
      );
    })))

pub returns-clause-done : goal.returns-clause-done
returns-clause-done g c =
    let k = c.args.self.now in
    let m = g.L.GivenBlocks.marked in
    let new = c.open.new.self in
    let y = reports_in c.args.lock.now c.args.ending in
    let e = c.in_ok-open.ensures in
    IfOk-weaker c.end.result _ _ (λ u done d h q. (
      subst (IsOpened m new) (sym h.told) (opened-next m k.header new _ y c.gives_marked.ensures e.is_written e.named q.0),
      done d h q.2,
    )) c.end.ensures.done

pub returns-clause-wrote : goal.returns-clause-wrote
returns-clause-wrote g c =
    let k = c.args.self.now in
    let m = g.L.GivenBlocks.marked in
    let y = reports_in c.args.lock.now c.args.ending in
    let w = g.L.Listener.writes k.samples in
    let e = c.in_ok-open.ensures in
    λ d h q.
    let b = first_given c.gives_marked.result y in
    wrote-is (ap₂ (λ t s. opened_after k.header.depth k.header.rate t (first_given s y)
    ++ (close_of k.header.depth k.header.rate (open_after t (first_given s y)) ++ w.ends d)) q.0.is c.gives_marked.ensures
    ∙ ends-headed m k.header.depth k.header.rate w q.1 d y h.told)
    (wrote-behind c.end.result e.wrote.no_failure e.wrote.grew
    (wrote-behind c.end.result c.in_ok-close.ensures.no_failure
    (grew-is (close-is e.depth e.rate e.is_written) c.in_ok-close.ensures.grew) (c.end.ensures.wrote d h q.2)))
