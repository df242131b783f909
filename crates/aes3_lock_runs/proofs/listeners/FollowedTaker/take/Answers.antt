use Rattle.std.proofs.Common.{Ok, Err, arith}
use Rattle.std.proofs.lemmas.Result.{err_from_is_err_and}
use Rattle.aes3_level.specs.Remaining.{all_of}
use Rattle.aes3_lock.specs.Reports.{decided}
use Rattle.aes3_lock.proofs.Tallies.{few-decided}
use Rattle.aes3_lock.proofs.TakenCells.{took-some}
use Rattle.aes3_input.specs.Running.{movement_of}
use Rattle.aes3_input.proofs.Handing.{some-ran}
use Rattle.aes3_lock_runs.proofs.Listening.{few-seen, heard, heard-err, heard-ok, state_by}
use Rattle.aes3_lock_runs.proofs.listeners.FollowedTaker.take.Goals as goal

pub hear-requires-clause-few : goal.hear-requires-clause-few
hear-requires-clause-few g c =
    let h = c.requires.following in few-seen c.take-ending.ensures.took h.0 h.2.0 h.1

pub hear-requires-clause-following : goal.hear-requires-clause-following
hear-requires-clause-following g c =
    let h = c.requires.following in
    let p = c.take-ending.ensures.took in
    (h.0, p.front, heard p c.args.self.now.tally h.0 h.2.0 h.2.1, h.2.2)

pub count-requires : goal.count-requires
count-requires g c =
    let h = c.requires.following in
    let f = few-decided h.0 in
    (decided h.0, omega (arith, h.1, f), h.2.1)

pub returns-in_err-hear : goal.returns-in_err-hear
returns-in_err-hear g c =
    let h = c.requires.following in
    let p = c.take-ending.ensures.took in
    let k = c.args.self.now in
    let m = c.hear.new.self in
    let e = err_from_is_err_and c.from_residual.result c.from_residual.ensures.1 in
    let sink = movement_of g.T.Sink.taken g.T.Sink.failed c.args.sink.now c.hear.new.sink in
    let new = state_by c.take-ending.new.self k.tally (g.L.Listener.writes m) (g.L.Listener.follows m)
    (g.L.Listener.finished m) in
    let wrote = c.in_err-hear.ensures.wrote in
    record {
      ran = rw e.1 (some-ran (state_by k.lock k.tally (g.L.Listener.writes k.listener) (g.L.Listener.follows k.listener)
          (g.L.Listener.finished k.listener)) new (all_of c.args.cells.now) p.front (all_of c.take-ending.new.cells) sink
          (Err c.in_err-hear.field-0.0) p.parts (took-some p (c.take-ending.ensures.some c.requires.some))
          (heard-err p k.tally (g.L.Listener.writes k.listener) (g.L.Listener.follows k.listener)
          (g.L.Listener.finished k.listener) new sink c.in_err-hear.field-0.0
          (λ a b q f. (wrote a b q f).err.1) (wrote h.0 p.front (heard p k.tally h.0 h.2.0 h.2.1) h.2.2).err.0));
    }

pub returns : goal.returns
returns g c =
    let h = c.requires.following in
    let p = c.take-ending.ensures.took in
    let k = c.args.self.now in
    let m = c.hear.new.self in
    let sink = movement_of g.T.Sink.taken g.T.Sink.failed c.args.sink.now c.hear.new.sink in
    let e = c.in_ok-hear.ensures in
    record {
      ran = some-ran (state_by k.lock k.tally (g.L.Listener.writes k.listener) (g.L.Listener.follows k.listener)
          (g.L.Listener.finished k.listener))
          (state_by c.take-ending.new.self c.count.new.tally (g.L.Listener.writes m) (g.L.Listener.follows m)
          (g.L.Listener.finished m)) (all_of c.args.cells.now) p.front (all_of c.take-ending.new.cells) sink
          (Ok tt) p.parts (took-some p (c.take-ending.ensures.some c.requires.some))
          (heard-ok p k.tally c.count.new.tally (g.L.Listener.writes k.listener) (g.L.Listener.writes m)
          (g.L.Listener.follows k.listener) (g.L.Listener.follows m) (g.L.Listener.finished k.listener)
          (g.L.Listener.finished m) sink c.count.ensures e.unchanged e.next (λ a b q f. (e.wrote a b q f).grew)
          (e.wrote h.0 p.front (heard p k.tally h.0 h.2.0 h.2.1) h.2.2).no_failure);
    }
