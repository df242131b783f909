use Rattle.std.proofs.Common.{refl, ◌∙◌, ◌++◌, ap, not}
use Rattle.aes3_capture_recovery.specs.Runs.{levels_in}
use Rattle.aes3_capture_recovery.proofs.Followed.{followed-piece, followed-edge, followed-rest, gives-ok, captured-late}
use Rattle.aes3_capture_recovery.proofs.line_follower.LineFollower.take.Goals as goal

pub loop-run-init : goal.loop-run-init
loop-run-init g c = record {
  quiet = refl;
  followed = λ begun front first before levels w.
      followed-piece (g.T.Sink.taken c.args.sink.now) begun front c.args.self.now first before levels
      (levels_in c.args.piece) w;
}

pub loop-run-preserved : goal.loop-run-preserved
loop-run-preserved g c =
    let old = c.loop-run.self in
    let mid = c.next_edge.new.self in
    record {
      quiet = c.in_ok-tell.ensures.no_failure ∙ c.loop-run.invariant.quiet;
      followed = λ begun front first before levels w.
          followed-edge old mid c.tell.new.self c.loop-run.sink c.tell.new.sink tt begun front first before
          (levels ++ levels_in c.args.piece) c.loop-run.left c.next_edge.new.piece c.in-Some.run' c.loop-run.left.few
          c.in-Some.ensures.edge c.next_edge.ensures.follower c.next_edge.ensures.queue
          (not c.is_high-high.result) (ap not c.is_high-high.ensures) c.in_ok-tell.ensures.told
          (c.loop-run.invariant.followed begun front first before levels w);
    }

pub returns-clause-followed : goal.returns-clause-followed
returns-clause-followed g c = λ begun front first before levels w.
    let old = c.loop-run.self in
    let mid = c.next_edge.new.self in
    followed-rest old mid c.rest.new.self c.loop-run.sink c.rest.new.sink c.rest.result begun front first before
    (levels ++ levels_in c.args.piece) c.loop-run.left c.loop-run.left.few c.in_default.ensures.rest
    c.next_edge.ensures.follower c.next_edge.ensures.queue c.rest.ensures.told
    (c.loop-run.invariant.followed begun front first before levels w)

pub returns-clause-mean : goal.returns-clause-mean
returns-clause-mean g c = λ begun front first before levels same other_mean displaced cells w follows captured.
    gives-ok c.rest.result (g.T.Sink.taken c.rest.new.sink) begun front c.rest.new.self first before
    (levels ++ levels_in c.args.piece) same other_mean displaced cells
    (returns-clause-followed g c begun front first before levels w) follows captured

pub returns-clause-late : goal.returns-clause-late
returns-clause-late g c =
    λ begun front first before levels same other_mean displaced spread late later cells w follows narrow above below s
    o captured.
    gives-ok c.rest.result (g.T.Sink.taken c.rest.new.sink) begun front c.rest.new.self first before
    (levels ++ levels_in c.args.piece) same other_mean displaced cells
    (returns-clause-followed g c begun front first before levels w) follows
    (captured-late first before cells (levels ++ levels_in c.args.piece) same other_mean displaced spread late later
    narrow above below s o captured)
