use Rattle.std.proofs.Common.{◌++◌}
use Rattle.aes3_capture_recovery.specs.Levels.{levels_of_samples}
use Rattle.aes3_capture_recovery.proofs.Followed.{gives-ok}
use Rattle.aes3_capture_recovery.proofs.Joining.{joined-gives, lasting-kept}
use Rattle.aes3_capture_recovery.proofs.Telling.{ok-map}
use Rattle.aes3_capture_recovery.proofs.recovery_run.feed.Goals as goal

pub returns-then-piece-lt-BLOCK-clause-mean : goal.returns-then-piece-lt-BLOCK-clause-mean
returns-then-piece-lt-BLOCK-clause-mean g c =
    λ bit was is equal room some begun front first before seen same other_mean displaced cells w follows captured.
    gives-ok c.feed_chunks.result (g.T.Sink.taken c.feed_chunks.new.sink) begun front c.feed_chunks.new.recovery.line first before
    (seen ++ levels_of_samples c.args.unit c.args.piece.now) same other_mean displaced cells
    (ok-map c.feed_chunks.result _ _ (λ t. t.follows was is equal room some begun front first before seen w)
    (c.feed_chunks.ensures.took bit)) follows captured

pub returns-then-piece-lt-BLOCK-clause-joined : goal.returns-then-piece-lt-BLOCK-clause-joined
returns-then-piece-lt-BLOCK-clause-joined g c = λ bit is one setting seen first counts a l.
    ok-map c.feed_chunks.result _ _
    (λ t. joined-gives (g.T.Sink.taken c.feed_chunks.new.sink) setting (seen ++ levels_of_samples c.args.unit c.args.piece.now)
    c.feed_chunks.new.recovery first counts is one l (t.awaits setting seen a))
    (c.feed_chunks.ensures.took bit)

pub returns-else-piece-lt-BLOCK-clause-mean : goal.returns-else-piece-lt-BLOCK-clause-mean
returns-else-piece-lt-BLOCK-clause-mean g c =
    λ bit was is equal room some begun front first before seen same other_mean displaced cells w follows captured.
    gives-ok c.feed_long.result (g.T.Sink.taken c.feed_long.new.sink) begun front c.feed_long.new.recovery.line first before
    (seen ++ levels_of_samples c.args.unit c.args.piece.now) same other_mean displaced cells
    (ok-map c.feed_long.result _ _ (λ t. t.follows was is equal room some begun front first before seen w)
    (c.feed_long.ensures.took bit)) follows captured

pub returns-else-piece-lt-BLOCK-clause-joined : goal.returns-else-piece-lt-BLOCK-clause-joined
returns-else-piece-lt-BLOCK-clause-joined g c = λ bit is one setting seen first counts a l.
    ok-map c.feed_long.result _ _
    (λ t. joined-gives (g.T.Sink.taken c.feed_long.new.sink) setting (seen ++ levels_of_samples c.args.unit c.args.piece.now)
    c.feed_long.new.recovery first counts is one l (t.awaits setting seen a))
    (c.feed_long.ensures.took bit)

pub returns-then-piece-lt-BLOCK-clause-lasts : goal.returns-then-piece-lt-BLOCK-clause-lasts
returns-then-piece-lt-BLOCK-clause-lasts g c = λ bit setting seen first counts a l.
    ok-map c.feed_chunks.result _ _
    (λ t. lasting-kept (g.T.Sink.taken c.feed_chunks.new.sink) setting (seen ++ levels_of_samples c.args.unit c.args.piece.now)
    c.feed_chunks.new.recovery first counts l (t.awaits setting seen a))
    (c.feed_chunks.ensures.took bit)

pub returns-else-piece-lt-BLOCK-clause-lasts : goal.returns-else-piece-lt-BLOCK-clause-lasts
returns-else-piece-lt-BLOCK-clause-lasts g c = λ bit setting seen first counts a l.
    ok-map c.feed_long.result _ _
    (λ t. lasting-kept (g.T.Sink.taken c.feed_long.new.sink) setting (seen ++ levels_of_samples c.args.unit c.args.piece.now)
    c.feed_long.new.recovery first counts l (t.awaits setting seen a))
    (c.feed_long.ensures.took bit)
