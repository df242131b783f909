use Rattle.std.proofs.Common.{◌≤◌, ◌∙◌, [], refl, ap, arith, length, take}
use Rattle.std.specs.List.{flat_map}
use Rattle.aes3_level.specs.Words.{word_cells}
use Rattle.aes3_capture_recovery.specs.Taking.{Took}
use Rattle.aes3_capture_recovery.proofs.SampleLevels.{levels-of-words}
use Rattle.aes3_capture_recovery.proofs.Taking.{some_levels, took-at, took-is, took-join, took-none, took-some}
use Rattle.aes3_capture_recovery.proofs.Telling.{ok-map}
use Rattle.aes3_capture_recovery.proofs.recovery_run.feed_block.Goals.{then-is_quick+in_ok-take_words+else-branch, else-is_quick+else-is_still}
use Rattle.aes3_capture_recovery.proofs.recovery_run.feed_block.Goals as goal

pub returns-then-branch-clause-took : goal.returns-then-branch-clause-took
returns-then-branch-clause-took g c =
    let few = c.words_of-count.ensures.few in
    let words = c.words_of-count.result.0 in
    let count = c.words_of-count.result.1 in
    let within : count ≤ length words = omega (arith, few) in
    λ bit. took-is
    (ap (λ b. some_levels b (flat_map word_cells (take count words))) c.if-branch.true
    ∙ levels-of-words c.args.unit c.args.block.now words count bit within c.words_of-count.ensures.levels)
    (took-some g.T.Sink.taken c.args.recovery.now c.take_words.new.self c.args.sink.now c.take_words.new.sink
    (flat_map word_cells (take count words)) c.in_ok-take_words.field-0
    c.in_ok-take_words.ensures.recovered c.in_ok-take_words.ensures.awaits c.in_ok-take_words.ensures.up
    c.in_ok-take_words.ensures.some c.in_ok-take_words.ensures.begun c.in_ok-take_words.ensures.follows
    c.in_ok-take_words.ensures.stays c.in_ok-take_words.ensures.leaves)

pub returns-clause-took : goal.returns-clause-took
returns-clause-took g c =
    let so_far : Took g.T.Sink.taken c.args.recovery.now c.if-is_quick.recovery c.args.sink.now c.if-is_quick.sink []
    = elim c.if-is_quick.branch [
      | then-is_quick+in_ok-take_words+else-branch w ↦
          took-at w.recovery-is w.sink-is
          (took-is (ap (λ b. some_levels b (flat_map word_cells (take w.words_of-count.result.1 w.words_of-count.result.0)))
          w.if-branch.false)
          (took-some g.T.Sink.taken c.args.recovery.now w.take_words.new.self c.args.sink.now w.take_words.new.sink
          (flat_map word_cells (take w.words_of-count.result.1 w.words_of-count.result.0)) w.in_ok-take_words.field-0
          w.in_ok-take_words.ensures.recovered w.in_ok-take_words.ensures.awaits w.in_ok-take_words.ensures.up
          w.in_ok-take_words.ensures.some w.in_ok-take_words.ensures.begun w.in_ok-take_words.ensures.follows
          w.in_ok-take_words.ensures.stays w.in_ok-take_words.ensures.leaves))
      | else-is_quick+else-is_still w ↦
          took-at w.recovery-is w.sink-is (took-none g.T.Sink.taken c.args.recovery.now c.args.sink.now)
    ] in
    λ bit. ok-map c.feed_chunks.result _ _ (λ t. took-join refl so_far t) (c.feed_chunks.ensures.took bit)
