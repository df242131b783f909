use Rattle.std.proofs.Common.{◌+◌, ◌≤◌, ◌<◌, length, refl, arith}
use Rattle.aes3_level.specs.Remaining.{all_of}
use Rattle.aes3_input.specs.Running.{movement_of}
use Rattle.aes3_input.proofs.Handing.{here-ran}
use Rattle.aes3_spoil.specs.Spoiling.{spoiler_state}
use Rattle.aes3_spoil.proofs.spoiling.SpoilerTaker.take.Goals as goal

-- cells without errors
pub returns-then-clear-gt0 : goal.returns-then-clear-gt0
returns-then-clear-gt0 g c =
    let cells = c.begin_word.new.self in
    let n = c.min-clear.result in
    let m = c.min-clear.ensures in
    let h = c.here.ensures.len in
    let f = c.from.ensures in
    let some = c.if-clear-gt0.true in
    record {
      ran = here-ran (spoiler_state c.args.self.now) (spoiler_state c.take_clear.new.self) (all_of c.args.cells.now)
          cells.here cells.next c.word-word.result n
          (movement_of g.T.Sink.taken g.T.Sink.failed c.args.sink.now c.take_clear.new.sink) c.take_clear.result _ _
          c.begin_word.ensures.all c.word-word.ensures (omega (arith, some)) (omega (arith, m, h, f))
          c.skip.ensures.here c.skip.ensures.next c.take_clear.ensures;
    }

-- one cell
pub returns-else-clear-gt0 : goal.returns-else-clear-gt0
returns-else-clear-gt0 g c =
    let cells = c.begin_word.new.self in
    let begun = c.begin_word.ensures.begun c.requires.some in
    record {
      ran = here-ran (spoiler_state c.args.self.now) (spoiler_state c.take_one.new.self) (all_of c.args.cells.now)
          cells.here cells.next c.word-word.result 1
          (movement_of g.T.Sink.taken g.T.Sink.failed c.args.sink.now c.take_one.new.sink) c.take_one.result _ _
          c.begin_word.ensures.all c.word-word.ensures (omega arith) (omega (arith, begun))
          c.skip-else-clear-gt0.ensures.here c.skip-else-clear-gt0.ensures.next c.take_one.ensures;
    }
