use Rattle.std.proofs.Common.{◌≡◌, ◌+◌, ◌-◌, ◌++◌, ◌∙◌, ap, arith, drop, length, sym, take}
use Rattle.std.proofs.Math.Seq.{take-add}
use Rattle.std.proofs.lemmas.List.{length-drop, length-take-le, take-append-drop, take_all}
use Rattle.std.proofs.lemmas.Result.{err_from_is_err_and}
use Rattle.aes3_level.specs.Cells.{after, line}
use Rattle.aes3_level.proofs.Runs.{line-append}
use Rattle.aes3_capture_recovery.proofs.Queueing.{put-is, puts-chain, puts-is, puts-stop}
use Rattle.aes3_capture_recovery.proofs.RunsToEnd.{after-sixteen-more, line-more}
use Rattle.aes3_capture_recovery.proofs.line_follower.LineFollower.put_runs.Goals as goal

pub loop-at-preserved : goal.loop-at-preserved
loop-at-preserved g c =
    let v = c.loop-at.invariant in
    let runs = c.args.runs.now in
    let at = c.loop-at.at in
    let room = c.loop-at-test.true in
    let n : at + 16 - at ≡ 16 = omega arith in
    let part = take (at + 16 - at) (drop at runs) in
    let split : take (at + 16) runs ≡ take at runs ++ part
    = take-add at 16 runs ∙ ap (λ k. take at runs ++ take k (drop at runs)) (sym n) in
    let left = length-drop at runs in
    let sixteen : length part ≡ 16
    = length-take-le (at + 16 - at) (drop at runs) (omega (arith, left, room)) ∙ n in
    record {
      quiet = c.in_ok-put_some.ensures.no_failure ∙ v.quiet;
      within = room;
      cells = λ before e.
          puts-is (sym (line-more before (take at runs) part (v.after before)) ∙ ap (line before) (sym split))
          (puts-chain c.args.self.now.queue c.loop-at.self.queue c.put_some.new.self.queue c.args.sink.now c.loop-at.sink
          c.put_some.new.sink _ _ _ (v.cells before e) (put-is tt (c.in_ok-put_some.ensures.cells before e)));
      after = λ before. ap (after before) split ∙ after-sixteen-more before (take at runs) part sixteen (v.after before);
      edges = c.in_ok-put_some.ensures.edges ∙ v.edges;
      follower = c.in_ok-put_some.ensures.follower ∙ v.follower;
    }

pub returns-in_err-put_some-clause-cells : goal.returns-in_err-put_some-clause-cells
returns-in_err-put_some-clause-cells g c = λ before e.
    let v = c.loop-at.invariant in
    let runs = c.args.runs.now in
    let at = c.loop-at.at in
    let n : at + 16 - at ≡ 16 = omega arith in
    let part = take (at + 16 - at) (drop at runs) in
    let front = take at runs ++ part in
    let all : front ++ drop (at + 16) runs ≡ runs
    = ap (λ k. (take at runs ++ take k (drop at runs)) ++ drop (at + 16) runs) n
    ∙ ap (λ x. x ++ drop (at + 16) runs) (sym (take-add at 16 runs)) ∙ take-append-drop (at + 16) runs in
    let error = err_from_is_err_and c.from_residual.result c.from_residual.ensures.1 in
    rw error.1 (puts-is
    (ap (λ x. x ++ line (after before front) (drop (at + 16) runs))
    (sym (line-more before (take at runs) part (v.after before)))
    ∙ sym (line-append before front (drop (at + 16) runs)) ∙ ap (line before) all)
    (puts-stop c.args.self.now.queue c.put_some.new.self.queue c.args.sink.now c.put_some.new.sink _ _ _ _
    (puts-chain c.args.self.now.queue c.loop-at.self.queue c.put_some.new.self.queue c.args.sink.now c.loop-at.sink
    c.put_some.new.sink _ _ _ (v.cells before e) (c.in_err-put_some.ensures.cells before e))))

pub returns-clause-cells : goal.returns-clause-cells
returns-clause-cells g c = λ before e.
    let v = c.loop-at.invariant in
    let runs = c.args.runs.now in
    let at = c.loop-at.at in
    let rest = take (length runs - at) (drop at runs) in
    let left = length-drop at runs in
    let all : rest ≡ drop at runs = take_all (length runs - at) (drop at runs) (omega (arith, left)) in
    puts-is
    (sym (line-more before (take at runs) rest (v.after before))
    ∙ ap (λ x. line before (take at runs ++ x)) all ∙ ap (line before) (take-append-drop at runs))
    (puts-chain c.args.self.now.queue c.loop-at.self.queue c.put_some-2.new.self.queue c.args.sink.now c.loop-at.sink
    c.put_some-2.new.sink _ _ _ (v.cells before e) (c.put_some-2.ensures.cells before e))
