use Rattle.std.proofs.Common.{◌∙◌, refl, sym, ap, arith, length, take, length-drop}
use Rattle.std.proofs.lemmas.List.{take_rest}
use Rattle.aes3_capture_recovery.specs.Levels.{levels_of_samples}
use Rattle.aes3_capture_recovery.proofs.SampleLevels.{levels-more, levels-nothing, levels-rest}
use Rattle.aes3_capture_recovery.proofs.Taking.{took-is, took-join, took-none}
use Rattle.aes3_capture_recovery.proofs.Telling.{ok-map}
use Rattle.aes3_capture_recovery.proofs.recovery_run.feed_blocks.Goals as goal

pub loop-block-init : goal.loop-block-init
loop-block-init g c = record {
  within = omega arith;
  places = omega arith;
  quiet = refl;
  took = λ bit. took-is (sym (levels-nothing c.args.unit)) (took-none g.T.Sink.taken c.args.recovery.now c.args.sink.now);
}

pub loop-block-preserved : goal.loop-block-preserved
loop-block-preserved g c =
    let piece = c.args.piece.now in
    let at = c.loop-block.at in
    let v = c.loop-block.invariant in
    let first = c.in-Some.ensures.cases in
    let rest = take_rest piece at in
    let long = ap length rest ∙ length-drop at piece in
    let enough = first.enough in
    let places = v.places in
    record {
      within = omega (arith, long, enough);
      places = omega (arith, places);
      quiet = c.in_ok-feed_block.ensures.no_failure ∙ v.quiet;
      took = λ bit. took-join
          (sym (levels-more c.args.unit piece at 4096 v.within v.places))
          (v.took bit)
          (took-is (ap (levels_of_samples c.args.unit) (first.same ∙ ap (take 4096) rest)) (c.in_ok-feed_block.ensures.took bit));
    }

pub returns-clause-took : goal.returns-clause-took
returns-clause-took g c =
    let piece = c.args.piece.now in
    let at = c.loop-block.at in
    let v = c.loop-block.invariant in
    λ bit. ok-map c.feed_chunks.result _ _
    (λ t. took-join (sym (levels-rest c.args.unit piece at v.within v.places)) (v.took bit)
    (took-is (ap (levels_of_samples c.args.unit) (take_rest piece at)) t))
    (c.feed_chunks.ensures.took bit)
