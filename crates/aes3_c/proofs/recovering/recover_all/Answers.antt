use Rattle.std.proofs.Common.{◌∙◌, refl, sym, ap, arith, length, take, length-drop}
use Rattle.std.proofs.lemmas.List.{take_rest}
use Rattle.aes3_capture_recovery.specs.Levels.{levels_of_samples}
use Rattle.aes3_capture_recovery.proofs.SampleLevels.{levels-more, levels-nothing, levels-rest}
use Rattle.aes3_capture_recovery.proofs.Taking.{took-is, took-join, took-none}
use Rattle.aes3_c.proofs.Captures.{ran-over}
use Rattle.aes3_c.proofs.recovering.recover_all.Goals as goal

pub loop-piece-init : goal.loop-piece-init
loop-piece-init g c = record {
  within = omega arith;
  places = omega arith;
  quiet = refl;
  took = λ bit. took-is (sym (levels-nothing c.args.unit)) (took-none g.T.Sink.taken c.args.recovery.now c.args.sink.now);
}

pub loop-piece-preserved : goal.loop-piece-preserved
loop-piece-preserved g c =
    let samples = c.args.samples.now in
    let at = c.loop-piece.at in
    let v = c.loop-piece.invariant in
    let first = c.in-Some.ensures.cases in
    let rest = take_rest samples at in
    let long = ap length rest ∙ length-drop at samples in
    let enough = first.enough in
    let places = v.places in
    record {
      within = omega (arith, long, enough);
      places = omega (arith, places);
      quiet = c.in_ok-feed.ensures.no_failure ∙ v.quiet;
      took = λ bit. took-join
          (sym (levels-more c.args.unit samples at 4032 v.within v.places))
          (v.took bit)
          (took-is (ap (levels_of_samples c.args.unit) (first.same ∙ ap (take 4032) rest)) (c.in_ok-feed.ensures.took bit));
    }

pub returns-clause-ran : goal.returns-clause-ran
returns-clause-ran g c =
    let samples = c.args.samples.now in
    let at = c.loop-piece.at in
    let v = c.loop-piece.invariant in
    λ bit. ran-over c.finish.result c.feed-2.new.recovery c.finish.new.self c.feed-2.new.sink c.finish.new.sink
    (took-join (sym (levels-rest c.args.unit samples at v.within v.places)) (v.took bit)
    (took-is (ap (levels_of_samples c.args.unit) (take_rest samples at)) (c.in_ok-feed-2.ensures.took bit)))
    c.finish.ensures.samples c.finish.ensures.recovered c.finish.ensures.up c.finish.ensures.begun c.finish.ensures.writes
    c.finish.ensures.kept
