use Rattle.std.proofs.Common.{ℕ, List, ◌≡◌, ◌<◌, ◌-◌, ◌++◌, ◌∙◌, refl, replicate, sym, ap, ap₂, arith, length, take, drop, length-append, length-drop}
use Rattle.std.proofs.lemmas.List.{take_rest}
use Rattle.aes3_level.specs.Words.{low_cells}
use Rattle.aes3_capture_recovery.specs.Levels.{levels_of_samples, samples_in}
use Rattle.aes3_capture_recovery.proofs.SampleLevels.{levels-more, levels-nothing, levels-of-word, levels-of-front, levels-rest}
use Rattle.aes3_capture_recovery.proofs.SampleLevels.{samples-rest}
use Rattle.aes3_capture_recovery.proofs.Taking.{took-is, took-join, took-none, took-rest}
use Rattle.aes3_capture_recovery.proofs.recovery_run.feed_chunks.Goals as goal

pub loop-octets-init : goal.loop-octets-init
loop-octets-init g c = record {
  within = omega arith;
  places = omega arith;
  quiet = refl;
  took = λ bit. took-is (sym (levels-nothing c.args.unit)) (took-none g.T.Sink.taken c.args.recovery.now c.args.sink.now);
}

pub loop-octets-preserved : goal.loop-octets-preserved
loop-octets-preserved g c =
    let piece = c.args.piece.now in
    let at = c.loop-octets.at in
    let v = c.loop-octets.invariant in
    let first = c.in-Some.ensures.cases in
    let rest = take_rest piece at in
    let long = ap length rest ∙ length-drop at piece in
    let enough = first.enough in
    let octets = c.in-Some.octets.now in
    let is : octets ≡ take 64 (drop at piece) = first.same ∙ ap (take 64) rest in
    let places = v.places in
    let are = c.levels_of-levels.ensures.levels in
    record {
      within = omega (arith, long, enough);
      places = omega (arith, places);
      quiet = c.in_ok-take.ensures.no_failure ∙ v.quiet;
      took = λ bit. took-join
          (sym (levels-more c.args.unit piece at 64 v.within v.places))
          (v.took bit)
          (took-is (ap₂ low_cells (omega arith) (omega arith)
          ∙ levels-of-word c.args.unit octets c.levels_of-levels.result.0 c.levels_of-levels.result.1 are.count (are.each bit)
          ∙ ap (levels_of_samples c.args.unit) is)
          (record {
            recovered = c.in_ok-take.ensures.recovered;
            awaits = c.in_ok-take.ensures.awaits;
            up = c.in_ok-take.ensures.up;
            some = c.in_ok-take.ensures.some;
            begun = c.in_ok-take.ensures.begun;
            follows = c.in_ok-take.ensures.follows;
            stays = c.in_ok-take.ensures.stays;
          }));
    }

pub returns-clause-took : goal.returns-clause-took
returns-clause-took g c =
    let piece = c.args.piece.now in
    let at = c.loop-octets.at in
    let v = c.loop-octets.invariant in
    let rest = take_rest piece at in
    let long = ap length rest in
    let n = length (take (length piece - at) (drop at piece)) in
    let none : n < 64 = c.in_default.ensures.cases in
    let zeros : List ℕ = replicate 64 0 in
    let more = drop n zeros in
    let are = c.levels_of-levels-2.ensures.levels in
    let is = ap (λ x. x ++ more) (c.copy_from_slice.ensures.after ∙ rest) in
    let both = length-append (drop at piece) more in
    let left = length-drop n zeros in
    let all : length zeros ≡ 64 = refl in
    let whole = ap length is ∙ omega (arith, both, left, all, long, none) in
    let samples = samples-rest c.args.unit n _ c.len.result _ c.min.result c.len.ensures.bits none whole are.count
    c.min.ensures in
    λ bit. took-rest c.take-2.result c.loop-octets.recovery c.take-2.new.self c.loop-octets.sink c.take-2.new.sink
    (ap₂ low_cells (omega arith) (omega arith)
    ∙ levels-of-front c.args.unit (drop at piece) more _ c.levels_of-levels-2.result.0 _ c.min.result is
    (samples.0 ∙ ap (samples_in c.args.unit) long) samples.1 bit are)
    (sym (levels-rest c.args.unit piece at v.within v.places)) (v.took bit)
    c.take-2.ensures.recovered c.take-2.ensures.awaits c.take-2.ensures.up c.take-2.ensures.some c.take-2.ensures.begun
    c.take-2.ensures.follows c.take-2.ensures.stays
