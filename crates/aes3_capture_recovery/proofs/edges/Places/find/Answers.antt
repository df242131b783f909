use Rattle.std.proofs.Common.{refl, sym, ap, ◌∙◌, ◌≡◌, ◌+◌, ◌-◌, ◌∷◌, arith, take}
use Rattle.std.proofs.lemmas.List.{take_more_set}
use Rattle.aes3_level.specs.Words.{level_of}
use Rattle.aes3_capture_recovery.specs.Endings.{level_if}
use Rattle.aes3_capture_recovery.proofs.Turning.{bool-bit, level-bool, level-next, places-more, turns-none}
use Rattle.aes3_capture_recovery.proofs.edges.Places.find.Goals as goal

pub loop-i-init : goal.loop-i-init
loop-i-init c = record {
  most = omega arith;
  bit = let e = c.from-before.ensures in let b = bool-bit c.args.high in omega (arith, e, b);
  level = ap level_of c.from-before.ensures ∙ level-bool c.args.high;
  places = take_more_set c.args.self.now.places 0 _ (omega arith)
      ∙ ap (λ l. (128 - c.args.waiting) ∷ l) (sym (turns-none (level_if c.args.high) 128));
  runs = refl;
}

pub loop-i-preserved : goal.loop-i-preserved
loop-i-preserved c =
    let v = c.loop-i.invariant in
    let put = c.put_places-count.ensures in
    let most = v.most in
    let within = c.loop-i-test.true in
    let same : c.put_places-count.result - 1 + 1 ≡ c.put_places-count.result = omega (arith, put) in
    record {
      most = omega (arith, most, put);
      bit = omega arith;
      level = level-next (level_if c.args.high) c.args.words.now c.loop-i.i within
          (let f = c.type_inv.words c.loop-i.i in omega (arith, f));
      places = ap (λ n. take n c.put_places-count.new.places) same ∙ put.written
          ∙ places-more (128 - c.args.waiting) (level_if c.args.high) c.args.words.now _ c.loop-i.i c.loop-i.before within
          v.bit v.level v.places;
      runs = v.runs;
    }
