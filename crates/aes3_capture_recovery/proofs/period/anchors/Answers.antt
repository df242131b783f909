use Rattle.std.proofs.Common.{◌≡◌, ◌<◌, ◌+◌, ◌-◌, ◌*◌, ◌/◌, ◌∙◌, ap, arith, length, refl}
use Rattle.std.proofs.lemmas.List.{length-set}
use Rattle.aes3_capture_recovery.specs.Finding.{IsFirst}
use Rattle.aes3_capture_recovery.proofs.Lines.{anchors-more}
use Rattle.aes3_capture_recovery.proofs.Firsts.{ends-of, first-found, first-of, next-found, next-of}
use Rattle.aes3_capture_recovery.proofs.period.anchors.Goals.{then-g-eq0, else-g-eq0}
use Rattle.aes3_capture_recovery.proofs.period.anchors.Goals as goal

pub overflow_add-subframes : goal.overflow_add-subframes
overflow_add-subframes c =
    let few = c.loop-g.invariant.few in
    let within = c.loop-g-test.true in
    let count = c.div_ceil-count.ensures in
    let runs_few = c.requires.few in
    elim c.if-g-eq0.branch [
      | then-g-eq0 w ↦ let m = w.more-is in omega (arith, few, within, count, runs_few, m)
      | else-g-eq0 w ↦ let m = w.more-is in let b = w.subframes_in-more.ensures.bound in omega (arith, few, within, count, runs_few, m, b)
    ]

pub loop-g-preserved : goal.loop-g-preserved
loop-g-preserved c =
    let within = c.loop-g-test.true in
    let few = c.requires.few in
    let count = c.div_ceil-count.ensures in
    let v = c.loop-g.invariant in
    let long = v.long in
    let g = c.loop-g.g in
    let runs = c.args.runs.now in
    let less = v.few in
    let in_found : g < length c.loop-g.found = omega (arith, within, few, count, long) in
    record {
      long = length-set c.loop-g.found c.loop-g.g _ ∙ long;
      each = anchors-more c.loop-g.found c.loop-g.g _ _ in_found c.likeliest-run.ensures.within v.each;
      few = elim c.if-g-eq0.branch [
        | then-g-eq0 w ↦ let m = w.more-is in omega (arith, less, m)
        | else-g-eq0 w ↦ let m = w.more-is in let b = w.subframes_in-more.ensures.bound in omega (arith, less, m, b)
      ];
      so_far = λ narrow spread late later place s places line other captured six side some.
          let cells = captured.displaced.cells_count in
          let all = captured.many.count in
          let below : g < 4 = omega (arith, within, few, count) in
          let begin : c.min-begin.result ≡ 64 * g = let e = c.min-begin.ensures in omega (arith, e, cells, all, below) in
          let samples = c.samples_before-samples.ensures.value in
          let is : IsFirst place line runs (64 * g) c.likeliest-run.result c.samples_before-samples.result =
          first-of narrow spread late later place s places line runs c.args.longest (64 * g) c.likeliest-run.result
          c.samples_before-samples.result captured six (omega (arith, below))
          (λ i. rw begin at (c.likeliest-run.ensures.longest s i side)) samples in
          elim c.if-g-eq0.branch [
            | then-g-eq0 w ↦
                let m = w.more-is in
                let zero = w.if-g-eq0.true in
                first-found place line runs c.loop-g.found g _ other zero in_found is (omega (arith, less, m, zero))
            | else-g-eq0 w ↦
                let not_zero = w.if-g-eq0.false in
                let some_before : 0 < g = omega (arith, not_zero) in
                let from = v.so_far narrow spread late later place s places line other captured six side some_before in
                let start : 64 * (g - 1) + 64 ≡ 64 * g = omega (arith, some_before) in
                let distance = c.saturating_sub-distance.ensures in
                let more : c.if-g-eq0.more
                ≡ (12 * (c.samples_before-samples.result - c.loop-g.before.samples) + 64 * c.args.longest) / (128 * c.args.longest)
                = w.more-is ∙ w.subframes_in-more.ensures.value
                ∙ ap (λ d. (12 * d + 64 * c.args.longest) / (128 * c.args.longest)) distance in
                let next = next-of narrow spread late later place s places line runs c.args.longest (64 * (g - 1)) c.loop-g.before.run
                c.likeliest-run.result c.loop-g.before.samples c.samples_before-samples.result captured six
                (omega (arith, below, some_before)) from.last_at (rw start is) in
                next-found place line runs c.loop-g.found g c.if-g-eq0.more c.loop-g.before _ other some_before in_found from is
                (rw more next) refl
          ];
    }

pub returns-clause-found : goal.returns-clause-found
returns-clause-found c = λ narrow spread late later place s places line other captured six side.
    let cells = captured.displaced.cells_count in
    let all = captured.many.count in
    let count = c.div_ceil-count.ensures in
    let four : c.div_ceil-count.result ≡ 4 = omega (arith, count, cells, all) in
    let past = c.loop-g-test.false in
    let end = c.loop-g.auto.g-end in
    let g : c.loop-g.g ≡ 4 = omega (arith, past, end, four) in
    let from = c.loop-g.invariant.so_far narrow spread late later place s places line other captured six side in
    (four, ends-of place line c.args.runs.now c.loop-g.before _ _ (rw g at from (omega arith)))
