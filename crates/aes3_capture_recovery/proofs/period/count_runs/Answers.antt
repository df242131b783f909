use Rattle.std.proofs.Common.{[], ◌∷◌, ◌++◌, ◌≡◌, ◌≤◌, ◌+◌, ◌-◌, ◌/◌, arith, length, take, get_or, set, refl, sym, ap, ap₂, ◌∙◌}
use Rattle.aes3_capture.proofs.Mirror.{at-next}
use Rattle.std.proofs.lemmas.List.{take_all, take_more, take_more_set}
use Rattle.aes3_capture.specs.Following.{CountedAll}
use Rattle.aes3_capture_recovery.specs.Measuring.{IsSteady, runs_of_a_line}
use Rattle.aes3_capture_recovery.proofs.Lines.{is-at-most}
use Rattle.aes3_capture_recovery.proofs.Steady.{counted-more, of-a-line-more, of-a-line, of-none-below, of-none-above}
use Rattle.aes3_capture_recovery.proofs.period.count_runs.Goals.{then-count-ge1+then-count-le3, else-count-ge1}
use Rattle.aes3_capture_recovery.proofs.period.count_runs.Goals.{else-count-ge1-via-then-count-ge1+else-count-le3}
use Rattle.aes3_capture_recovery.proofs.period.count_runs.Goals.{else-count-ge1-via-else-count-ge1}
use Rattle.aes3_capture_recovery.proofs.period.count_runs.Goals as goal

pub loop-i-preserved : goal.loop-i-preserved
loop-i-preserved c =
    let v = c.loop-i.invariant in
    let n = c.run-count.result in
    let run = get_or c.args.runs.now c.loop-i.i 0 in
    let below = c.loop-i-test.true in
    let few = c.requires.few in
    let before = take c.loop-i.i c.loop-i.cells in
    let next-cells : take (c.loop-i.i + 1) (set c.loop-i.cells c.loop-i.i n) ≡ before ++ n ∷ []
    = take_more_set c.loop-i.cells c.loop-i.i n (omega (arith, below, few)) in
    let more = of-a-line-more before n in
    let sum : (c.if-count-ge1.steady ≡ runs_of_a_line (before ++ n ∷ [])) × (c.if-count-ge1.steady ≤ c.loop-i.i + 1) =
    elim c.if-count-ge1.branch [
      | then-count-ge1+then-count-le3 w ↦
          let one = of-a-line n w.if-count-ge1.true w.if-count-le3.true in
          (omega (arith, more, one, v, w.steady-is), omega (arith, v, w.steady-is))
      | else-count-ge1 w ↦ elim w.else-count-ge1.branch [
        | else-count-ge1-via-then-count-ge1+else-count-le3 x ↦
            let none = of-none-above n x.if-count-le3.false in
            (omega (arith, more, none, v, w.steady-is), omega (arith, v, w.steady-is))
        | else-count-ge1-via-else-count-ge1 x ↦
            let none = of-none-below n x.if-count-ge1.false in
            (omega (arith, more, none, v, w.steady-is), omega (arith, v, w.steady-is))
      ]
    ] in
    record {
      counted = rw (next-cells, take_more c.args.runs.now c.loop-i.i 0 below)
          (counted-more c.args.follower c.loop-i.follower c.run-count.new.self (take c.loop-i.i c.args.runs.now)
          before run n v.counted c.run-count.ensures.counted);
      steady = rw next-cells sum.0;
      few = sum.1;
      quiet = c.run-count.ensures.counted.turned.elapsed_is;
      bounds_is = c.run-count.ensures.bounds ∙ v.bounds_is;
      line = λ narrow spread late later places line are at.
          let w = v.line narrow spread late later places line are at in
          let b = v.bounds_is in
          let wide = are.wide in
          let borne = are.borne in
          let next = at-next c.loop-i.follower c.run-count.new.self narrow spread late later places line c.args.runs.now c.loop-i.i n
          are.displaced (rw b wide) (rw b borne) below c.run-count.ensures.line w.2 in
          let placed = are.displaced.placed c.loop-i.i below in
          let is = next.0 in
          let steady_is = w.0 in
          let one : c.if-count-ge1.steady ≡ c.loop-i.steady + 1 =
          elim c.if-count-ge1.branch [
            | then-count-ge1+then-count-le3 x ↦ x.steady-is
            | else-count-ge1 x ↦ elim x.else-count-ge1.branch [
              | else-count-ge1-via-then-count-ge1+else-count-le3 y ↦
                  let no = y.if-count-le3.false in absurd (omega (arith, is, placed, no))
              | else-count-ge1-via-else-count-ge1 y ↦
                  let no = y.if-count-ge1.false in absurd (omega (arith, is, placed, no))
            ]
          ] in
          let counts = are.displaced.cells_count in (
            one ∙ ap (λ k. k + 1) steady_is,
            next-cells ∙ ap₂ (λ xs x. xs ++ x ∷ []) w.1 is ∙ sym (take_more line c.loop-i.i 0 (omega (arith, below, counts))),
            next.1,
          );
    }

pub returns-clause-found : goal.returns-clause-found
returns-clause-found c = λ narrow spread late later places line are at.
    let v = c.loop-i.invariant in
    let past = c.loop-i-test.false in
    let end = c.loop-i.auto.i-end in
    let all : c.loop-i.i ≡ length c.args.runs.now = omega (arith, past, end) in
    let w = v.line narrow spread late later places line are at in
    let counts = are.displaced.cells_count in
    let steady = w.0 in (
      (let many : length c.args.runs.now - length c.args.runs.now / 8 ≤ c.loop-i.steady = omega (arith, all, steady) in is-at-most _ _ many),
      rw all at (w.1 ∙ take_all c.loop-i.i line (omega (arith, all, counts))),
    )

pub returns-clause-steady : goal.returns-clause-steady
returns-clause-steady c steady =
    let v = c.loop-i.invariant in
    let past = c.loop-i-test.false in
    let end = c.loop-i.auto.i-end in
    let few = c.requires.few in
    let all : c.loop-i.i ≡ length c.args.runs.now = omega (arith, past, end) in
    let counted : CountedAll c.args.follower c.args.runs.now (take c.loop-i.i c.loop-i.cells) c.loop-i.follower
    = rw (take_all c.loop-i.i c.args.runs.now past) at v.counted in
    let many : length c.args.runs.now - length c.args.runs.now / 8 ≤ c.loop-i.steady = search (arith, steady) in
    let sum = v.steady in
    let is : IsSteady c.args.follower c.args.runs.now = record {
      cells = take c.loop-i.i c.loop-i.cells;
      behind = c.loop-i.follower;
      counted = counted;
      most = omega (arith, many, sum);
    } in
    (is, rw all refl)
