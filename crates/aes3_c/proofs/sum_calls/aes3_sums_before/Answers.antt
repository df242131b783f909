use Rattle.std.proofs.Common.{◌≡◌, ◌∙◌, ap, arith, map, sym}
use Rattle.aes3_frame.specs.Files.{payload_of}
use Rattle.aes3_lock.specs.Remains.{place_of}
use Rattle.aes3_c.proofs.GapCalls.{ending-told}
use Rattle.aes3_c.proofs.SumCalls.{period-before, report-summed, summed-near}
use Rattle.aes3_c.proofs.sum_calls.aes3_sums_before.Goals as goal

pub returns-then-has_ended-clause-sum : goal.returns-then-has_ended-clause-sum
returns-then-has_ended-clause-sum c = λ t x is every cells r put p n.
    let block = map payload_of c.args.report.now.words in
    let same = ending-told block c.args.report.now x c.ending_of.result c.in-Some.ending (c.ending_of.ensures block)
    c.in-Some.is is in
    let at : place_of x ≡ c.place_of_ending.result = ap place_of (sym same) ∙ c.place_of_ending.ensures block in
    let l = c.has_ended.ensures.ended c.if-has_ended.true in
    period-before c.put_period.new.kept c.put_period.new.sum x p n c.put_period.ensures.state
    c.put_period.ensures.every c.put_period.ensures.sum (omega (arith, at, l))

pub returns-clause-report : goal.returns-clause-report
returns-clause-report c = λ t x is every cells r put p n.
    let block = map payload_of c.args.report.now.words in
    let same = ending-told block c.args.report.now x c.ending_of.result c.in-Some.ending (c.ending_of.ensures block)
    c.in-Some.is is in
    let at : place_of x ≡ c.place_of_ending.result = ap place_of (sym same) ∙ c.place_of_ending.ensures block in
    let some = p.some in
    let i = p.every_is in
    let l = c.has_ended.ensures.open c.if-has_ended.false (omega (arith, some, i)) in
    report-summed c.take_report.new.kept x p n (c.take_report.ensures.state x same (summed-near x p n))
    c.take_report.ensures.every (omega (arith, at, l))
