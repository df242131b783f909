use Rattle.std.proofs.Common.{◌∙◌, ap, arith}
use Rattle.aes3_text_lines.specs.declared.sum.Sum.{Sum}
use Rattle.aes3_watch.specs.Sums.{with_lost}
use Rattle.aes3_watch.specs.declared.summed.Summed.{Summed}
use Rattle.aes3_c.specs.Sums.{sum_numbers}
use Rattle.aes3_c.specs.declared.sum_calls.Aes3Sum.{Aes3Sum}
use Rattle.aes3_c.proofs.SumCalls.{last-is, last-put, none-put, period-ended}
use Rattle.aes3_c.proofs.sum_calls.aes3_sums_end.Goals as goal
use Rattle.aes3_c.proofs.sum_calls.aes3_sums_end.Goals.{then-sums-eq0-via-then-sums-eq0}
use Rattle.aes3_c.proofs.sum_calls.aes3_sums_end.Goals.{then-sums-eq0-via-else-sums-eq0+then-sums-seen}

pub returns-then-has_ended-clause-sum : goal.returns-then-has_ended-clause-sum
returns-then-has_ended-clause-sum c = λ t short every cells r put p q s.
    period-ended c.put_period.new.kept c.put_period.new.sum c.args.seen p q s c.put_period.ensures.state
    c.put_period.ensures.every c.put_period.ensures.sum (c.has_ended.ensures.ended c.if-has_ended.true)

pub returns-then-has_ended-clause-last : goal.returns-then-has_ended-clause-last
returns-then-has_ended-clause-last c = λ t at every cells r put p q s.
    let from = ap (λ (u : Summed). u.from) c.put_period.ensures.state in
    let to = ap (λ (n : Aes3Sum). n.to) c.put_period.ensures.sum in
    none-put cells c.args.seen (period-ended c.put_period.new.kept c.put_period.new.sum c.args.seen p q s
    c.put_period.ensures.state c.put_period.ensures.every c.put_period.ensures.sum
    (c.has_ended.ensures.ended c.if-has_ended.true)) q s (omega (arith, from, to, at))

pub returns-then-sums-eq0-clause-all : goal.returns-then-sums-eq0-clause-all
returns-then-sums-eq0-clause-all c = λ t every cells r put p q s.
    let some = p.some in
    let i = p.every_is in
    elim c.then-sums-eq0.branch [
      | then-sums-eq0-via-then-sums-eq0 w ↦ let z = w.if-sums-eq0.true in absurd (omega (arith, some, i, z))
      | then-sums-eq0-via-else-sums-eq0+then-sums-seen w ↦
          let z = w.if-sums-seen.true in none-put cells c.args.seen p q s (omega (arith, z))
    ]

pub returns-clause-last : goal.returns-clause-last
returns-clause-last c = λ t at every cells r put p q s.
    let some = p.some in
    let i = p.every_is in
    let z = c.if-sums-seen.false in
    last-put cells c.numbers_of.result c.args.seen p q s
    (c.has_ended.ensures.open c.if-has_ended.false (omega (arith, some, i))) (omega (arith, z))
    (c.numbers_of.ensures ∙ ap sum_numbers (last-is c.args.sums.now c.period_of-period.result c.count_gaps.new.self
    c.sum.result c.args.seen c.period_of-period.ensures c.count_gaps.ensures.from c.count_gaps.ensures.figures
    c.sum.ensures.from c.sum.ensures.to c.sum.ensures.figures))
