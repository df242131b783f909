use Rattle.std.proofs.Common.{◌≡◌, ◌<◌, ◌+◌, ◌-◌, arith, length}
use Rattle.aes3_capture_recovery.specs.Finding.{pair_at}
use Rattle.aes3_capture_recovery.proofs.Lines.{is-at-most}
use Rattle.aes3_capture_recovery.proofs.LongPairs.{all-seen, long-more, none-if, one-at-most}
use Rattle.aes3_capture_recovery.proofs.period.are_likely.Goals as goal

pub loop-i-preserved : goal.loop-i-preserved
loop-i-preserved c =
    let v = c.loop-i.invariant in
    let i = c.loop-i.i in
    let runs = c.args.runs.now in
    let from = c.loop-i.auto.i in
    let below = c.loop-i-test.true in
    let next : i - 1 + 1 ≡ i = omega (arith, from) in
    let pair : c.saturating_add-pair.result ≡ pair_at runs (i - 1) = rw next c.saturating_add-pair.ensures in
    let within : i - 1 + 1 < length runs = omega (arith, from, below) in
    let short_one = one-at-most c.saturating_add-pair.result c.div_ceil-least.result c.from-short.result c.from-short.ensures in
    let long_one = one-at-most _ c.saturating_add-pair.result c.from-long.result c.from-long.ensures in
    record {
      some = omega (arith, v, short_one);
      many = omega (arith, v, long_one);
      within = λ h. omega (arith, below);
      none = λ h.
          let no = v.none h in
          let enough = h (i - 1) within in
          let least = c.div_ceil-least.ensures in
          let none = none-if c.saturating_add-pair.result c.div_ceil-least.result c.from-short.result c.from-short.ensures
          (omega (arith, enough, least, pair)) in
          omega (arith, no, none);
      few = λ line h.
          let before = v.few line h in
          let more = long-more line (i + 1 - 1) (i - 1) c.saturating_add-pair.result _ c.from-long.result (omega (arith, from))
          c.from-long.ensures (λ few. rw pair (h (i - 1) within few)) in
          omega (arith, before, more);
    }

pub returns-then-short-few : goal.returns-then-short-few
returns-then-short-few c = record {
  found = λ line long short few.
      let v = c.loop-i.invariant in
      is-at-most _ _ (all-seen line c.loop-i.i (length c.args.runs.now) c.loop-i.long c.loop-i.auto.i v.within c.loop-i-test.false
      (v.few line short) few);
}

pub returns-else-short-few : goal.returns-else-short-few
returns-else-short-few c = record {
  found = λ line long short few.
      let none = c.loop-i.invariant.none long in
      let some = c.if-short-few.false in
      absurd (omega (arith, none, some));
}
