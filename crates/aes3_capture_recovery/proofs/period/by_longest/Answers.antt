use Rattle.std.proofs.Common.{◌≡◌, ◌-◌, ◌∙◌, ap, arith, length, sym}
use Rattle.aes3_capture_recovery.specs.declared.period.Side.TheVariants.{Of}
use Rattle.aes3_capture_recovery.proofs.Captured.{few-too-long, longest-is-six, none-too-short}
use Rattle.aes3_capture_recovery.proofs.Lines.{found-is-some, not-both}
use Rattle.aes3_capture_recovery.proofs.period.by_longest.Goals.{then-longest-lt-SHORTEST_PAIR-via-then-longest-lt-SHORTEST_PAIR}
use Rattle.aes3_capture_recovery.proofs.period.by_longest.Goals.{then-longest-lt-SHORTEST_PAIR-via-else-longest-lt-SHORTEST_PAIR+then-longest-gt-LONGEST_PAIR}
use Rattle.aes3_capture_recovery.proofs.period.by_longest.Goals.{then-longest-lt-SHORTEST_PAIR-via-else-longest-lt-SHORTEST_PAIR+else-longest-gt-LONGEST_PAIR+then-not-are_likely}
use Rattle.aes3_capture_recovery.proofs.period.by_longest.Goals as goal

pub returns-then-longest-lt-SHORTEST_PAIR-clause-found : goal.returns-then-longest-lt-SHORTEST_PAIR-clause-found
returns-then-longest-lt-SHORTEST_PAIR-clause-found c = λ narrow spread late later place side places line captured most value allows.
    let is = longest-is-six _ _ _ _ _ _ _ _ c.args.runs.now c.args.longest.samples c.args.longest.at captured most value in
    elim c.then-longest-lt-SHORTEST_PAIR.branch [
      | then-longest-lt-SHORTEST_PAIR-via-then-longest-lt-SHORTEST_PAIR w ↦ let few = w.if-longest-lt-SHORTEST_PAIR.true in let least = is.least in omega (arith, few, least)
      | then-longest-lt-SHORTEST_PAIR-via-else-longest-lt-SHORTEST_PAIR+then-longest-gt-LONGEST_PAIR w ↦ let many = w.if-longest-gt-LONGEST_PAIR.true in let most_is = is.most in omega (arith, many, most_is)
      | then-longest-lt-SHORTEST_PAIR-via-else-longest-lt-SHORTEST_PAIR+else-longest-gt-LONGEST_PAIR+then-not-are_likely w ↦
          let cells = captured.displaced.cells_count in
          let pairs : length c.args.runs.now - 1 ≡ 255 = omega (arith, cells, captured.many) in
          let likely = w.are_likely.ensures.found line
          (λ i. none-too-short narrow spread late later place side places line c.args.runs.now c.args.longest.samples i captured is.six)
          (λ i. few-too-long narrow spread late later place side places line c.args.runs.now c.args.longest.samples i captured is.six)
          (rw pairs (omega (arith, captured.many, cells))) in
          not-both w.are_likely.result likely w.if-not-are_likely.true
    ]

pub returns-then-is_some-clause-found : goal.returns-then-is_some-clause-found
returns-then-is_some-clause-found c = λ narrow spread late later place side places line captured most value allows.
    let is = longest-is-six _ _ _ _ _ _ _ _ c.args.runs.now c.args.longest.samples c.args.longest.at captured most value in
    c.by_pair-found.ensures.found narrow spread late later place side places line captured is.six (ap Of is.side_is) allows

pub returns-then-is_some-2-clause-found : goal.returns-then-is_some-2-clause-found
returns-then-is_some-2-clause-found c = λ narrow spread late later place side places line captured most value allows.
    let is = longest-is-six _ _ _ _ _ _ _ _ c.args.runs.now c.args.longest.samples c.args.longest.at captured most value in
    let found = c.by_pair-found.ensures.found narrow spread late later place side places line captured is.six (ap Of is.side_is) allows in
    absurd (found-is-some c.args.known narrow spread late later places c.by_pair-found.result found (sym c.is_some.ensures ∙ c.if-is_some.false))

pub returns-clause-found : goal.returns-clause-found
returns-clause-found c = λ narrow spread late later place side places line captured most value allows.
    let is = longest-is-six _ _ _ _ _ _ _ _ c.args.runs.now c.args.longest.samples c.args.longest.at captured most value in
    let found = c.by_pair-found.ensures.found narrow spread late later place side places line captured is.six (ap Of is.side_is) allows in
    absurd (found-is-some c.args.known narrow spread late later places c.by_pair-found.result found (sym c.is_some.ensures ∙ c.if-is_some.false))
