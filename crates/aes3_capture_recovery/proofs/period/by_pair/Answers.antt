use Rattle.std.proofs.Common.{◌∙◌, arith, sym}
use Rattle.aes3_capture_recovery.proofs.Lines.{found-is-some}
use Rattle.aes3_capture_recovery.proofs.period.by_pair.Goals.{then-first-last+else-is_some, else-first-last}
use Rattle.aes3_capture_recovery.proofs.period.by_pair.Goals as goal

pub loop-k-preserved : goal.loop-k-preserved
loop-k-preserved c = λ narrow spread late later place s places line captured six side allows.
    let zero = c.loop-k.invariant narrow spread late later place s places line captured six side allows in
    let a = (rw c.from.ensures at c.anchors-count.ensures.found) narrow spread late later place s places line (record { run = 0; samples = 0; subframes = 0 })
    captured six side in
    let four = a.0 in
    elim c.if-first-last.branch [
      | then-first-last+else-is_some w ↦
          let found = (rw (zero, four) at w.by_anchors-found.ensures.found) narrow spread late later place s places line captured a.1 allows in
          absurd (found-is-some c.args.known narrow spread late later places w.by_anchors-found.result found (sym w.is_some.ensures ∙ w.if-is_some.false))
      | else-first-last w ↦
          let past = (rw (zero, four) at w.if-first-last.false) in
          absurd (omega (arith, past))
    ]

pub returns-then-is_some-clause-found : goal.returns-then-is_some-clause-found
returns-then-is_some-clause-found c = λ narrow spread late later place s places line captured six side allows.
    let zero = c.loop-k.invariant narrow spread late later place s places line captured six side allows in
    let a = (rw c.from.ensures at c.anchors-count.ensures.found) narrow spread late later place s places line (record { run = 0; samples = 0; subframes = 0 })
    captured six side in
    let four = a.0 in
    (rw (zero, four) at c.by_anchors-found.ensures.found) narrow spread late later place s places line captured a.1 allows

pub returns-clause-found : goal.returns-clause-found
returns-clause-found c = λ narrow spread late later place s places line captured six side allows.
    let zero = c.loop-k.invariant narrow spread late later place s places line captured six side allows in
    let past = c.loop-k-test.false in
    omega (arith, zero, past)
