use Rattle.std.proofs.Common.{refl}
use Rattle.aes3_capture_recovery.proofs.Lines.{not-both}
use Rattle.aes3_capture_recovery.proofs.period.start.Goals.{else-count_runs-via-then-count_runs+else-have_preambles}
use Rattle.aes3_capture_recovery.proofs.period.start.Goals.{else-count_runs-via-else-count_runs}
use Rattle.aes3_capture_recovery.proofs.period.start.Goals as goal

pub returns-then-have_preambles-clause-line : goal.returns-then-have_preambles-clause-line
returns-then-have_preambles-clause-line c =
    let counted = c.if-count_runs.ensures.steady refl in
    record {
      bounds_is = c.at_first-follower.ensures.bounds;
      at_an_edge = c.at_first-follower.ensures.quiet;
      steady = counted.0;
      preambles = rw counted.1 (c.if-have_preambles.ensures.some refl);
    }

pub returns-then-have_preambles-clause-found : goal.returns-then-have_preambles-clause-found
returns-then-have_preambles-clause-found c = λ narrow spread late later place places line are subframes three at.
    let b = c.at_first-follower.ensures.bounds in
    let follows = c.at_first-follower.ensures.found narrow spread late later places line are three in
    let counted = c.if-count_runs.ensures.found narrow spread late later places line (rw b are) follows in
    let wide = are.wide in
    let borne = are.borne in
    (record { at = follows; wide = rw b wide; borne = rw b borne }, counted.1)

pub returns-else-count_runs-clause-found : goal.returns-else-count_runs-clause-found
returns-else-count_runs-clause-found c = λ narrow spread late later place places line are subframes three at.
    let b = c.at_first-follower.ensures.bounds in
    let follows = c.at_first-follower.ensures.found narrow spread late later places line are three in
    let counted = c.count_runs.ensures.found narrow spread late later places line (rw b are) follows in
    let cells = counted.1 in
    let within = c.requires.within in
    elim c.else-count_runs.branch [
      | else-count_runs-via-then-count_runs+else-have_preambles w ↦
          let found = w.have_preambles.ensures.found place (rw cells subframes) (rw cells at) within in
          absurd (not-both w.have_preambles.result found w.if-have_preambles.false)
      | else-count_runs-via-else-count_runs w ↦ absurd (not-both c.count_runs.result counted.0 w.if-count_runs.false)
    ]
