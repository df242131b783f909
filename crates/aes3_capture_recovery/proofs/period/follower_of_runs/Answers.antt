use Rattle.std.proofs.Common.{ap, arith, length, take, ◌∙◌, sym}
use Rattle.aes3_capture_recovery.proofs.Found.{captured-of, found-counts, numbered}
use Rattle.aes3_capture_recovery.proofs.Lines.{found-is-some}
use Rattle.aes3_capture_recovery.proofs.NearPeriods.{findable}
use Rattle.aes3_capture_recovery.proofs.period.follower_of_runs.Goals as goal

pub returns-then-is_some-clause-found : goal.returns-then-is_some-clause-found
returns-then-is_some-clause-found c = λ narrow spread late later place side places line captured allows.
    c.by_longest-found.ensures.found narrow spread late later place side places line captured c.longest_pairs.ensures.most
    c.longest_pairs.ensures.value allows

pub returns-clause-found : goal.returns-clause-found
returns-clause-found c = λ narrow spread late later place side places line captured allows.
    let found = c.by_longest-found.ensures.found narrow spread late later place side places line captured c.longest_pairs.ensures.most
    c.longest_pairs.ensures.value allows in
    absurd (found-is-some c.args.known narrow spread late later places c.by_longest-found.result found (sym c.is_some.ensures ∙ c.if-is_some.false))

pub returns-then-is_some-clause-tolerance : goal.returns-then-is_some-clause-tolerance
returns-then-is_some-clause-tolerance c = λ narrow cell spread late later place side places line displaced many about tolerable allows.
    returns-then-is_some-clause-found c narrow spread late later place side places line
    (record { displaced = displaced; many = many; findable = findable narrow cell spread late later about tolerable }) allows

pub returns-clause-tolerance : goal.returns-clause-tolerance
returns-clause-tolerance c = λ narrow cell spread late later place side places line displaced many about tolerable allows.
    returns-clause-found c narrow spread late later place side places line
    (record { displaced = displaced; many = many; findable = findable narrow cell spread late later about tolerable }) allows

pub returns-then-is_some-clause-cells : goal.returns-then-is_some-clause-cells
returns-then-is_some-clause-cells c = λ narrow spread late later place side displaced line all capture are allows.
    let n = numbered narrow spread late later place side displaced line all capture in
    let captured = captured-of narrow spread late later place side displaced line all capture in
    let found = returns-then-is_some-clause-found c narrow spread late later place side n.places (take 256 line) (rw are captured) allows in
    found-counts c.args.known narrow spread late later displaced n.places line all c.by_longest-found.result found n.first capture.spreads

pub returns-clause-cells : goal.returns-clause-cells
returns-clause-cells c = λ narrow spread late later place side displaced line all capture are allows.
    let n = numbered narrow spread late later place side displaced line all capture in
    let captured = captured-of narrow spread late later place side displaced line all capture in
    let found = returns-clause-found c narrow spread late later place side n.places (take 256 line) (rw are captured) allows in
    found-counts c.args.known narrow spread late later displaced n.places line all c.by_longest.result found n.first capture.spreads

pub returns-then-runs-clause-cells : goal.returns-then-runs-clause-cells
returns-then-runs-clause-cells c = λ narrow spread late later place side displaced line all capture are allows.
    let captured = captured-of narrow spread late later place side displaced line all capture in
    let cells = captured.displaced.cells_count in
    let count = captured.many.count in
    let long = ap length are in
    let either = c.then-runs.either in
    omega (arith, cells, count, long, either)
