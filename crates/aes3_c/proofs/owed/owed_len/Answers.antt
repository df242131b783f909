use Rattle.std.proofs.Common.{◌+◌, ap, arith, length, refl, rules}
use Rattle.aes3_c.proofs.OwedOctets.{owed-count, owed-last}
use Rattle.aes3_c.proofs.owed.owed_len.Goals as goal

pub loop-i-preserved : goal.loop-i-preserved
loop-i-preserved c =
    let o = c.args.owed.now in
    let i = c.loop-i.i in
    let len = c.min-len.ensures in
    let last = c.loop-i.auto.i-end in
    let within = c.loop-i-test.true in
    let small = c.loop-i.invariant.small in
    let rest = c.loop-i.invariant.rest in
    let from = c.from-octets.ensures in
    let next = owed-count o.octets o.counts o.len i (i + 1) c.from-octets.result (omega (arith, within, len, last))
    (omega (arith, within, len, last)) (omega arith) (search rules) refl in
    record { small = omega (arith, small, from); rest = omega (arith, rest, next) }

pub returns : goal.returns
returns c =
    let o = c.args.owed.now in
    let len = c.min-len.ensures in
    let last = c.loop-i.auto.i-end in
    let end = c.loop-i-test.false in
    let rest = c.loop-i.invariant.rest in
    let none = ap length (owed-last o.octets o.counts o.len c.loop-i.i (λ within. omega (arith, within, end, len, last))) in
    omega (arith, rest, none)
