use Rattle.std.proofs.Common.{◌∙◌, ◌+◌, sym, refl, arith}
use Rattle.aes3_c.proofs.OwedOctets.{owed-last, owed-next, owed-none}
use Rattle.aes3_c.proofs.owed.next_owed.Goals as goal

pub returns-then-count-gt0-clause-some : goal.returns-then-count-gt0-clause-some
returns-then-count-gt0-clause-some c =
    let o = c.loop-owed.owed in
    let n = c.min-len.ensures in
    let len_is = c.loop-owed.invariant.len_is in
    let within = c.loop-owed-test.true in
    let some = c.if-count-gt0.true in
    sym c.loop-owed.invariant.same
    ∙ owed-next o.octets o.counts o.len o.first _ _ _ (omega (arith, within, n, len_is)) (omega (arith, within, n))
    (omega arith) refl refl (omega (arith, some))

pub loop-owed-preserved : goal.loop-owed-preserved
loop-owed-preserved c =
    let o = c.loop-owed.owed in
    let n = c.min-len.ensures in
    let len_is = c.loop-owed.invariant.len_is in
    let within = c.loop-owed-test.true in
    let none = c.if-count-gt0.false in
    record {
      len_is = len_is;
      long = c.loop-owed.invariant.long;
      same = sym (owed-none o.octets o.counts o.len o.first (o.first + 1) (omega (arith, within, n, len_is))
          (omega (arith, within, n)) (omega arith) (omega (arith, none)) refl)
          ∙ c.loop-owed.invariant.same;
    }

pub returns-clause-none : goal.returns-clause-none
returns-clause-none c =
    let o = c.loop-owed.owed in
    let n = c.min-len.ensures in
    let len_is = c.loop-owed.invariant.len_is in
    let past = c.loop-owed-test.false in
    let long = c.loop-owed.invariant.long in
    let last = owed-last o.octets o.counts o.len o.first (λ within. omega (arith, within, past, n, len_is, long)) in
    (sym c.loop-owed.invariant.same ∙ last, last)
