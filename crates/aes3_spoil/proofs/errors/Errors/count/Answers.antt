use Rattle.std.proofs.Common.{◌+◌, ◌<◌, take, length, ap₂, sym, refl, ◌∙◌, arith}
use Rattle.aes3_spoil.proofs.Listed.{at-errors, at-most-one, listed-more}
use Rattle.aes3_spoil.proofs.errors.Errors.count.Goals as goal

pub loop-error-preserved : goal.loop-error-preserved
loop-error-preserved c =
    let v = c.loop-error.invariant in
    let few = v.few in
    let e = c.args.self.now in
    let list = take e.len e.list in
    let i = c.loop-error.error-index in
    let h : i < length list = c.loop-error-test.true in
    let r = c.one_if_at-count.ensures in
    let m = at-most-one c.args.kind c.args.place _ r in
    record {
      count = ap₂ ◌+◌ v.count r ∙ sym (listed-more c.args.kind c.args.place list i _ h);
      few = omega (arith, few, m);
    }

pub returns : goal.returns
returns c =
    let e = c.args.self.now in
    let r = c.one_if_repeated.ensures in
    ap₂ ◌+◌ c.loop-error.invariant.count (omega (arith, r))
    ∙ sym (at-errors e c.args.kind c.args.place (take e.len e.list)
    c.loop-error.error-index c.loop-error-test.false refl)
