use Rattle.std.proofs.Common.{Bool, true, false, ap, refl, ◌+◌, ◌∙◌, ◌≡◌, rules}
use Rattle.std.specs.Prelude.{if◌then◌else◌}
use mir.Val.{bool_byte}
use Rattle.aes3_capture.proofs.Edges.{run-counts}
use Rattle.aes3_capture.proofs.follower.Follower.run.Goals as goal

byte-one : (b : Bool) → bool_byte b ≡ (if b then 1 else 0)
byte-one true = refl
byte-one false = refl

pub returns-clause-counted : goal.returns-clause-counted
returns-clause-counted c = record {
  told = c.pass-told.result;
  more = c.edge.result;
  at = c.pass-told.new.self;
  passed = c.pass-told.ensures.passed;
  turned = c.edge.ensures.turned;
  sum = search (rules, ap (λ n. c.pass-told.result + n) (c.from.ensures ∙ byte-one c.edge.result));
}

pub returns-clause-line : goal.returns-clause-line
returns-clause-line c =
    run-counts c.args.self.now c.pass-told.new.self c.edge.new.self c.args.samples c.pass-told.result
    _ c.edge.result
    c.pass-told.ensures.bounds c.pass-told.ensures.line c.edge.ensures.line
    (search (rules, ap (λ n. c.pass-told.result + n) (c.from.ensures ∙ byte-one c.edge.result)))
