use Rattle.std.proofs.Common.{◌≡◌, [], ◌∷◌, ◌++◌, ap, ◌∙◌, arith}
use Rattle.aes3_status.specs.Taken.{taken_by}
use Rattle.aes3_status.proofs.TakenKinds.{examples, examples-with, examples-without, kinds-taken, none-taken}
use Rattle.aes3_status.proofs.taken.Kinds.taken_by.Goals.{then-self-kind, else-self-kind}
use Rattle.aes3_status.proofs.taken.Kinds.taken_by.Goals as goal

pub loop-kind-init : goal.loop-kind-init
loop-kind-init c = none-taken c.args.settings.now c.args.self.now.met

pub loop-kind-preserved : goal.loop-kind-preserved
loop-kind-preserved c =
    let settings = c.args.settings.now in
    let met = c.args.self.now.met in
    let kind = c.loop-kind.kind in
    elim c.if-self-kind.branch [
      | then-self-kind w ↦ w.taken-is ∙ w.add.ensures (examples met kind) c.loop-kind.invariant
          ∙ ap (λ bytes. taken_by settings (examples met kind ++ bytes ∷ [])) w.example.ensures
          ∙ ap (taken_by settings) (examples-with met kind w.if-self-kind.true)
      | else-self-kind w ↦ w.taken-is ∙ c.loop-kind.invariant
          ∙ ap (taken_by settings) (examples-without met kind w.if-self-kind.false)
    ]

pub returns : goal.returns
returns c = λ statuses long h.
    let e : c.loop-kind.kind ≡ 64 = omega arith in
    c.loop-kind.invariant ∙ ap (λ k. taken_by c.args.settings.now (examples c.args.self.now.met k)) e
    ∙ kinds-taken c.args.settings.now c.args.self.now.met statuses long h
