use Rattle.std.proofs.Common.{ap, arith, ◌≡◌, ◌∙◌}
use Rattle.aes3_status.specs.KindPlaces.{first_met}
use Rattle.aes3_status.proofs.FirstPlaces.{all-below, below, first-with, first-without, none-below}
use Rattle.aes3_status.proofs.kind_places.KindPlaces.first_of.Goals.{then-kinds-kind, else-kinds-kind}
use Rattle.aes3_status.proofs.kind_places.KindPlaces.first_of.Goals as goal

pub loop-kind-init : goal.loop-kind-init
loop-kind-init c = λ met r h. none-below c.args.kinds.now met

pub loop-kind-preserved : goal.loop-kind-preserved
loop-kind-preserved c = λ met r h.
    let kinds = c.args.kinds.now in
    let kind = c.loop-kind.kind in
    let before = c.loop-kind.invariant met r h in
    elim c.if-kinds-kind.branch [
      | then-kinds-kind w ↦ w.first-is ∙ w.earlier-first.ensures
          ∙ first-with kinds kind met _ _ w.if-kinds-kind.true r before (h kind (omega arith))
      | else-kinds-kind w ↦ w.first-is ∙ first-without kinds kind met _ w.if-kinds-kind.false before
    ]

pub returns : goal.returns
returns c = λ met r h.
    let e : c.loop-kind.kind ≡ 64 = omega arith in
    c.loop-kind.invariant met r h ∙ ap (λ k. first_met (below c.args.kinds.now k) met) e
    ∙ all-below c.args.kinds.now met
