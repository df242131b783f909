use Rattle.std.proofs.Common.{◌∙◌, ap, arith, rules}
use Rattle.std.specs.Prelude.{if◌then◌else◌}
use Rattle.aes3_slot.specs.declared.mark.Mark.TheVariants.{X, Y, Z}
use Rattle.aes3_slot.specs.Preambles.{unlike_at, with_seven}
use Rattle.aes3_slot.proofs.Windows.{Says, says-and, says-not, mark-begins}
use Rattle.aes3_slot.proofs.search.mark_places.Goals as goal

pub returns-clause-x : goal.returns-clause-x
returns-clause-x c = λ k h.
    let e : Says c.unlike-fifth.result k (unlike_at (with_seven c.args.cells c.args.next) k 4) =
    record { is = c.unlike-fifth.ensures k h } in
    let f : Says c.unlike-sixth.result k (unlike_at (with_seven c.args.cells c.args.next) k 5) =
    record { is = c.unlike-sixth.ensures k h } in
    let g : Says c.unlike-seventh.result k (unlike_at (with_seven c.args.cells c.args.next) k 6) =
    record { is = c.unlike-seventh.ensures k h } in
    search (
      rules,
      (says-and (record { is = c.beginnings-begun.ensures k h })
          (says-and e (says-and f (says-not (omega arith) h g)))).is,
    )
    ∙ ap (λ b. if b then 1 else 0) (mark-begins c.args.cells c.args.next k h X)

pub returns-clause-y : goal.returns-clause-y
returns-clause-y c = λ k h.
    let e : Says c.unlike-fifth.result k (unlike_at (with_seven c.args.cells c.args.next) k 4) =
    record { is = c.unlike-fifth.ensures k h } in
    let f : Says c.unlike-sixth.result k (unlike_at (with_seven c.args.cells c.args.next) k 5) =
    record { is = c.unlike-sixth.ensures k h } in
    let g : Says c.unlike-seventh.result k (unlike_at (with_seven c.args.cells c.args.next) k 6) =
    record { is = c.unlike-seventh.ensures k h } in
    search (
      rules,
      (says-and (record { is = c.beginnings-begun.ensures k h })
          (says-and e (says-and (says-not (omega arith) h f) g))).is,
    )
    ∙ ap (λ b. if b then 1 else 0) (mark-begins c.args.cells c.args.next k h Y)

pub returns-clause-z : goal.returns-clause-z
returns-clause-z c = λ k h.
    let e : Says c.unlike-fifth.result k (unlike_at (with_seven c.args.cells c.args.next) k 4) =
    record { is = c.unlike-fifth.ensures k h } in
    let f : Says c.unlike-sixth.result k (unlike_at (with_seven c.args.cells c.args.next) k 5) =
    record { is = c.unlike-sixth.ensures k h } in
    let g : Says c.unlike-seventh.result k (unlike_at (with_seven c.args.cells c.args.next) k 6) =
    record { is = c.unlike-seventh.ensures k h } in
    search (
      rules,
      (says-and (record { is = c.beginnings-begun.ensures k h })
          (says-and (says-not (omega arith) h e) (says-and f g))).is,
    )
    ∙ ap (λ b. if b then 1 else 0) (mark-begins c.args.cells c.args.next k h Z)
