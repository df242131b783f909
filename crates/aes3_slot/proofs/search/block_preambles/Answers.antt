use Rattle.std.proofs.Common.{◌∙◌, ap, arith, rules}
use Rattle.std.specs.Prelude.{if◌then◌else◌}
use Rattle.aes3_slot.specs.declared.mark.Mark.TheVariants.{Z}
use Rattle.aes3_slot.proofs.Windows.{says-and, says-not, mark-begins}
use Rattle.aes3_slot.proofs.search.block_preambles.Goals as goal

pub returns : goal.returns
returns c = λ k h.
    search (
      rules,
      (says-and (record { is = c.beginnings.ensures k h })
          (says-and (says-not (omega arith) h (record { is = c.unlike.ensures k h }))
          (says-and (record { is = c.unlike-2.ensures k h }) (record { is = c.unlike-3.ensures k h })))).is,
    )
    ∙ ap (λ b. if b then 1 else 0) (mark-begins c.args.cells c.args.next k h Z)
