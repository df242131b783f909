use Rattle.std.proofs.Common.{◌-◌, ◌^◌, ◌∙◌, arith, ap, replicate}
use Rattle.std.proofs.lemmas.List.{length-take-le}
use Rattle.aes3_cell.proofs.Growing.{grew-replicate}
use Rattle.aes3_cell.proofs.endless.EndlessSourceSource.read.Goals as goal

pub returns-clause-bytes : goal.returns-clause-bytes
returns-clause-bytes c =
    grew-replicate (2 ^ 64 - 1 - c.args.self.now.left) c.smallest-n.result _ c.args.self.now.byte c.fill.new.self _
    (c.fill.ensures.after (λ y h. h) ∙ ap (λ n. replicate n c.args.self.now.byte) (length-take-le _ _ (omega arith)))
    (omega arith)
