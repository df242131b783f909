use Rattle.std.proofs.Common.{◌∙◌, ap}
use Rattle.aes3_cell.specs.PackedReading.{packed_end}
use Rattle.aes3_cell.proofs.PackedReads.{end-lawful}
use Rattle.aes3_cell.proofs.packed_in.PackedIn.end.Goals as goal

pub returns-clause-lawful : goal.returns-clause-lawful
returns-clause-lawful c = end-lawful c.args.self.now c.end_behind.result
    (c.end_behind.ensures ∙ ap packed_end c.self.view_is)
