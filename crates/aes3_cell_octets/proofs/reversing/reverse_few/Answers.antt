use Rattle.std.proofs.Common.{◌∙◌, length, arith}
use Rattle.aes3_cell_octets.proofs.ReversedOctets.{few-reversed}
use Rattle.aes3_cell_octets.proofs.reversing.reverse_few.Goals as goal

pub returns : goal.returns
returns c =
    let few = c.requires in
    c.copy_from_slice-2.ensures.after
    ∙ few-reversed (length c.args.octets.now) c.args.octets.now c.copy_from_slice.new.self c.reversed_eight.result
    (omega arith) (omega arith) c.copy_from_slice.ensures.after c.reversed_eight.ensures
