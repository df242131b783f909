use Rattle.std.proofs.Common.{arith}
use Rattle.aes3_cell_octets.proofs.Ends.{filled-reversed}
use Rattle.aes3_cell_octets.proofs.reversed_sink.fill_reversed.Goals as goal

pub returns-clause-octets : goal.returns-clause-octets
returns-clause-octets c =
    let least = c.min-n.ensures in
    filled-reversed c.min-n.result c.args.octets.now c.args.piece.now c.copy_from_slice.new.self c.reverse_bits.new.octets _
    (omega (arith, least)) c.copy_from_slice.ensures.after c.reverse_bits.ensures
