use Rattle.aes3_cell.proofs.PackedCells.{packs-is_packed, is_packed-packs, cells-packs}
use Rattle.aes3_cell.proofs.laws.packed_is_tested.Goals as goal

pub returns : goal.returns
returns c = λ octets. (packs-is_packed octets, λ cells p. (is_packed-packs octets cells p, cells-packs octets cells p))
