use Rattle.aes3_cell.specs.Packed.{packed_of}
use Rattle.aes3_cell.proofs.PackedCells.{packed_of-packs, is_packed-packs, cells-packs}
use Rattle.aes3_cell.proofs.laws.packed_reads_back.Goals as goal

pub returns : goal.returns
returns c = λ cells.
    let p = packed_of-packs cells in
    (p, is_packed-packs (packed_of cells) cells p, cells-packs (packed_of cells) cells p)
