use Rattle.std.proofs.Common.{refl, sym, append-nil, arith}
use Rattle.aes3_cell.specs.Packed.{Packs, cells_of_octets}
use Rattle.aes3_cell.proofs.PackedCells.{is_packed-packs, cells-packs}
use Rattle.aes3_cell_octets.specs.Octets.{packed_of_raw}
use Rattle.aes3_cell_octets.proofs.laws.raw_are_packed.Goals as goal

pub returns : goal.returns
returns c = λ octets.
    let p : Packs (packed_of_raw octets) (cells_of_octets octets) =
    record {
      front = octets;
      unused = 0;
      last = refl;
      few = omega arith;
      filled
          = sym (append-nil (cells_of_octets octets));
    } in (
      p,
      is_packed-packs (packed_of_raw octets) (cells_of_octets octets) p,
      cells-packs (packed_of_raw octets) (cells_of_octets octets) p,
    )
