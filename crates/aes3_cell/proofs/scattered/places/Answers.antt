use Rattle.std.proofs.Common.{◌*◌, ◌%◌, ◌^◌, get_or, replicate, ap₂, ◌∙◌}
use Rattle.std.specs.Prelude.{bit_and, bit_or}
use Rattle.std.specs.Simd.Lanes.{zip2}
use Rattle.aes3_cell.proofs.KeptCells.{places-at}
use Rattle.aes3_cell.proofs.scattered.places.Goals as goal

pub returns : goal.returns
returns c = λ i h.
    ap₂ (λ k l. get_or (zip2 bit_or (zip2 bit_and k (replicate 8 15))
    (zip2 (λ a b. a * 2 ^ b % 2 ^ 8) l (replicate 8 4))) i 0) c.to_le_bytes.ensures c.to_le_bytes-2.ensures
    ∙ places-at c.args.kept c.args.levels i h
