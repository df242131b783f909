use Rattle.aes3_watch_laws.proofs.PieceGaps.{piece-no-gap, row-no-gap}
use Rattle.aes3_watch_laws.proofs.whole_rows_have_no_gap.Goals as goal

pub returns : goal.returns
returns c = record { row = row-no-gap; piece = piece-no-gap }
