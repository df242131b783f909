use Rattle.std.proofs.Common.{◌*◌, ◌/◌, ◌%◌, ◌^◌, ap, ◌∙◌, arith}
use Rattle.std.specs.Prelude.{bit_and, bit_or}
use Rattle.aes3_level.specs.Words.{low_cells}
use Rattle.aes3_lock.proofs.SubframeWords.{octet-behind, octet-inside}
use Rattle.aes3_lock.proofs.begun_subframe.last_behind.Goals as goal

pub returns-then-len : goal.returns-then-len
returns-then-len c = octet-inside c.args.len c.args.recent c.args.word (omega arith)

pub returns : goal.returns
returns c =
    ap (λ r. low_cells 8 (bit_and (bit_or (c.args.word * 2 ^ 8 % 2 ^ 64) r / 2 ^ c.args.len) 255)) c.from.ensures
    ∙ octet-behind c.args.len c.args.recent c.args.word (omega arith) (omega arith)
