use Rattle.std.proofs.Common.{arith, ap, ◌∙◌, ◌+◌, ◌*◌, ◌%◌, ◌^◌}
use Rattle.std.specs.Prelude.{bit_or}
use Rattle.aes3_frame.specs.Files.{low_bytes}
use Rattle.aes3_frame.proofs.Bytes.{bytes-with_byte, with_byte-lt}
use Rattle.aes3_block.proofs.file.word_with_byte.Goals as goal

pub returns-clause-bytes : goal.returns-clause-bytes
returns-clause-bytes c =
    ap (λ x. low_bytes (c.args.len + 1) (bit_or c.args.word (x * 2 ^ (8 * c.args.len) % 2 ^ 32))) c.from.ensures
    ∙ bytes-with_byte c.args.len c.args.word c.args.byte c.requires.few c.requires.bound (omega arith)

pub returns-clause-bound : goal.returns-clause-bound
returns-clause-bound c =
    rw c.from.ensures (with_byte-lt c.args.len c.args.word c.args.byte c.requires.few c.requires.bound (omega arith))
