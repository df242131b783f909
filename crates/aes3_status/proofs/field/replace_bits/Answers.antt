use Rattle.std.proofs.Common.{◌∙◌, ap₂, arith}
use Rattle.aes3_bits.specs.Bits.{low_bits, number}
use Rattle.aes3_status.specs.Bits.{byte_bits}
use Rattle.aes3_status.specs.Settings.{with_bits}
use Rattle.aes3_status.proofs.SetFields.{replaced-sum, replaced-byte}
use Rattle.aes3_status.proofs.field.replace_bits.Goals as goal

pub overflow_cast-result : goal.overflow_cast-result
overflow_cast-result c =
    let fits = replaced-byte c.from-byte.result c.args.first c.args.count c.from.result (omega arith) c.requires in
    omega arith

pub returns : goal.returns
returns c =
    omega (
      arith,
      replaced-sum c.from-byte.result c.args.first c.args.count c.from.result (omega arith) c.requires
          ∙ ap₂ (λ byte code. number (with_bits c.args.first (low_bits c.args.count code) (byte_bits byte)))
          c.from-byte.ensures c.from.ensures,
    )
