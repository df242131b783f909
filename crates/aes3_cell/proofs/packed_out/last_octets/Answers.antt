use Rattle.std.proofs.Common.{◌≡◌, ◌-◌, ◌*◌, ◌^◌, ◌∙◌, arith, refl}
use Rattle.std.proofs.Math.Pow.{shl_exact}
use Rattle.aes3_cell.proofs.PackedWords.{none-moved, packed-end}
use Rattle.aes3_cell.proofs.packed_out.last_octets.Goals as goal
use Rattle.aes3_cell.proofs.packed_out.last_octets.Goals.{then-len-eq0, else-len-eq0}

pub returns : goal.returns
returns c =
    let n = c.args.len in
    let w = c.args.word in
    let k = c.div_ceil-needed.result in
    packed-end n w c.if-len-eq0.filled k _ c.copy_from_slice.new.self _ c.requires.few moved
    (c.copy_from_slice.ensures.after ∙ c.to_be_bytes.ensures) (c.div_ceil-needed.ensures ∙ omega arith) (omega arith) refl
  where
    moved : c.if-len-eq0.filled ≡ c.args.word * 2 ^ (64 - c.args.len)
    moved = elim c.if-len-eq0.branch [
      | then-len-eq0 v ↦ v.filled-is
          ∙ none-moved c.args.word c.args.len (64 - c.args.len) v.if-len-eq0.true c.requires.bound
      | else-len-eq0 v ↦ v.filled-is ∙ shl_exact c.args.len (64 - c.args.len) 64 c.requires.bound (omega arith)
    ]
