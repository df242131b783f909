use Rattle.std.proofs.Common.{◌*◌, arith, length-set, sym, ap, ◌∙◌}
use Rattle.std.specs.List.{flat_map}
use Rattle.std.proofs.lemmas.List.{take_all}
use Rattle.aes3_frame.specs.Files.{word_bytes}
use Rattle.aes3_block.proofs.BlockReads.{word-more}
use Rattle.aes3_block.proofs.file.words_of_block.Goals as goal

pub loop-i-preserved : goal.loop-i-preserved
loop-i-preserved c =
    let i = c.loop-i.i in
    let len = c.loop-i.invariant.len in
    let told = c.told-bytes in
    record {
      bytes = word-more c.loop-i.words c.args.bytes.now i c.from_le_bytes.result (omega arith)
          (omega (arith, told)) c.fits-bytes (omega arith) c.loop-i.invariant.bytes c.from_le_bytes.ensures;
      len = length-set c.loop-i.words i c.from_le_bytes.result ∙ len;
    }

pub returns : goal.returns
returns c =
    let i = c.loop-i.i in
    let len = c.loop-i.invariant.len in
    let told = c.told-bytes in
    ap (flat_map word_bytes) (sym (take_all i c.loop-i.words (omega (arith, len)))) ∙ c.loop-i.invariant.bytes
    ∙ take_all (4 * i) c.args.bytes.now (omega (arith, told))
