use Rattle.std.proofs.Common.{rules, arith, ◌∙◌, ◌<◌, ◌+◌, ◌*◌, ◌-◌, ◌^◌, ap, sym, map, get_or, w32}
use Rattle.std.specs.Int.{to_le_bytes}
use Rattle.std.proofs.lemmas.Slice.{overwrites}
use Rattle.aes3_frame.specs.Files.{payload_of}
use Rattle.aes3_frame.specs.Samples.{sample_of}
use Rattle.aes3_frame.proofs.Files.{bytes-word}
use Rattle.aes3_frame.proofs.Samples.{samples-at, length-samples}
use Rattle.aes3_block.proofs.samples_out.bytes_of_samples.Goals as goal

pub loop-i-preserved : goal.loop-i-preserved
loop-i-preserved c =
    let samples = map sample_of (map payload_of c.args.words.now) in
    let n = length-samples c.args.words.now in
    let e = c.sample_of_word.ensures ∙ sym (samples-at c.args.words.now c.loop-i.i (omega arith)) in
    let fits : get_or samples c.loop-i.i 0 < 2 ^ 32 = omega arith in
    record {
      bytes = bytes-word samples c.loop-i.bytes c.copy_from_slice.new.self c.loop-i.i
          (4 * c.loop-i.i + 4 - 4 * c.loop-i.i)
          (omega arith) fits (omega arith) c.loop-i.invariant.bytes (c.copy_from_slice.ensures.after
          ∙ c.to_le_bytes.ensures ∙ ap (to_le_bytes w32) e);
      len = search (rules, overwrites);
    }
