use Rattle.std.proofs.Common.{rules, arith, ◌∙◌, ◌<◌, ◌+◌, ◌*◌, ◌-◌, ◌^◌, get_or}
use Rattle.std.proofs.lemmas.Slice.{overwrites}
use Rattle.aes3_frame.proofs.Files.{bytes-word}
use Rattle.aes3_c.proofs.sample_calls.octets_of_samples.Goals as goal

pub loop-i-preserved : goal.loop-i-preserved
loop-i-preserved c =
    let fits : get_or c.args.samples.now c.loop-i.i 0 < 2 ^ 32 = omega arith in
    record {
      octets = bytes-word c.args.samples.now c.loop-i.octets c.copy_from_slice.new.self c.loop-i.i
          (4 * c.loop-i.i + 4 - 4 * c.loop-i.i) (omega arith) fits (omega arith) c.loop-i.invariant.octets
          (c.copy_from_slice.ensures.after ∙ c.to_le_bytes.ensures);
      len = search (rules, overwrites);
    }
