use Rattle.std.proofs.Common.{◌≡◌, ◌*◌, ◌++◌, length, take, drop}
use Rattle.aes3_forms_samples.specs.Formats.{block_len, sample_len, widened}
use Rattle.aes3_forms_samples.proofs.sample_format.SampleFormat.widen_each.Given as goal

abbrev pub invariant-loop-i : goal.invariant-loop-i
invariant-loop-i l = record {
  len : length l.wide ≡ 1536;
  done : take (4 * l.i) l.wide ++ widened l.self (drop (sample_len l.self * l.i) (take
      (block_len l.self) l.octets))
      ≡ widened l.self (take (block_len l.self) l.octets);
}
