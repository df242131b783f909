use Rattle.std.proofs.Common.{◌≡◌, ◌≤◌, ◌*◌, ◌++◌, length, take, drop}
use Rattle.aes3_forms_samples.specs.Formats.{fours, narrow_one}
use Rattle.aes3_forms_samples.proofs.sample_format.SampleFormat.narrow_each.Given as goal

abbrev pub invariant-loop-i : goal.invariant-loop-i
invariant-loop-i l = record {
  len : length l.samples ≡ length l.fn.samples;
  at : l.at ≤ 4 * l.i;
  done : take l.at l.samples ++ fours (narrow_one l.self) (drop (4 * l.i) l.fn.samples)
      ≡ fours (narrow_one l.self) l.fn.samples;
  rest : drop (4 * l.i) l.samples ≡ drop (4 * l.i) l.fn.samples;
}
