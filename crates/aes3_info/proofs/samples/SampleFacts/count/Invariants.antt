use Rattle.std.proofs.Common.{◌≡◌, map, max, take}
use Rattle.std.specs.List.{sum_by}
use Rattle.aes3_frame.specs.Files.{payload_of}
use Rattle.aes3_info.specs.Facts.{greatest, magnitudes, more_energy, square}
use Rattle.aes3_info.proofs.samples.SampleFacts.count.Given as goal

abbrev pub invariant-loop-i : goal.invariant-loop-i
invariant-loop-i l = record {
  greatest : l.self.greatest
      ≡ max l.fn.self.greatest (greatest (take l.i (magnitudes l.channel (map payload_of l.words))));
  energy : l.self.energy
      ≡ more_energy l.fn.self.energy (sum_by square (take l.i (magnitudes l.channel (map payload_of l.words))));
}
