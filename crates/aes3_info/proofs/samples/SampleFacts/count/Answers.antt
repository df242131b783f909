use Rattle.std.proofs.Common.{◌∙◌, ap, map, max, arith}
use Rattle.aes3_frame.specs.Files.{payload_of}
use Rattle.aes3_info.specs.Facts.{magnitudes, more_energy, square}
use Rattle.aes3_info.proofs.Magnitudes.{energy-all, energy-more, energy-none, greatest-all, greatest-more}
use Rattle.aes3_info.proofs.Magnitudes.{length-magnitudes}
use Rattle.aes3_info.proofs.samples.SampleFacts.count.Goals as goal

pub loop-i-init : goal.loop-i-init
loop-i-init c = record {
  greatest = omega arith;
  energy = energy-none c.args.self.now.energy (omega arith);
}

pub loop-i-preserved : goal.loop-i-preserved
loop-i-preserved c =
    let l = c.loop-i in
    let v = l.invariant in
    let ms = magnitudes c.args.channel (map payload_of c.args.words.now) in
    let n = length-magnitudes c.args.words.now c.args.channel (omega arith) in
    let m = c.magnitude_at-magnitude.result in
    let e = c.magnitude_at-magnitude.ensures.magnitude in
    record {
      greatest = c.max-self.ensures ∙ ap (λ z. max z m) v.greatest
          ∙ greatest-more ms l.i c.args.self.now.greatest m (omega arith) e;
      energy = c.more_energy-self.ensures ∙ ap (λ z. more_energy z c.square.result) v.energy
          ∙ energy-more ms l.i c.args.self.now.energy c.square.result (omega arith) (c.square.ensures ∙ ap square e);
    }

pub returns-clause-greatest : goal.returns-clause-greatest
returns-clause-greatest c =
    let l = c.loop-i in
    let n = length-magnitudes c.args.words.now c.args.channel (omega arith) in
    greatest-all (magnitudes c.args.channel (map payload_of c.args.words.now)) l.i c.args.self.now.greatest _
    (omega arith) l.invariant.greatest

pub returns-clause-energy : goal.returns-clause-energy
returns-clause-energy c =
    let l = c.loop-i in
    let n = length-magnitudes c.args.words.now c.args.channel (omega arith) in
    energy-all (magnitudes c.args.channel (map payload_of c.args.words.now)) l.i c.args.self.now.energy _
    (omega arith) l.invariant.energy
