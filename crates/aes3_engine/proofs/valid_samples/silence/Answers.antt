use Rattle.std.proofs.Common.{◌≡◌, ◌*◌, length, sym, ap, ◌∙◌, arith}
use Rattle.std.proofs.lemmas.List.{length-map}
use Rattle.aes3_frame.specs.Files.{payload_of}
use Rattle.aes3_frame.proofs.BlockLemmas.{block_subframes_384}
use Rattle.aes3_engine.proofs.ValidSamples.{frame-more, silent-all}
use Rattle.aes3_engine.proofs.valid_samples.silence.Goals as goal

pub loop-i-preserved : goal.loop-i-preserved
loop-i-preserved c =
    frame-more c.loop-i.i c.args.block.now c.loop-i.block _ _ _ _ _ c.loop-i.invariant c.frame-frame.ensures.first
    c.frame-frame.ensures.second c.silence_subframe.ensures c.silence_subframe-in-loop-i.ensures c.set_frame.ensures

pub returns : goal.returns
returns c =
    let n = block_subframes_384 in
    let w = c.words.ensures.count in
    let l : length c.args.block.now ≡ length c.words.result.now =
    sym (ap length c.words.ensures.payloads) ∙ length-map c.words.result.now payload_of in
    silent-all (2 * c.loop-i.i) c.args.block.now c.loop-i.block (omega arith) c.loop-i.invariant
