use Rattle.std.proofs.Common.{◌+◌, ◌∙◌, sym}
use Rattle.aes3_engine.specs.Filling.{frames_filled}
use Rattle.aes3_engine.proofs.FillTimes.{frames-told, no-frames}
use Rattle.aes3_engine.proofs.filling.FilledBlocks.frames.Goals as goal

pub returns-in-None : goal.returns-in-None
returns-in-None c = λ xs q e n. no-frames c.args.self.now.fill xs (sym c.in-None.is ∙ e)

pub returns-in-Some : goal.returns-in-Some
returns-in-Some c = λ xs q e n.
    c.beside_blocks.ensures (frames_filled xs)
    (frames-told c.args.self.now.fill xs c.in-Some.progress (c.args.blocks + c.args.marked) q
    (sym c.in-Some.is ∙ e) n)
