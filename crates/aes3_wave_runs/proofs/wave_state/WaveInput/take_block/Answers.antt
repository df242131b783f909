use Rattle.std.proofs.Common.{◌∙◌, sym, ap, arith, length}
use Rattle.std.proofs.lemmas.List.{length-take-le, take_all}
use Rattle.aes3_wave_runs.proofs.WrittenFrames.{first-frames, frame-most}
use Rattle.aes3_wave_runs.proofs.wave_state.WaveInput.take_block.Goals as goal

pub take_widened-requires-clause-block : goal.take_widened-requires-clause-block
take_widened-requires-clause-block g c =
    let s = c.args.self.now in
    let first = c.in-Some.ensures.cases in
    let xs = c.args.octets.now in
    let block = c.in-Some.block.now in
    let enough = first.enough in
    let is = first.same in
    let due = c.frames_due-count.ensures in
    let few = due.few in
    let long = ap length is ∙ length-take-le 1536 xs (omega arith) in
    first-frames s.format s.channels c.args.form c.frames_due-count.result 1536 xs block c.requires.form long
    (omega arith) due.frames
    (frame-most s.format s.channels c.args.form c.frames_due-count.result c.requires.form (omega arith))
    (take_all 1536 block (omega arith) ∙ is)

pub take_widened-requires-in-None-clause-block : goal.take_widened-requires-in-None-clause-block
take_widened-requires-in-None-clause-block g c =
    let s = c.args.self.now in
    let xs = c.args.octets.now in
    let block = c.block_of.ensures in
    let due = c.frames_due-count.ensures in
    let few = due.few in
    first-frames s.format s.channels c.args.form c.frames_due-count.result (length xs) xs c.block_of.result
    c.requires.form block.len (omega arith) due.frames due.frames
    (block.front ∙ sym (take_all (length xs) xs (omega arith)))
