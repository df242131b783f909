use Rattle.std.proofs.Common.{◌≡◌, ◌%◌, length, ap, ◌∙◌, arith, rules}
use Rattle.aes3_cell.proofs.Writing.{wrote-is}
use Rattle.aes3_engine.specs.Filling.{repeated}
use Rattle.aes3_engine.proofs.FillSteps.{narrowed-frames}
use Rattle.aes3_engine.proofs.filling.put_narrowed_frames.Goals as goal

pub returns : goal.returns
returns g c =
    let w : length c.args.frame % 4 ≡ 0 = omega arith in
    wrote-is (ap (repeated c.args.count) c.narrow-len.ensures.octets
    ∙ narrowed-frames c.args.format c.args.count c.args.frame w)
    (search (rules, c.put_frames.ensures))
