use Rattle.std.proofs.Common.{codes}
use Rattle.aes3_capture_runs.specs.Lines.{thousandths}
use Rattle.aes3_capture_runs.proofs.Pushes.{three-pushed}
use Rattle.aes3_capture_runs.proofs.figures.add_distance.Goals as goal

pub returns : goal.returns
returns c =
    three-pushed c.push_str-2.result c.args.text.now.bytes.items
    (codes "aes3-cells: an edge was ") c.push_str.new.self.bytes.items
    (thousandths c.args.distance)
    (codes " of a cell from its expected place, and at 0.5 cells are wrong: take more samples a second\n")
    c.add_thousandths.new.text.bytes.items c.push_str-2.new.self.bytes.items c.in_ok-push_str.ensures.bytes
    c.in_ok-add_thousandths.ensures c.push_str-2.ensures.bytes
