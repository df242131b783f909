use Rattle.std.proofs.Common.{codes, decimal}
use Rattle.aes3_capture_runs.proofs.Pushes.{three-pushed}
use Rattle.aes3_capture_runs.proofs.figures.add_cells.Goals as goal

pub returns : goal.returns
returns c =
    three-pushed c.push_str-2.result c.args.text.now.bytes.items
    (codes "aes3-cells: ") c.push_str.new.self.bytes.items
    (decimal c.args.figures.now.cells)
    (codes
    " cells")
    c.add_number.new.text.bytes.items c.push_str-2.new.self.bytes.items c.in_ok-push_str.ensures.bytes
    c.in_ok-add_number.ensures c.push_str-2.ensures.bytes
