use Rattle.std.proofs.Common.{codes, decimal}
use Rattle.aes3_capture_runs.proofs.Pushes.{three-pushed}
use Rattle.aes3_capture_runs.proofs.figures.add_lost.Goals as goal

pub returns : goal.returns
returns c =
    three-pushed c.push_str-2.result c.args.text.now.bytes.items
    (codes "aes3-cells: the line was lost and measured again ") c.push_str.new.self.bytes.items
    (decimal c.args.measured)
    (codes " times, so cells are likely to be wrong: check that it is an AES3 line, and take more samples a second\n")
    c.add_number.new.text.bytes.items c.push_str-2.new.self.bytes.items c.in_ok-push_str.ensures.bytes
    c.in_ok-add_number.ensures c.push_str-2.ensures.bytes
