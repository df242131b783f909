use Rattle.std.proofs.Common.{length, take, ap, rules}
use Rattle.aes3_cell.proofs.Growing.{grew-is}
use Rattle.aes3_cell_octets.proofs.Ends.{some-items, still-raw, zero-behind}
use Rattle.aes3_cell_octets.proofs.raw.RawSourceSource.read.Goals as goal

pub returns-in-Ok-eq0-clause-bytes : goal.returns-in-Ok-eq0-clause-bytes
returns-in-Ok-eq0-clause-bytes g c =
    let none = ap (λ n. take n c.read.new.buf) c.in-Ok-eq0.field-0-test in
    let some = some-items (length c.args.buf.now) (length c.read.new.buf)
    c.is_empty.ensures c.if-is_empty.false c.read.auto.buf in
    still-raw c.if-self.false (search (rules, zero-behind c.read.new.buf some (grew-is none c.in-Ok-eq0.ensures.bytes)))
