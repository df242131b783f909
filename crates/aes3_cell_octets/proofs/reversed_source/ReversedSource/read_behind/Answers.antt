use Rattle.std.proofs.Common.{take, ap, arith}
use Rattle.aes3_cell.proofs.Growing.{grew-is}
use Rattle.aes3_cell_octets.proofs.ReversedEnds.{last-given, more-given}
use Rattle.aes3_cell_octets.proofs.reversed_source.ReversedSource.read_behind.Goals as goal

pub returns-then-n-eq0-clause-bytes : goal.returns-then-n-eq0-clause-bytes
returns-then-n-eq0-clause-bytes g c =
    let none = ap (λ n. take n c.read.new.buf) c.if-n-eq0.true in
    let some = c.requires.some in
    let size = c.read.auto.buf in
    last-given c.args.octet c.read.new.buf c.requires.held (omega (arith, some, size))
    (grew-is none c.in_ok-n.ensures.bytes)

pub returns-clause-bytes : goal.returns-clause-bytes
returns-clause-bytes g c =
    let some = c.if-n-eq0.false in
    more-given c.args.octet c.in_ok-n.n c.read.new.buf c.reverse_behind.new.octets c.requires.held (omega (arith, some))
    c.in_ok-n.ensures.bound c.in_ok-n.ensures.bytes c.reverse_behind.ensures
