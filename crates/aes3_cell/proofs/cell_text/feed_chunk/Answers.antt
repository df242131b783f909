use Rattle.aes3_cell.proofs.TextReads.{read-chunk}
use Rattle.aes3_cell.proofs.cell_text.feed_chunk.Goals as goal

pub returns-in-Some-clause-read : goal.returns-in-Some-clause-read
returns-in-Some-clause-read c =
    let q = c.feed_scattered.ensures in
    read-chunk c.args.text.now c.feed_scattered.new.self c.args.piece.now c.in-Some.bytes.now c.feed_scattered.result
    c.in-Some.ensures.cases.same c.in-Some.ensures.cases.enough q.cells q.lawful q.seen
