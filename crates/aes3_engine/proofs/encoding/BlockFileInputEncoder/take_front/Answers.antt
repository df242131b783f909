use Rattle.std.proofs.Common.{◌≤◌, ◌+◌, ◌^◌, ℕ, List, length, take, drop, arith, sym, subst, take-append-drop}
use Rattle.aes3_block.specs.Readers.{FileReader}
use Rattle.aes3_input.specs.Running.{FrontRan, movement_of}
use Rattle.aes3_engine.specs.Encoding.{encoding_state, Encodes}
use Rattle.aes3_engine.proofs.EncodingLemmas.{block-fed, block-front, encodes-seen, few-blocks}
use Rattle.aes3_engine.proofs.encoding.BlockFileInputEncoder.take_front.Goals as goal

pub feed_block-requires : goal.feed_block-requires
feed_block-requires g c = let h = c.requires.following in let l = h.1 in let e = encodes-seen h.2 in omega arith

pub overflow_add-encoder : goal.overflow_add-encoder
overflow_add-encoder g c =
    let h = c.requires.following in
    let l = h.1 in
    let f = few-blocks h.0 h.2.lawful in
    let e = h.2.count in
    omega arith

pub returns-in-Ok : goal.returns-in-Ok
returns-in-Ok g c = (
  omega arith,
  c.in-Some.ensures.bound,
  block-fed c.args.encoder.now.output c.args.self.now c.feed_block.new.file (take 1536 c.args.piece.now) c.in-Some.block
      (g.T.Sink.taken c.args.sink.now) (g.T.Sink.taken c.put_cells.new.sink)
      c.in-Some.ensures.taken c.in-Ok.ensures.grew,
  c.in-Ok.ensures.no_failure,
)

pub returns-in-Err : goal.returns-in-Err
returns-in-Err g c = (
  c.in-Err.ensures.err.0,
  block-front c.args.encoder.now.output c.args.self.now c.feed_block.new.file (take 1536 c.args.piece.now)
      (drop 1536 c.args.piece.now) c.args.piece.now c.in-Some.block
      (g.T.Sink.taken c.args.sink.now) (g.T.Sink.taken c.put_cells.new.sink) c.in-Some.ensures.taken
      (take-append-drop 1536 c.args.piece.now) c.in-Err.ensures.err.1,
)

pub take_few-requires-clause-following : goal.take_few-requires-clause-following
take_few-requires-clause-following g c =
    subst (λ (f : FileReader). (b : List ℕ) × (length b + length c.args.piece.now ≤ 2 ^ 40)
    × Encodes f c.args.encoder.now.blocks b)
    (sym (c.feed_block.ensures.unchanged c.in-None.is)) c.requires.following

pub returns-in-None : goal.returns-in-None
returns-in-None g c =
    let n = c.take_few.new in
    subst (λ (f : FileReader). FrontRan (encoding_state c.args.encoder.now.output f c.args.encoder.now.blocks)
    (encoding_state n.encoder.output n.file n.encoder.blocks) c.args.piece.now
    (movement_of g.T.Sink.taken g.T.Sink.failed c.args.sink.now n.sink) c.take_few.result)
    (c.feed_block.ensures.unchanged c.in-None.is) c.take_few.ensures
