use Rattle.std.proofs.Common.{◌∷◌, [], take, drop, get_or, arith, sym, refl, subst}
use Rattle.std.proofs.lemmas.List.{take_more}
use Rattle.std.proofs.lemmas.Result.{err_from_is_err_and}
use Rattle.std.proofs.Math.Seq.{drop-cons}
use Rattle.aes3_input.proofs.Feeding.{fed-is, fed-join, ran-join}
use Rattle.aes3_engine.specs.Encoding.{encoding_state, Encodes}
use Rattle.aes3_engine.proofs.EncodingLemmas.{bytes-quiet, encodes-seen}
use Rattle.aes3_engine.proofs.encoding.take_few.Goals as goal

pub feed_front-requires : goal.feed_front-requires
feed_front-requires g c = let h = c.requires.following in let l = h.1 in let e = encodes-seen h.2 in omega arith

pub returns-then-feed_front : goal.returns-then-feed_front
returns-then-feed_front g c = (
  omega arith,
  c.feed_front.ensures.bound c.if-feed_front.true,
  bytes-quiet c.args.encoder.now.output c.args.file.now c.feed_front.new.file (take 4 c.args.piece.now)
      (g.T.Sink.taken c.args.sink.now) (c.feed_front.ensures.quiet c.if-feed_front.true),
  refl,
)

pub returns-in_err-take_byte : goal.returns-in_err-take_byte
returns-in_err-take_byte g c =
    let xs = c.args.piece.now in
    let k = c.requires.some in
    let encoder = c.args.encoder.now in
    let new = c.take_byte.new in
    let p = err_from_is_err_and c.from_residual.result c.from_residual.ensures.1 in
    rw (p.1, p.2) (ran-join (encoding_state encoder.output c.args.file.now encoder.blocks)
    (encoding_state encoder.output c.feed_front.new.file encoder.blocks)
    (encoding_state new.encoder.output new.file new.encoder.blocks)
    (g.T.Sink.taken c.take_byte.new.sink) (g.T.Sink.failed c.take_byte.new.sink)
    (get_or xs 0 0 ∷ []) (drop 1 xs) xs _
    (bytes-quiet c.args.encoder.now.output c.args.file.now c.feed_front.new.file [] (g.T.Sink.taken c.args.sink.now)
    (c.feed_front.ensures.unchanged c.if-feed_front.false))
    refl (sym (drop-cons xs 0 0 (omega arith))) c.in_err-take_byte.ensures)

pub take_byte-requires-clause-following : goal.take_byte-requires-clause-following
take_byte-requires-clause-following g c =
    let q = c.requires.following in
    let l = q.1 in
    let k = c.requires.some in
    let e = c.feed_front.ensures.unchanged c.if-feed_front.false in
    (q.0, omega arith, subst (λ f. Encodes f c.args.encoder.now.blocks q.0) (sym e) q.2)

pub returns : goal.returns
returns g c =
    let xs = c.args.piece.now in
    let k = c.requires.some in
    let f = c.feed_front.new.file in
    let e = c.feed_front.ensures.unchanged c.if-feed_front.false in
    let q = bytes-quiet c.args.encoder.now.output c.args.file.now f [] (g.T.Sink.taken c.args.sink.now) e in (
      omega arith,
      omega arith,
      fed-is (sym (take_more xs 0 0 k)) (fed-join q c.in_ok-take_byte.ensures.0),
      c.in_ok-take_byte.ensures.1,
    )
