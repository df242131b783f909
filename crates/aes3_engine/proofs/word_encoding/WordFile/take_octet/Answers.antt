use Rattle.std.proofs.Common.{◌≡◌, ◌∙◌, ◌+◌, ◌∷◌, [], take, length, ap, refl, sym, arith, length-append}
use Rattle.std.proofs.lemmas.List.{length-take-le, length-set, take_all, take_more_set}
use Rattle.aes3_engine.proofs.WordReads.{octet-fed}
use Rattle.aes3_engine.proofs.word_encoding.WordFile.take_octet.Goals as goal

pub returns-then-count-lt-WORD_LEN : goal.returns-then-count-lt-WORD_LEN
returns-then-count-lt-WORD_LEN g c =
    let s = c.args.self.now in
    let r = s.reader in
    let o = c.args.encoder.now in
    let n : length (take s.len s.begun) ≡ s.len = length-take-le s.len s.begun (omega arith) in
    let e = take_more_set s.begun s.len c.args.octet (omega arith) in
    let l = ap length e ∙ length-append (take s.len s.begun) (c.args.octet ∷ []) in
    let h = c.if-count-lt-WORD_LEN.true in (
      octet-fed r.words o.output r.file o.blocks r.left r.has_begun (take s.len s.begun) _ c.args.octet
          (g.T.Sink.taken c.args.sink.now) e (omega arith),
      refl,
    )

pub take_word-requires-clause-following : goal.take_word-requires-clause-following
take_word-requires-clause-following g c =
    let s = c.args.self.now in
    let q = c.requires.following in
    let n : length (take s.len s.begun) ≡ s.len = length-take-le s.len s.begun (omega arith) in
    let h = c.if-count-lt-WORD_LEN.false in
    let k = q.1 in
    (take s.len s.begun, q.0, omega arith, q.2)

pub returns : goal.returns
returns g c =
    let s = c.args.self.now in
    let n : length (take s.len s.begun) ≡ s.len = length-take-le s.len s.begun (omega arith) in
    let h = c.if-count-lt-WORD_LEN.false in
    let e = take_more_set s.begun s.len c.args.octet (omega arith) in
    let l = length-set s.begun s.len c.args.octet in
    c.take_word.ensures (take s.len s.begun) (c.args.octet ∷ []) (sym e ∙ take_all (s.len + 1) _ (omega arith))
    (omega arith)
