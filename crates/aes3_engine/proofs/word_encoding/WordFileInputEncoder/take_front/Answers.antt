use Rattle.std.proofs.Common.{◌≡◌, ◌∷◌, [], ◌++◌, take, drop, get_or, length, arith, sym, refl, ap, ◌∙◌}
use Rattle.std.proofs.Common.{take-append-drop, Ok, Err}
use Rattle.std.proofs.lemmas.List.{take_more}
use Rattle.std.proofs.lemmas.Result.{err_from_is_err_and}
use Rattle.std.proofs.Math.Seq.{drop-cons}
use Rattle.aes3_input.specs.Running.{movement_of}
use Rattle.aes3_input.proofs.Feeding.{fed-is, fed-none, ran-join}
use Rattle.aes3_engine.specs.Words.{words_state}
use Rattle.aes3_engine.proofs.WordReads.{none-begun}
use Rattle.aes3_engine.proofs.word_encoding.WordFileInputEncoder.take_front.Goals as goal

pub take_word-requires-clause-following : goal.take_word-requires-clause-following
take_word-requires-clause-following g c =
    let s = c.args.self.now in
    let q = c.requires.following in
    let e = c.in-Some.ensures.enough in
    let k = q.1 in
    (take s.len s.begun, q.0, omega arith, q.2)

pub take_octet-requires-clause-following : goal.take_octet-requires-clause-following
take_octet-requires-clause-following g c =
    let q = c.requires.following in
    let k = q.1 in
    let h = c.requires.some in
    (q.0, omega arith, q.2)

pub returns-in-Some : goal.returns-in-Some
returns-in-Some g c =
    let s = c.args.self.now in
    let r = s.reader in
    let o = c.args.encoder.now in
    let n = c.take_word.new in
    let none : take s.len s.begun ≡ [] = ap (λ k. take k s.begun) c.in-Some.ensures.none_begun in
    let l = ap length none in
    let ran = none-begun (words_state r.words o.output r.file o.blocks r.left r.has_begun (take s.len s.begun))
    n.self.words n.encoder.output n.self.file n.encoder.blocks n.self.left n.self.has_begun (take s.len s.begun)
    c.in-Some.word (movement_of g.T.Sink.taken g.T.Sink.failed c.args.sink.now n.sink) (Ok tt) none
    (c.in_ok-take_word.ensures (take s.len s.begun) c.in-Some.word (ap (λ v. v ++ c.in-Some.word) none) (omega arith)) in
    (omega arith, c.in-Some.ensures.enough, fed-is c.in-Some.ensures.word ran.0, ran.1)

pub returns-in_err-take_word : goal.returns-in_err-take_word
returns-in_err-take_word g c =
    let s = c.args.self.now in
    let r = s.reader in
    let o = c.args.encoder.now in
    let n = c.take_word.new in
    let xs = c.args.piece.now in
    let none : take s.len s.begun ≡ [] = ap (λ k. take k s.begun) c.in-Some.ensures.none_begun in
    let l = ap length none in
    let old = words_state r.words o.output r.file o.blocks r.left r.has_begun (take s.len s.begun) in
    let new = words_state n.self.words n.encoder.output n.self.file n.encoder.blocks n.self.left n.self.has_begun
    (take s.len s.begun) in
    let ran = none-begun old n.self.words n.encoder.output n.self.file n.encoder.blocks n.self.left n.self.has_begun
    (take s.len s.begun) c.in-Some.word (movement_of g.T.Sink.taken g.T.Sink.failed c.args.sink.now n.sink) (Err _) none
    (c.in_err-take_word.ensures (take s.len s.begun) c.in-Some.word (ap (λ v. v ++ c.in-Some.word) none) (omega arith)) in
    let p = err_from_is_err_and c.from_residual.result c.from_residual.ensures.1 in
    rw (p.1, p.2) (ran-join old old new (g.T.Sink.taken n.sink) (g.T.Sink.failed n.sink) c.in-Some.word (drop 4 xs) xs _
    (fed-none old.reads old.follows (g.T.Sink.taken c.args.sink.now)) refl
    (ap (λ v. v ++ drop 4 xs) c.in-Some.ensures.word ∙ take-append-drop 4 xs) ran)

pub returns : goal.returns
returns g c =
    let xs = c.args.piece.now in (
      omega arith,
      c.requires.some,
      fed-is (sym (take_more xs 0 0 c.requires.some)) c.in_ok-take_octet.ensures.0,
      c.in_ok-take_octet.ensures.1,
    )

pub returns-in_err-take_octet : goal.returns-in_err-take_octet
returns-in_err-take_octet g c =
    let s = c.args.self.now in
    let r = s.reader in
    let o = c.args.encoder.now in
    let n = c.take_octet.new in
    let xs = c.args.piece.now in
    let old = words_state r.words o.output r.file o.blocks r.left r.has_begun (take s.len s.begun) in
    let e = c.from_residual-in_err-take_octet in
    let p = err_from_is_err_and e.result e.ensures.1 in
    rw (p.1, p.2) (ran-join old old
    (words_state n.self.reader.words n.encoder.output n.self.reader.file n.encoder.blocks n.self.reader.left
    n.self.reader.has_begun (take n.self.len n.self.begun))
    (g.T.Sink.taken n.sink) (g.T.Sink.failed n.sink) (get_or xs 0 0 ∷ []) (drop 1 xs) xs _
    (fed-none old.reads old.follows (g.T.Sink.taken c.args.sink.now)) refl (sym (drop-cons xs 0 0 c.requires.some))
    c.in_err-take_octet.ensures)
