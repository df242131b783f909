use Rattle.std.proofs.Common.{◌∙◌, ◌-◌, ◌++◌, [], refl, sym, ap, length}
use Rattle.std.proofs.Common.{length-append, arith, rules, Ok}
use Rattle.aes3_forms_words.specs.Forms.{own_word}
use Rattle.aes3_forms_words.specs.Lists.{each_word, own_of}
use Rattle.aes3_forms_words.proofs.Ahead.{length-own-le, next-left, next-own}
use Rattle.aes3_input.specs.Running.{movement_of}
use Rattle.aes3_input.proofs.Feeding.{fed-none}
use Rattle.aes3_engine.specs.Encoding.{Encodes, encoding}
use Rattle.aes3_engine.proofs.EncodingLemmas.{encodes-seen}
use Rattle.aes3_engine.proofs.WordReads.{some-left, word-ran}
use Rattle.aes3_engine.proofs.word_encoding.WordReader.take_word.Goals as goal

pub overflow_sub-self : goal.overflow_sub-self
overflow_sub-self g c =
    let s = c.args.self.now in
    some-left s.has_begun s.words s.left _ (sym c.is_left_out.ensures ∙ c.if-is_left_out.true)

pub returns-then-is_left_out : goal.returns-then-is_left_out
returns-then-is_left_out g c = λ begun piece e f.
    let s = c.args.self.now in
    let o = c.args.encoder.now in
    word-ran s.words o.output o.output s.file s.file o.blocks o.blocks s.left (s.left - 1) s.has_begun s.has_begun
    c.args.word [] begun piece
    (record {
      by = λ words count w h a.
          next-left s.has_begun s.words s.left words c.args.word a (search rules)
          (sym c.is_left_out.ensures ∙ c.if-is_left_out.true);
    }) (search rules) e (movement_of g.T.Sink.taken g.T.Sink.failed c.args.sink.now c.args.sink.now) (Ok tt)
    (fed-none (encoding o.output) (Encodes s.file o.blocks) (g.T.Sink.taken c.args.sink.now), refl)

pub feed_fronts-requires-clause-following : goal.feed_fronts-requires-clause-following
feed_fronts-requires-clause-following g c =
    let q = c.requires.following in
    let h = q.3 in
    let l = length-own-le c.args.self.now.words h.words in
    let n = ap length h.is ∙ length-append h.words q.0 in
    let k = q.2 in
    (own_of c.args.self.now.words h.words, omega arith, h.encodes)

pub returns : goal.returns
returns g c = λ begun piece e f.
    let s = c.args.self.now in
    let o = c.args.encoder.now in
    let n = c.feed_fronts.new in
    word-ran s.words o.output n.taker.output s.file n.input o.blocks n.taker.blocks s.left s.left s.has_begun _
    c.args.word c.read_word-own.result begun piece
    (record {
      by = λ words count w h a.
          let r = next-own s.has_begun s.words s.left count words c.args.word a w (search rules)
          (sym c.is_left_out.ensures ∙ c.if-is_left_out.false) in
          let k = encodes-seen h in (
            r.0 ∙ ap (λ t. own_of s.words words ++ t) (ap (λ place. each_word (own_word s.words) place c.args.word)
                (omega (arith, k, c.seen.ensures)) ∙ sym c.read_word-own.ensures),
            r.1,
          );
    }) (search rules) e _ _ c.feed_fronts.ensures
