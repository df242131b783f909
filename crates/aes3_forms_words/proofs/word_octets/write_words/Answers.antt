use Rattle.std.proofs.Common.{◌*◌, ◌+◌, ◌-◌, ◌%◌, ◌≡◌, ◌∙◌, ◌++◌, take, drop, ap, refl, arith}
use Rattle.aes3_forms_words.specs.Forms.{written_word}
use Rattle.aes3_forms_words.specs.Lists.{each_word}
use Rattle.aes3_forms_words.proofs.EachWord.{all-words, word-more}
use Rattle.aes3_forms_words.proofs.OneWord.{written-fours}
use Rattle.aes3_forms_words.proofs.word_octets.write_words.Goals as goal

pub loop-i-preserved : goal.loop-i-preserved
loop-i-preserved c =
    let i = c.loop-i.i in
    let xs = c.args.octets.now in
    let f = written_word c.args.form in
    let within = c.loop-i-test.true in
    let size : 4 * i + 4 - 4 * i ≡ 4 = omega arith in
    let next : 4 * i + 4 ≡ 4 * (i + 1) = omega arith in
    let at : i % 384 ≡ (0 + i) % 384 = omega arith in
    word-more f (written-fours c.args.form) 0 i (i % 384) (4 * i) (4 * i + 4 - 4 * i) xs c.loop-i.octets
    c.write_one.new.octets c.loop-i.invariant (omega arith) refl (omega (arith, within)) size at
    (c.write_one.ensures
    ∙ ap (λ place. each_word f place (take (4 * i + 4 - 4 * i) (drop (4 * i) c.loop-i.octets))) (omega arith)
    ∙ ap (λ n. each_word f (i % 384) (take n (drop (4 * i) c.loop-i.octets))) size)
    ∙ ap (λ n. each_word f 0 (take n xs) ++ drop n xs) next

pub returns-clause-words : goal.returns-clause-words
returns-clause-words c =
    let xs = c.args.octets.now in
    let last = c.loop-i-test.false in
    let end = c.loop-i.auto.i-end in
    c.loop-i.invariant
    ∙ all-words (written_word c.args.form) 0 c.loop-i.i (4 * c.loop-i.i) xs (omega arith) refl
    (omega (arith, last, end)) (omega (arith, last, end))
