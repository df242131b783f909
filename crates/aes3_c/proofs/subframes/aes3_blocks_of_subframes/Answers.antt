use Rattle.std.proofs.Common.{◌≡◌, ◌+◌, ◌-◌, ◌*◌, ◌/◌, ◌∙◌, ap, ap₂, arith, drop, length, refl, sym, take}
use Rattle.std.specs.List.{flat_map}
use Rattle.std.proofs.lemmas.Slice.{drop-put_mid}
use borrow.Rule.Slice.PartMut.{put_mid}
use Rattle.aes3_forms_words.specs.Forms.{own_word}
use Rattle.aes3_forms_words.specs.Lists.{each_word}
use Rattle.aes3_frame.specs.Files.{word_bytes}
use Rattle.aes3_c.specs.Blocks.{word_read, words_form}
use Rattle.aes3_c.proofs.BlockPieces.{all-right, first-wrong, lawful-more, length-put, put-same, rest-later}
use Rattle.aes3_c.proofs.BlockWords.{blocks-own, read-is, word-of-own}
use Rattle.aes3_c.proofs.subframes.aes3_blocks_of_subframes.Goals as goal

pub loop-i-preserved : goal.loop-i-preserved
loop-i-preserved c =
    let form = words_form c.args.form in
    let octets = c.args.octets.now in
    let xs = c.loop-i.words in
    let ys = c.put_words.new.words in
    let own = c.own_words-own.result in
    let i = c.loop-i.i in
    let k = 384 * i + 384 - 384 * i in
    let test = c.loop-i-test.true in
    let same = c.loop-i.invariant.len in
    let count = c.min-count.ensures in
    let read = read-is form c.words_form-read.result own octets i (1536 * i + 1536 - 1536 * i) c.own_words-own.ensures
    c.words_form-read.ensures (omega arith) in
    let put = c.in_default.ensures.put in
    let n : length own ≡ 384 = omega arith in
    let size : length ys ≡ 384 = ap length put ∙ n in
    record {
      len = length-put (384 * i) k xs ys (omega (arith, count, test, same)) (size ∙ omega arith) ∙ same;
      right = λ j h. lawful-more (word_read form octets) own i 384 (omega arith)
          (word-of-own form own octets i n c.in_default.ensures.fits (omega (arith, count, test)) read)
          c.loop-i.invariant.right c.in_default.ensures.right j (omega (arith, h));
      words = blocks-own form xs ys octets i k size (omega (arith, count, test, same)) (omega (arith, count, test))
          c.loop-i.invariant.words (ap (flat_map word_bytes) put ∙ read);
      others = drop-put_mid (384 * i) k xs ys (384 * (i + 1)) (omega arith) (omega (arith, count, test, same)) (size ∙ omega arith)
          ∙ rest-later 384 i xs c.args.words.now c.loop-i.invariant.others;
    }

-- a block whose words are not all lawful: memory is as it was
kept : (c : goal.In-Err)
    → put_mid (384 * c.loop-i.i) (384 * c.loop-i.i + 384 - 384 * c.loop-i.i) c.loop-i.words c.put_words.new.words ≡ c.loop-i.words
kept c = put-same (384 * c.loop-i.i) (384 * c.loop-i.i + 384 - 384 * c.loop-i.i) (384 * c.loop-i.i + 384 - 384 * c.loop-i.i)
    c.loop-i.words c.put_words.new.words c.in-Err.ensures.left refl

-- and its number
number : (c : goal.In-Err) → (384 * c.loop-i.i + c.in-Err.word) / 384 ≡ c.loop-i.i
number c = let few = c.in-Err.ensures.within in omega (arith, few)

pub returns-clause-answer : goal.returns-clause-answer
returns-clause-answer c =
    let count = c.min-count.ensures in
    let last = c.loop-i-test.false in
    let end = c.loop-i.auto.i-end in
    all-right (word_read (words_form c.args.form) c.args.octets.now) _ (384 * c.min-count.result) (ap (λ n. 384 * n) count)
    (λ k h. c.loop-i.invariant.right k (omega (arith, h, last, end, count)))

pub returns-in-Err-clause-answer : goal.returns-in-Err-clause-answer
returns-in-Err-clause-answer c =
    let form = words_form c.args.form in
    let octets = c.args.octets.now in
    let own = c.own_words-own.result in
    let i = c.loop-i.i in
    let test = c.loop-i-test.true in
    let count = c.min-count.ensures in
    let read = read-is form c.words_form-read.result own octets i (1536 * i + 1536 - 1536 * i) c.own_words-own.ensures
    c.words_form-read.ensures (omega arith) in
    let bad = c.in-Err.ensures in
    first-wrong (word_read form octets) own _ i c.in-Err.word _ refl (omega (arith, count, test)) bad.within
    (word-of-own form own octets i (omega arith) bad.fits (omega (arith, count, test)) read)
    c.loop-i.invariant.right bad.lawful bad.unlawful

pub returns-in-Err-clause-words : goal.returns-in-Err-clause-words
returns-in-Err-clause-words c =
    ap₂ (λ n xs. flat_map word_bytes (take (384 * n) xs)) (number c) (kept c) ∙ c.loop-i.invariant.words
    ∙ ap (λ n. each_word (own_word (words_form c.args.form)) 0 (take (1536 * n) c.args.octets.now)) (sym (number c))

pub returns-in-Err-clause-others : goal.returns-in-Err-clause-others
returns-in-Err-clause-others c =
    ap₂ (λ n xs. drop (384 * n) xs) (number c) (kept c) ∙ c.loop-i.invariant.others
    ∙ ap (λ n. drop (384 * n) c.args.words.now) (sym (number c))
