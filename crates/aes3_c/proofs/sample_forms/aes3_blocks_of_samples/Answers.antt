use Rattle.std.proofs.Common.{◌≡◌, ◌+◌, ◌-◌, ◌*◌, ◌/◌, ◌≤◌, ◌∙◌, ap, ap₂, arith, drop, length, map, min, sym, take}
use Rattle.std.proofs.lemmas.Slice.{drop-put_mid}
use borrow.Rule.Slice.PartMut.{put_mid}
use Rattle.aes3_forms_samples.specs.Formats.{block_len, widened}
use Rattle.aes3_frame.specs.Files.{is_lawful, payload_of, words_of}
use Rattle.aes3_frame.specs.Sampled.{payload_of_sample}
use Rattle.aes3_c.specs.Blocks.{piece_at, sample_form, word_in}
use Rattle.aes3_c.proofs.BlockOctets.{sampled-put}
use Rattle.aes3_c.proofs.BlockPieces.{lawful-more, length-put, number-before, piece-here, rest-later, word-of-piece}
use Rattle.aes3_c.proofs.sample_forms.aes3_blocks_of_samples.Goals as goal

pub loop-i-preserved : goal.loop-i-preserved
loop-i-preserved c =
    let form = sample_form c.args.form in
    let len = block_len form in
    let octets = c.args.octets.now in
    let xs = c.loop-i.words in
    let ys = c.copy_from_slice.new.self in
    let block = c.sampled_words-block.result in
    let i = c.loop-i.i in
    let k = 384 * i + 384 - 384 * i in
    let at = c.loop-i.invariant.at in
    let test = c.loop-i-test.true in
    let same = c.loop-i.invariant.len in
    let is = c.block_len-len.ensures.len ∙ ap block_len c.sample_form-format.ensures in
    let count = c.min-count.ensures ∙ ap (λ n. min (length c.args.words.now / 384) (length octets / n)) is in
    let put = c.copy_from_slice.ensures.after in
    let n : length block ≡ 384 = omega arith in
    let size : length ys ≡ 384 = ap length put ∙ n in
    let within : 384 * i ≤ length xs = omega (arith, count, test, same) in
    let slice : take (c.loop-i.at + c.block_len-len.result - c.loop-i.at) (drop c.loop-i.at octets) ≡ piece_at len i octets
    = ap₂ (λ m a. take m (drop a octets)) (omega (arith, is)) at in
    let made : map payload_of ys ≡ map payload_of_sample (words_of (widened form (piece_at len i octets)))
    = ap (map payload_of) put ∙ c.sampled_words-block.ensures.payloads
    ∙ ap₂ (λ f b. map payload_of_sample (words_of (widened f b))) c.sample_form-format.ensures slice in
    let here = piece-here 384 i k xs ys size within in
    record {
      len = length-put (384 * i) k xs ys (omega (arith, count, test, same)) (size ∙ omega arith) ∙ same;
      at = omega (arith, at, is);
      each = sampled-put form octets xs ys i k size within c.loop-i.invariant.each made;
      lawful = λ j h. lawful-more (word_in (put_mid (384 * i) k xs ys)) ys i 384 (omega arith)
          (word-of-piece (put_mid (384 * i) k xs ys) ys i (sym here))
          (λ m l. ap is_lawful (number-before (384 * i) k xs ys m l within) ∙ c.loop-i.invariant.lawful m l)
          (λ m l. ap (λ b. is_lawful (word_in b m)) put ∙ c.sampled_words-block.ensures.lawful m l)
          j (omega (arith, h));
      others = drop-put_mid (384 * i) k xs ys (384 * (i + 1)) (omega arith) within (size ∙ omega arith)
          ∙ rest-later 384 i xs c.args.words.now c.loop-i.invariant.others;
    }
