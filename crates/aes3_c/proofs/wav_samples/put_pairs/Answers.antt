use Rattle.std.proofs.Common.{rules, ◌≡◌, ◌+◌, ◌-◌, ◌*◌, ◌++◌, ◌∙◌, List, ℕ, drop, get_or, length, sym, take, ap, ap₂, arith}
use Rattle.std.proofs.lemmas.List.{drop-drop, length-drop, length-take-le}
use Rattle.std.proofs.lemmas.Slice.{drop-put_mid, overwrites}
use Rattle.aes3_frame.specs.Files.{word_bytes}
use Rattle.aes3_wave.specs.Formats.{frame_len}
use Rattle.aes3_wave.specs.Samples.{two_samples}
use Rattle.aes3_c.proofs.WavPairs.{pairs-more}
use Rattle.aes3_c.proofs.wav_samples.put_pairs.Goals as goal

pub loop-i-preserved : goal.loop-i-preserved
loop-i-preserved c =
    let f = c.args.format in
    let ch = c.args.channels in
    let i = c.loop-i.i in
    let xs = c.loop-i.samples in
    let ys = c.copy_from_slice.new.self in
    let at = c.loop-i.invariant.at in
    let len = c.loop-i.invariant.len in
    let n = c.frame_len-len.ensures.len in
    let room = c.requires.room in
    let test = c.loop-i-test.true in
    let d = length-drop (2 * i) xs in
    let after = c.copy_from_slice.ensures.after in
    let two : length ys ≡ 2
    = c.copy_from_slice.ensures.len ∙ length-take-le (2 * i + 2 - 2 * i) (drop (2 * i) xs) (omega arith) ∙ omega arith in
    let k : c.loop-i.at + c.frame_len-len.result - c.loop-i.at ≡ frame_len f = omega arith in
    record {
      len = search (rules, overwrites);
      at = omega arith;
      pairs = pairs-more f ch c.args.octets.now xs ys i (2 * i + 2 - 2 * i) (omega arith) two
          (ap (λ v. word_bytes (get_or v 0 0) ++ word_bytes (get_or v 1 0)) after ∙ c.words_of_pair.ensures
          ∙ c.two_samples-pair.ensures ∙ ap₂ (λ p q. two_samples f ch (take p (drop q c.args.octets.now))) k at)
          c.loop-i.invariant.pairs;
      others = drop-put_mid (2 * i) (2 * i + 2 - 2 * i) xs ys (2 * (i + 1)) (omega arith) (omega arith) (omega arith)
          ∙ later xs c.args.samples.now i c.loop-i.invariant.others;
    }
  where
    later : (xs was : List ℕ) (i : ℕ) → drop (2 * i) xs ≡ drop (2 * i) was
        → drop (2 * (i + 1)) xs ≡ drop (2 * (i + 1)) was
    later xs was i e =
        ap (λ n. drop n xs) (omega arith) ∙ sym (drop-drop 2 (2 * i) xs) ∙ ap (drop 2) e ∙ drop-drop 2 (2 * i) was
        ∙ ap (λ n. drop n was) (omega arith)
