use Rattle.std.proofs.Common.{◌≡◌, ◌+◌, ◌-◌, ◌*◌, ◌/◌, ◌≤◌, ◌∙◌, ap, ap₂, arith, drop, length, map, min, refl, sym}
use Rattle.std.proofs.Common.{take}
use Rattle.std.specs.List.{flat_map}
use Rattle.std.proofs.lemmas.List.{length-drop, length-take-le, take_rest}
use Rattle.std.proofs.lemmas.Slice.{drop-put_mid}
use borrow.Rule.Slice.PartMut.{put_mid}
use Rattle.aes3_frame.specs.Files.{blocks_in, payload_of}
use Rattle.aes3_c.specs.Blocks.{block_at, form_len, octets_in, piece_at, word_in}
use Rattle.aes3_c.proofs.BlockOctets.{blocks-put, each-put}
use Rattle.aes3_c.proofs.BlockPieces.{first-wrong, known-some, lawful-more, length-put, piece-room, put-same, rest-later, word-of-piece}
use Rattle.aes3_c.proofs.blocks.put_blocks.Goals as goal

-- a block whose words are not all lawful: memory is as it was
kept : (c : goal.In-Err)
    → put_mid c.loop-i.at (c.loop-i.at + c.len-len.result - c.loop-i.at) c.loop-i.octets c.put_block.new.octets ≡ c.loop-i.octets
kept c = put-same c.loop-i.at (c.loop-i.at + c.len-len.result - c.loop-i.at) (c.loop-i.at + c.len-len.result - c.loop-i.at)
    c.loop-i.octets c.put_block.new.octets c.in-Err.ensures.left refl

-- and its number
number : (c : goal.In-Err) → (384 * c.loop-i.i + c.in-Err.word) / 384 ≡ c.loop-i.i
number c = let few = c.in-Err.ensures.within in omega (arith, few)

pub returns-in-Err-clause-answer : goal.returns-in-Err-clause-answer
returns-in-Err-clause-answer c =
    let words = c.args.words.now in
    let i = c.loop-i.i in
    let block : c.unwrap-block.result.now ≡ piece_at 384 i words
    = (known-some _ _ _ _ c.unwrap-block.ensures c.first_chunk.ensures.cases).same ∙ ap (take 384) (take_rest words (384 * i)) in
    let count = c.min-count.ensures
    ∙ ap (λ n. min (length words / 384) (length c.args.octets.now / n)) c.len-len.ensures.len in
    let test = c.loop-i-test.true in
    let bad = c.in-Err.ensures in
    first-wrong (word_in words) c.unwrap-block.result.now _ i c.in-Err.word _ refl (omega (arith, count, test)) bad.within
    (word-of-piece words c.unwrap-block.result.now i block) c.loop-i.invariant.right bad.lawful bad.unlawful

pub returns-in-Err-clause-all : goal.returns-in-Err-clause-all
returns-in-Err-clause-all c =
    let f = c.args.form in
    ap₂ (λ n xs. take (form_len f * n) xs) (number c) (kept c) ∙ c.loop-i.invariant.all
    ∙ ap (λ n. flat_map (octets_in f) (blocks_in n c.args.words.now)) (sym (number c))

pub returns-in-Err-clause-each : goal.returns-in-Err-clause-each
returns-in-Err-clause-each c = λ j h.
    let n = number c in
    ap (piece_at (form_len c.args.form) j) (kept c) ∙ c.loop-i.invariant.each j (omega (arith, n, h))

pub returns-in-Err-clause-others : goal.returns-in-Err-clause-others
returns-in-Err-clause-others c =
    let f = c.args.form in
    ap₂ (λ n xs. drop (form_len f * n) xs) (number c) (kept c) ∙ c.loop-i.invariant.others
    ∙ ap (λ n. drop (form_len f * n) c.args.octets.now) (sym (number c))

pub loop-i-preserved : goal.loop-i-preserved
loop-i-preserved c =
    let f = c.args.form in
    let len = form_len f in
    let words = c.args.words.now in
    let xs = c.loop-i.octets in
    let ys = c.put_block.new.octets in
    let i = c.loop-i.i in
    let at = c.loop-i.invariant.at in
    let k = c.loop-i.at + c.len-len.result - c.loop-i.at in
    let is = c.len-len.ensures.len in
    let test = c.loop-i-test.true in
    let same = c.loop-i.invariant.len in
    let count = c.min-count.ensures ∙ ap (λ n. min (length words / 384) (length c.args.octets.now / n)) is in
    let room = piece-room len i c.min-count.result (length c.args.octets.now) test (omega (arith, count)) in
    let left = length-drop c.loop-i.at xs in
    let size : length ys ≡ len
    = c.put_block.auto.octets ∙ length-take-le k (drop c.loop-i.at xs) (omega (arith, left, room, at, is, same))
    ∙ omega (arith, is) in
    let block : c.unwrap-block.result.now ≡ piece_at 384 i words
    = (known-some _ _ _ _ c.unwrap-block.ensures c.first_chunk.ensures.cases).same ∙ ap (take 384) (take_rest words (384 * i)) in
    let put : ys ≡ octets_in f (block_at i words)
    = c.in_default.ensures.put ∙ ap (λ b. octets_in f (map payload_of b)) block in
    let within : len * i ≤ length xs = omega (arith, room, same) in
    record {
      len = ap (λ a. length (put_mid a k xs ys)) at ∙ length-put (len * i) k xs ys (omega (arith, room, same)) (omega (arith, size, is)) ∙ same;
      at = omega (arith, at, is);
      right = λ j h. lawful-more (word_in words) c.unwrap-block.result.now i 384 (omega arith)
          (word-of-piece words c.unwrap-block.result.now i block) c.loop-i.invariant.right c.in_default.ensures.right j
          (omega (arith, h));
      all = ap (λ a. take (len * (i + 1)) (put_mid a k xs ys)) at
          ∙ blocks-put f words xs ys i k size within c.loop-i.invariant.all put;
      each = λ j h. ap (λ a. piece_at len j (put_mid a k xs ys)) at
          ∙ each-put f words xs ys i k size within c.loop-i.invariant.each put j h;
      others = ap (λ a. drop (len * (i + 1)) (put_mid a k xs ys)) at
          ∙ drop-put_mid (len * i) k xs ys (len * (i + 1)) (omega (arith, is)) within (size ∙ omega (arith, is))
          ∙ rest-later len i xs c.args.octets.now c.loop-i.invariant.others;
    }
