use Rattle.std.proofs.Common.{◌≡◌, ◌+◌, ◌*◌, ◌%◌, ◌^◌, ◌<◌, List, Bool, None, length, map, get_or, arith, sym, ap}
use Rattle.std.proofs.Common.{subst, ◌∙◌}
use Rattle.aes3_frame.specs.Files.{is_lawful, payload_of, words_of}
use Rattle.aes3_block.specs.Readers.{FileReader, TakesBlock}
use Rattle.aes3_frame.proofs.BlockLemmas.{block_subframes_384}
use Rattle.aes3_block.proofs.BlockReads.{takes-block, words-again}
use Rattle.aes3_frame.proofs.Bytes.{length-low_bytes}
use Rattle.aes3_block.proofs.Reading.{stored}
use Rattle.aes3_block.proofs.WordReads.{none-is, none-not}
use Rattle.aes3_block.proofs.file.BlockFile.feed_block.Goals as goal
use Rattle.aes3_block.proofs.file.BlockFile.feed_block.Goals.{then-is_some-via-then-is_some}
use Rattle.aes3_block.proofs.file.BlockFile.feed_block.Goals.{then-is_some-via-else-is_some+then-self-ne0}

pub returns-then-is_some-clause-owed : goal.returns-then-is_some-clause-owed
returns-then-is_some-clause-owed c = λ f b e h.
    let v = c.self.inside in
    elim c.then-is_some.branch [
      | then-is_some-via-then-is_some w ↦
          absurd (none-not v.fault (sym c.is_some.ensures ∙ w.if-is_some.true)
          (ap (λ (k : FileReader). k.fault) c.self.view_is ∙ f))
      | then-is_some-via-else-is_some+then-self-ne0 w ↦
          let i = c.self.invariant.0 in
          let j = ap length (ap (λ (k : FileReader). k.words) c.self.view_is ∙ e) in
          let k = sym (length-low_bytes (v.seen % 4) v.word)
          ∙ ap length (ap (λ (k : FileReader). k.bytes) c.self.view_is ∙ b) in
          absurd (w.if-self-ne0.true (omega (arith, i, j, k)))
    ]

pub returns-then-not-are_lawful-clause-owed : goal.returns-then-not-are_lawful-clause-owed
returns-then-not-are_lawful-clause-owed c = λ f b e h.
    let words = c.words_of_block-words.result in
    let len : length words ≡ 384 = omega arith in
    let same = ap words_of (sym c.words_of_block-words.ensures)
    ∙ words-again words (λ i g. c.are_lawful.ensures.fits i (omega (arith, g, len))) in
    sym c.if-not-are_lawful.true
    ∙ c.are_lawful.ensures.owed (λ i g. ap (λ u. is_lawful (get_or u i 0)) (sym same) ∙ h i g)

pub invariant_of-self : goal.invariant_of-self
invariant_of-self c =
    let v = c.self.inside in
    let count = c.self.invariant.0 in
    let start = c.if-self-ne0.false in (
      omega (arith, count, start),
      c.self.invariant.1,
      subst (λ k. v.word < 2 ^ (8 * k)) (let e : v.seen % 4 ≡ (v.seen + 1536) % 4 = omega arith in
          e) c.self.invariant.2,
    )

pub returns-clause-taken : goal.returns-clause-taken
returns-clause-taken c =
    let v = c.self.inside in
    let words = c.words_of_block-words.result in
    let none = none-is v.fault (sym c.is_some.ensures ∙ c.if-is_some.false) in
    let n = block_subframes_384 in
    let len : length words ≡ 384 = omega arith in
    subst (λ (x : List (List Bool)). TakesBlock c.args.self.now c.args.bytes.now x
    (stored (v.seen + 1536) v.words.items v.word v.fault)) (sym c.of_words.ensures)
    (subst (λ k. TakesBlock k c.args.bytes.now (map payload_of words)
    (stored (v.seen + 1536) v.words.items v.word v.fault)) (ap (stored v.seen v.words.items v.word) (sym none)
    ∙ c.self.view_is)
    (subst (λ g. TakesBlock (stored v.seen v.words.items v.word None) c.args.bytes.now (map payload_of words)
    (stored (v.seen + 1536) v.words.items v.word g)) (sym none)
    (takes-block v.seen v.words.items v.word words c.args.bytes.now c.if-self-ne0.false c.self.invariant.0
    c.words_of_block-words.ensures len
    (λ i g. c.are_lawful.ensures.fits i (omega (arith, g, len)))
    (λ i g. c.are_lawful.ensures.each c.if-not-are_lawful.false i (omega (arith, g, n, len))))))
