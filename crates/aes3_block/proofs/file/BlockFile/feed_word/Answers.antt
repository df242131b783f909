use Rattle.std.proofs.Common.{◌≡◌, ◌+◌, ◌/◌, ◌%◌, ◌<◌, ◌*◌, ℕ, List, [], ◌∷◌, ◌++◌, length, length-append, get_or, true}
use Rattle.std.proofs.Common.{None, arith, sym, ap, subst, ◌∙◌}
use Rattle.std.proofs.lemmas.Nat.{pow_pos}
use Rattle.aes3_frame.specs.Files.{is_lawful}
use Rattle.aes3_block.specs.Readers.{FileReader, TakesQuietly}
use Rattle.aes3_frame.proofs.Bytes.{length-low_bytes}
use Rattle.aes3_block.proofs.Reading.{stored, fault-lawful, push-lawful}
use Rattle.aes3_block.proofs.WordReads.{takes-word, quiet-word, number-bytes, none-is, none-not, refused-none}
use Rattle.aes3_block.proofs.file.BlockFile.feed_word.Goals as goal
use Rattle.aes3_block.proofs.file.BlockFile.feed_word.Goals.{then-is_some-via-then-is_some}
use Rattle.aes3_block.proofs.file.BlockFile.feed_word.Goals.{then-is_some-via-else-is_some+then-self-ne0}
use Rattle.aes3_block.proofs.file.BlockFile.feed_word.Goals.{then-len-eq-SUBFRAMES-via-then-len-eq-SUBFRAMES}
use Rattle.aes3_block.proofs.file.BlockFile.feed_word.Goals.{then-len-eq-SUBFRAMES-via-else-len-eq-SUBFRAMES+then-is_some-2}

pub returns-then-is_some-clause-stops : goal.returns-then-is_some-clause-stops
returns-then-is_some-clause-stops c = λ r e s t.
    let v = c.self.inside in
    elim c.then-is_some.branch [
      | then-is_some-via-then-is_some w ↦
          refused-none v.seen v.words.items v.word v.fault c.args.bytes.now s c.told-bytes (sym c.is_some.ensures
          ∙ w.if-is_some.true)
          (subst (λ k. TakesQuietly k c.args.bytes.now s) (sym c.self.view_is) t)
      | then-is_some-via-else-is_some+then-self-ne0 w ↦
          w.if-self-ne0.true (sym (length-low_bytes (v.seen % 4) v.word)
          ∙ ap length (ap (λ (k : FileReader). k.bytes) c.self.view_is ∙ e))
    ]

pub returns-then-len-eq-SUBFRAMES-clause-stops : goal.returns-then-len-eq-SUBFRAMES-clause-stops
returns-then-len-eq-SUBFRAMES-clause-stops c = λ r e s t.
    let v = c.self.inside in
    let count = c.self.invariant.0 in
    let none = none-is v.fault (sym c.is_some.ensures ∙ c.if-is_some.false) in
    let b = number-bytes c.args.bytes.now c.from_le_bytes-word.result c.told-bytes c.fits-bytes
    c.from_le_bytes-word.ensures (omega arith) in
    let q = quiet-word v.seen v.words.items v.word c.from_le_bytes-word.result c.if-self-ne0.false s count (omega arith)
    (subst (λ d. TakesQuietly (stored v.seen v.words.items v.word None) d s) b
    (subst (λ k. TakesQuietly k c.args.bytes.now s)
    (sym (ap (stored v.seen v.words.items v.word) (sym none) ∙ c.self.view_is)) t)) in
    elim c.then-len-eq-SUBFRAMES.branch [
      | then-len-eq-SUBFRAMES-via-then-len-eq-SUBFRAMES w ↦ let h = q.1 in let z = w.if-len-eq-SUBFRAMES.true in
          absurd (omega (arith, h, z, count))
      | then-len-eq-SUBFRAMES-via-else-len-eq-SUBFRAMES+then-is_some-2 w ↦ none-not _ (sym w.is_some-else-len-eq-SUBFRAMES.ensures
          ∙ w.if-is_some-2.true) (w.fault_of_word.ensures ∙ q.0)
    ]

pub invariant_of-self : goal.invariant_of-self
invariant_of-self c =
    let v = c.self.inside in
    let w = c.from_le_bytes-word.result in
    let count = c.self.invariant.0 in
    let few = c.if-len-eq-SUBFRAMES.false in
    let start = c.if-self-ne0.false in
    let l = ap length c.push.ensures.items ∙ length-append v.words.items (w ∷ []) in
    let f = none-is _ (sym c.is_some-else-len-eq-SUBFRAMES.ensures ∙ c.if-is_some-2.false) in
    let e = fault-lawful (v.seen / 4) w (sym c.fault_of_word.ensures ∙ f) in (
      omega (arith, l, count, few, start),
      subst (λ (all : List ℕ). (i : ℕ) → i < length all → is_lawful (get_or all i 0) ≡ true) (sym c.push.ensures.items)
          (push-lawful v.words.items w e c.self.invariant.1),
      pow_pos (8 * ((v.seen + 4) % 4)),
    )

pub returns-clause-quiet : goal.returns-clause-quiet
returns-clause-quiet c = λ r.
    let v = c.self.inside in
    let w = c.from_le_bytes-word.result in
    let count = c.self.invariant.0 in
    let few = c.if-len-eq-SUBFRAMES.false in
    let none = none-is v.fault (sym c.is_some.ensures ∙ c.if-is_some.false) in
    let b = number-bytes c.args.bytes.now w c.told-bytes c.fits-bytes c.from_le_bytes-word.ensures (omega arith) in
    let f = none-is _ (sym c.is_some-else-len-eq-SUBFRAMES.ensures ∙ c.if-is_some-2.false) in
    let q = takes-word v.seen v.words.items v.word w c.if-self-ne0.false count (omega arith)
    (sym c.fault_of_word.ensures ∙ f) (omega (arith, count, few)) in
    subst (λ (all : List ℕ). TakesQuietly c.args.self.now c.args.bytes.now (stored (v.seen + 4) all 0 v.fault))
    (sym c.push.ensures.items)
    (subst (λ k. TakesQuietly k c.args.bytes.now (stored (v.seen + 4) (v.words.items ++ w ∷ []) 0 v.fault))
    (ap (stored v.seen v.words.items v.word) (sym none) ∙ c.self.view_is)
    (subst (λ g. TakesQuietly (stored v.seen v.words.items v.word None) c.args.bytes.now
    (stored (v.seen + 4) (v.words.items ++ w ∷ []) 0 g)) (sym none)
    (subst (λ d. TakesQuietly (stored v.seen v.words.items v.word None) d
    (stored (v.seen + 4) (v.words.items ++ w ∷ []) 0 None)) (sym b) q)))
