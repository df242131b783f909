use Rattle.std.proofs.Common.{◌≡◌, ℕ, ◌+◌, ◌*◌, ◌/◌, ◌%◌, ◌<◌, List, [], ◌∷◌, ◌++◌, true, None, length, get_or, arith}
use Rattle.std.proofs.Common.{sym, ap, subst, ◌∙◌}
use Rattle.std.proofs.lemmas.Nat.{pow_pos}
use Rattle.aes3_frame.specs.Files.{is_lawful}
use Rattle.aes3_block.specs.Readers.{answer_with, next_with}
use Rattle.aes3_block.proofs.Reading.{Taken, stored, byte-short, byte-ends, fault-lawful, left-lawful, push-lawful}
use Rattle.aes3_block.proofs.file.BlockFile.feed_byte.Goals as goal

pub returns-then-self-lt3-clause-answer : goal.returns-then-self-lt3-clause-answer
returns-then-self-lt3-clause-answer c =
    let v = c.self.inside in
    let now : stored v.seen v.words.items v.word None ≡ c.args.self.now =
    ap (stored v.seen v.words.items v.word) (sym c.in_default.is) ∙ c.self.view_is in
    sym (byte-short v.seen v.words.items v.word c.word_with_byte-word.result c.args.byte c.if-self-lt3.true
    c.word_with_byte-word.ensures.bytes).0
    ∙ ap (λ r. answer_with r c.args.byte) now

pub returns-then-self-lt3-clause-next : goal.returns-then-self-lt3-clause-next
returns-then-self-lt3-clause-next c =
    let v = c.self.inside in
    let now : stored v.seen v.words.items v.word None ≡ c.args.self.now =
    ap (stored v.seen v.words.items v.word) (sym c.in_default.is) ∙ c.self.view_is in
    ap (stored (v.seen + 1) v.words.items c.word_with_byte-word.result) c.in_default.is
    ∙ sym (byte-short v.seen v.words.items v.word c.word_with_byte-word.result c.args.byte c.if-self-lt3.true
    c.word_with_byte-word.ensures.bytes).1
    ∙ ap (λ r. next_with r c.args.byte) now

pub take_block-block-requires : goal.take_block-block-requires
take_block-block-requires c =
    let v = c.self.inside in
    let w = c.word_with_byte-word.result in
    let e = fault-lawful (v.seen / 4) w (sym c.fault_of_word.ensures ∙ c.in_default-fault_of_word.is) in
    subst (λ (all : List ℕ). (i : ℕ) → i < length all → is_lawful (get_or all i 0) ≡ true) (sym c.push.ensures.items)
    (push-lawful v.words.items w e c.self.invariant.1)

pub returns-clause-answer : goal.returns-clause-answer
returns-clause-answer c =
    let v = c.self.inside in
    let now : stored v.seen v.words.items v.word None ≡ c.args.self.now =
    ap (stored v.seen v.words.items v.word) (sym c.in_default.is) ∙ c.self.view_is in
    let t : Taken
    (v.words.items ++ c.word_with_byte-word.result ∷ []) c.take_block-block.new.words.items c.take_block-block.result =
    subst (λ (all : List ℕ). Taken all c.take_block-block.new.words.items c.take_block-block.result)
    c.push.ensures.items
    (record { whole = c.take_block-block.ensures.whole; begun = c.take_block-block.ensures.begun }) in
    sym (byte-ends v.seen v.words.items c.take_block-block.new.words.items v.word c.word_with_byte-word.result
    c.args.byte c.take_block-block.result t c.self.invariant.0 c.if-self-lt3.false
    c.word_with_byte-word.ensures.bytes (omega arith) (sym c.fault_of_word.ensures ∙ c.in_default-fault_of_word.is)).0
    ∙ ap (λ r. answer_with r c.args.byte) now

pub returns-clause-next : goal.returns-clause-next
returns-clause-next c =
    let v = c.self.inside in
    let now : stored v.seen v.words.items v.word None ≡ c.args.self.now =
    ap (stored v.seen v.words.items v.word) (sym c.in_default.is) ∙ c.self.view_is in
    let t : Taken
    (v.words.items ++ c.word_with_byte-word.result ∷ []) c.take_block-block.new.words.items c.take_block-block.result =
    subst (λ (all : List ℕ). Taken all c.take_block-block.new.words.items c.take_block-block.result)
    c.push.ensures.items
    (record { whole = c.take_block-block.ensures.whole; begun = c.take_block-block.ensures.begun }) in
    ap (stored (v.seen + 1) c.take_block-block.new.words.items 0) c.in_default.is
    ∙ sym (byte-ends v.seen v.words.items c.take_block-block.new.words.items v.word c.word_with_byte-word.result
    c.args.byte c.take_block-block.result t c.self.invariant.0 c.if-self-lt3.false
    c.word_with_byte-word.ensures.bytes (omega arith) (sym c.fault_of_word.ensures ∙ c.in_default-fault_of_word.is)).1
    ∙ ap (λ r. next_with r c.args.byte) now

pub invariant_of-self-2 : goal.invariant_of-self-2
invariant_of-self-2 c =
    let v = c.self.inside in
    let w = c.word_with_byte-word.result in
    let t : Taken (v.words.items ++ w ∷ []) c.take_block-block.new.words.items c.take_block-block.result =
    subst (λ (all : List ℕ). Taken all c.take_block-block.new.words.items c.take_block-block.result)
    c.push.ensures.items
    (record { whole = c.take_block-block.ensures.whole; begun = c.take_block-block.ensures.begun }) in
    let e = fault-lawful (v.seen / 4) w (sym c.fault_of_word.ensures ∙ c.in_default-fault_of_word.is) in
    let l = left-lawful v.seen v.words.items c.take_block-block.new.words.items w c.take_block-block.result t
    c.self.invariant.0 c.if-self-lt3.false e c.self.invariant.1 in
    (l.0, l.1, pow_pos (8 * ((v.seen + 1) % 4)))
