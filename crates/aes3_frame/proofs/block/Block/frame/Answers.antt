use Rattle.std.proofs.Common.{◌≡◌, ℕ, ◌+◌, ◌*◌, ◌<◌, List, Bool, Some, length, map, get_or, ap, sym, ◌∙◌, arith}
use Rattle.std.specs.Prelude.{option_map, slice_get}
use Rattle.std.proofs.lemmas.Option.{slice_get-map, slice_get-get_or}
use Rattle.aes3_frame.specs.Files.{payload_of}
use Rattle.aes3_frame.proofs.block.Block.frame.Goals as goal

payload-at : (words : List ℕ) (b : List (List Bool)) (i : ℕ) (p : List Bool) → map payload_of words ≡ b
    → i < length words
    → payload_of (get_or words i 0) ≡ p → slice_get b i ≡ Some p
payload-at words b i p e h q =
    ap (λ x. slice_get x i) (sym e) ∙ slice_get-map payload_of words i
    ∙ ap (option_map payload_of) (slice_get-get_or words i 0 h) ∙ ap Some q

pub returns-clause-first : goal.returns-clause-first
returns-clause-first c =
    let words = c.self.inside.words in
    payload-at words _ (2 * c.args.i) _ c.self.view_is (omega (arith, c.self.told))
    (ap (λ i. payload_of (get_or words i 0)) (omega arith)
    ∙ sym c.payload_of_word.ensures.bits ∙ sym c.of_payload.ensures)

pub returns-clause-second : goal.returns-clause-second
returns-clause-second c =
    let words = c.self.inside.words in
    payload-at words _ (2 * c.args.i + 1) _ c.self.view_is (omega (arith, c.self.told))
    (ap (λ i. payload_of (get_or words i 0)) (omega arith)
    ∙ sym c.payload_of_word-2.ensures.bits ∙ sym c.of_payload-2.ensures)
