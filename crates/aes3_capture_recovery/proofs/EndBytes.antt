-- The bytes of cells at the end, by the words before them.
use Rattle.std.proofs.Common.{◌≡◌, ℕ, ◌-◌, ◌*◌, ◌/◌, ◌<◌, List, [], ◌∷◌, ◌++◌, length, drop, refl, sym, ap, ap₂, ◌∙◌}
use Rattle.std.proofs.Common.{arith, append_assoc, append-nil, length-append}
use Rattle.std.specs.List.{flat_map}
use Rattle.std.proofs.lemmas.List.{drop_at}
use Rattle.aes3_level.specs.declared.level.Level.{Level}
use Rattle.aes3_cell.specs.declared.form.Form.{Form}
use Rattle.aes3_cell.specs.declared.form.Form.TheVariants.{Text, Packed}
use Rattle.aes3_level.specs.Words.{word_cells, word_len}
use Rattle.aes3_cell.specs.Text.{text_of, lines_text}
use Rattle.aes3_cell.specs.Pending.{begun_cells}
use Rattle.aes3_cell.specs.Packed.{octets_needed, octets_of, packed_of}
use Rattle.aes3_cell.specs.Written.{bytes_of}
use Rattle.aes3_cell.proofs.Lines.{text_of-append}
use Rattle.aes3_cell.proofs.ManyWords.{length-words}
use Rattle.aes3_cell.proofs.WrittenForms.{bytes-append}
use Rattle.aes3_capture_recovery.specs.Endings.{ending_of, finished, last_line}

-- fewer cells than a line have no whole line, and stand behind the lines
few-text : (c : List Level) → length c < 64 → text_of c ≡ []
unfolding text_of word_len
few-text c h = let e : length c / 64 ≡ 0 = omega arith in ap (λ k. lines_text k c) e

begun-few : (n : ℕ) (a c : List Level) → length a ≡ n * word_len → length c < 64 → begun_cells (a ++ c) ≡ c
unfolding begun_cells word_len
begun-few n a c h few =
    let l = length-append a c in
    let e : 64 * (length (a ++ c) / 64) ≡ length a = omega (arith, l, h, few) in
    ap (λ k. drop k (a ++ c)) e ∙ drop_at a c (length a) refl

more-packed : (n : ℕ) (a c : List Level) → length a ≡ n * word_len → packed_of (a ++ c) ≡ octets_of a ++ packed_of c
unfolding packed_of word_len
more-packed n a c h =
    let l = length-append a c in
    let e : 8 * octets_needed (length (a ++ c)) - length (a ++ c) ≡ 8 * octets_needed (length c) - length c
    = omega (arith, l, h) in
    ap₂ (λ x k. x ++ k ∷ []) (bytes-append Packed n a c h) e ∙ append_assoc (octets_of a) (octets_of c) _

-- cells behind whole words
pub finished-joined : (form : Form) (n : ℕ) (a rest : List Level) → length a ≡ n * word_len → length rest < 64
    → finished form (a ++ rest) ≡ bytes_of form a ++ ending_of form rest
unfolding finished
finished-joined Text n a rest l few =
    ap₂ (λ t c. t ++ last_line c)
    (text_of-append n a rest l ∙ ap (λ t. text_of a ++ t) (few-text rest few) ∙ append-nil (text_of a))
    (begun-few n a rest l few)
finished-joined Packed n a rest l few = more-packed n a rest l

pub finished-append : (form : Form) (words : List ℕ) (rest : List Level) → length rest < 64
    → finished form (flat_map word_cells words ++ rest)
    ≡ bytes_of form (flat_map word_cells words) ++ ending_of form rest
finished-append form words rest few =
    finished-joined form (length words) (flat_map word_cells words) rest (length-words words) few

pub finished-begins : (form : Form) (words : List ℕ) (more : List Level)
    → (rest : List ℕ) × (bytes_of form (flat_map word_cells words) ++ rest
    ≡ finished form (flat_map word_cells words ++ more))
unfolding finished
finished-begins Text words more =
    let a = flat_map word_cells words in (
      text_of more ++ last_line (begun_cells (a ++ more)),
      sym (append_assoc (text_of a) (text_of more) _)
          ∙ ap (λ t. t ++ last_line (begun_cells (a ++ more)))
          (sym (text_of-append (length words) a more (length-words words))),
    )
finished-begins Packed words more
    = (packed_of more, sym (more-packed (length words) (flat_map word_cells words) more (length-words words)))
