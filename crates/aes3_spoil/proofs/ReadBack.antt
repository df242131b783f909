-- Cells that are written at the end of a run, and read again.
use Rattle.std.proofs.Common.{◌≡◌, ◌≤◌, ◌<◌, ◌∙◌, ◌++◌, ◌∷◌, ◌+◌, ◌*◌, ◌/◌, arith, ℕ, List, [], ap₂, append-nil, drop, length, map, refl, subst, sym, take, true}
use Rattle.std.proofs.lemmas.List.{length-drop, length-take-le, take-append-drop}
use Rattle.aes3_level.specs.declared.level.Level.{Level}
use Rattle.aes3_level.specs.Words.{word_len}
use Rattle.aes3_cell.specs.CellText.{IsCellText, byte_cells, cells_of_text, is_good_byte, kind_of}
use Rattle.aes3_cell.specs.Packed.{IsPacked, cells_of_packed, packed_of}
use Rattle.aes3_cell.specs.Text.{byte_of, text_of}
use Rattle.aes3_cell.specs.declared.form.Form.{Form}
use Rattle.aes3_cell.specs.declared.form.Form.TheVariants.{Text, Packed}
use Rattle.aes3_cell.proofs.CellTexts.{cells-join, cells-more, cells-text, text-join, text-more, text-read}
use Rattle.aes3_cell.proofs.PackedCells.{cells-packs, packed_of-packs}
use Rattle.aes3_input.specs.Inputs.{IsInput, cells_of}
use Rattle.aes3_capture_recovery.specs.Endings.{finished, last_line}
use Rattle.aes3_capture_recovery.proofs.EndBytes.{finished-joined}

-- text whose cells are these
abbrev Reads : List ℕ → List Level → Type 0
Reads text c = IsCellText text × (cells_of_text text ≡ c)

line-feed : (is_good_byte 10 ≡ true) × (byte_cells 10 ≡ [])
unfolding kind_of
line-feed = (refl, refl)

last-line : (c : List Level) → Reads (last_line c) c
last-line [] = cells-text []
last-line (level ∷ c) =
    let read = cells-text (level ∷ c) in (
      text-more (map byte_of (level ∷ c)) 10 read.0 line-feed.0,
      cells-more (map byte_of (level ∷ c)) 10 read.0 ∙ ap₂ ◌++◌ read.1 line-feed.1 ∙ append-nil (level ∷ c),
    )

text-back : (n : ℕ) (a rest : List Level) → length a ≡ n * word_len → length rest < 64
    → Reads (finished Text (a ++ rest)) (a ++ rest)
unfolding word_len
text-back n a rest whole few =
    let lines = text-read a (omega arith) in
    let last = last-line rest in
    subst (λ text. Reads text (a ++ rest)) (sym (finished-joined Text n a rest whole few)) (
      text-join (text_of a) (last_line rest) lines.0 last.0,
      cells-join (text_of a) (last_line rest) lines.0 ∙ ap₂ ◌++◌ lines.1 last.1,
    )

packed-back : (c : List Level) → IsPacked (finished Packed c) × (cells_of_packed (finished Packed c) ≡ c)
unfolding finished
packed-back c = ((c, packed_of-packs c), cells-packs (packed_of c) c (packed_of-packs c))

text-all : (n : ℕ) (c : List Level) → 64 * n ≤ length c → length c < 64 * n + 64 → Reads (finished Text c) c
unfolding word_len
text-all n c some few =
    let len = length-take-le (64 * n) c some in
    let left = length-drop (64 * n) c in
    subst (λ d. Reads (finished Text d) d) (take-append-drop (64 * n) c)
    (text-back n (take (64 * n) c) (drop (64 * n) c) (omega arith) (omega arith))

pub read-back : (form : Form) (c : List Level) → IsInput form (finished form c) × (cells_of form (finished form c) ≡ c)
read-back Text c = text-all (length c / 64) c (omega arith) (omega arith)
read-back Packed c = packed-back c
