-- Cell text with a bad byte, and what a reader has seen.
use Rattle.std.proofs.Common.{◌≡◌, ℕ, List, [], ◌∷◌, ◌++◌, false, cond, Option, Some, None, Err, length, refl, sym, ap}
use Rattle.std.proofs.Common.{◌∙◌, subst, append-nil}
use Rattle.aes3_level.specs.declared.level.Level.{Level}
use Rattle.aes3_refusals.specs.declared.run_error.RunError.{RunError}
use Rattle.aes3_refusals.specs.declared.run_error.RunError.TheVariants as refusal
use Rattle.aes3_cell.specs.declared.cell_text.BadCell.{BadCell}
use Rattle.aes3_cell.specs.CellText.{is_good_byte, byte_cells, cells_of_text}
use Rattle.aes3_cell.specs.TextReading.{TextReader, text_reader_of, text_answer}
use Rattle.aes3_cell.proofs.Growing.{grew-none, grew-is}
use Rattle.aes3_cell.proofs.CellTexts.{answer-err}
use Rattle.aes3_input.specs.Converting.{or_else, unless, fault_behind, out_behind, before_fault}
use Rattle.aes3_input.specs.Running.{Stopped}
use Rattle.aes3_input.specs.Taking.{Writing, behind}
use Rattle.aes3_input.specs.Forms.{text_reading, TextTaken}

-- a byte that may not stand
one-bad : (w : Writing Level) (b : List ℕ) (x : ℕ) → is_good_byte x ≡ false
    → (fault_behind (text_reading w) b (x ∷ []) ≡ Some (refusal.BadCell (length b)))
    × (out_behind (text_reading w) b (x ∷ []) ≡ []) × (before_fault (text_reading w) b (x ∷ []) ≡ [])
unfolding text_reading
one-bad w b x e = (
  ap (λ t. or_else (cond {A = Option RunError} t None (Some (refusal.BadCell (length b)))) None) e,
  ap (λ t. unless (cond {A = Option RunError} t None (Some (refusal.BadCell (length b))))
      (behind w (cells_of_text b) (byte_cells x) ++ [])) e,
  ap (λ t. unless (cond {A = Option RunError} t None (Some (refusal.BadCell (length b)))) (x ∷ [])) e,
)

pub byte-bad : (w : Writing Level) (f : List Level → Type 0) (text : TextReader) (cells : ℕ) (x : ℕ) (fault : BadCell)
    (t : Option (List ℕ))
    → Err fault ≡ text_answer text x
    → Stopped (text_reading w) (TextTaken text cells f) (λ b. f (cells_of_text b)) t t (x ∷ [])
    (refusal.BadCell fault.at)
unfolding text_reader_of
byte-bad w f text cells x fault t a =
    let q = answer-err text x fault a in
    record {
      fault = λ b h. (one-bad w b x q.0).0 ∙ ap (λ k. Some (refusal.BadCell k)) (sym (q.1 ∙ ap (λ r. r.seen) h.reader));
      left = λ b h. subst (λ (v : List ℕ). f (cells_of_text v))
          (sym (ap (λ z. b ++ z) (one-bad w b x q.0).2 ∙ append-nil b)) h.taker;
      grew = λ b h. grew-is (sym (one-bad w b x q.0).1) (grew-none refl);
    }

-- what a reader has seen
pub taken-seen : {text : TextReader} {cells : ℕ} {f : List Level → Type 0} {b : List ℕ} → TextTaken text cells f b
    → text.seen ≡ length b
unfolding text_reader_of
taken-seen h = ap (λ r. r.seen) h.reader
