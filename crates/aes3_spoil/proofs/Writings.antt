-- What the taker writes of cells.
use Rattle.std.proofs.Common.{◌≡◌, ℕ, List, [], ◌∷◌, ◌++◌, length, refl, sym, ap, ap₂, ◌∙◌}
use Rattle.std.proofs.lemmas.List.{append_cancel_left}
use Rattle.aes3_level.specs.declared.level.Level.{Level}
use Rattle.aes3_cell.specs.declared.form.Form.{Form}
use Rattle.aes3_cell.specs.declared.counts.Counts.{Counts}
use Rattle.aes3_cell.specs.Pending.{begun_cells}
use Rattle.aes3_cell.specs.Written.{bytes_of}
use Rattle.aes3_capture_recovery.specs.Endings.{ending_of, finished}
use Rattle.aes3_input.specs.Inputs.{cells_of}
use Rattle.aes3_input.specs.Taking.{behind, before_end, with_end}
use Rattle.aes3_input.proofs.Items.{before-is, before-join}
use Rattle.aes3_spoil.specs.declared.errors.Errors.{Errors}
use Rattle.aes3_spoil.specs.Spoiled.{spoiled, spoiled_at, spoiled_from}
use Rattle.aes3_spoil.specs.Spoiling.{bytes_added, spoil_counts, spoiling, whole_words}
use Rattle.aes3_spoil.proofs.SpoiledCells.{spoiled-join, spoiled-none, spoiled-one}
use Rattle.aes3_spoil.proofs.WholeWords.{bytes-all, bytes-more, bytes-none}

adds-is : (form : Form) (e : Errors) (c : List Level) (x : Level)
    → (spoiling form e).adds c x ≡ bytes_added form (begun_cells (spoiled e c)) (spoiled_at e (length c) x)
unfolding spoiling
adds-is form e c x = refl

pub ends-is : (form : Form) (e : Errors) (c : List Level)
    → ending_of form (begun_cells (spoiled e c)) ≡ (spoiling form e).ends c
unfolding spoiling
ends-is form e c = refl

pub before-words : (form : Form) (e : Errors) (c : List Level)
    → before_end (spoiling form e) c ≡ bytes_of form (whole_words (spoiled e c))
before-words form e c =
    before-is (spoiling form e) (λ c. bytes_of form (whole_words (spoiled e c)))
    (ap (λ x. bytes_of form (whole_words x)) (spoiled-none e) ∙ bytes-none form)
    (λ c x. ap (λ z. bytes_of form (whole_words z)) (spoiled-join e c (x ∷ []))
    ∙ bytes-more form (spoiled e c) (spoiled_from e (length c) (x ∷ []))
    ∙ ap (λ z. bytes_of form (whole_words (spoiled e c)) ++ z)
    (ap (bytes_added form (begun_cells (spoiled e c))) (spoiled-one e (length c) x) ∙ sym (adds-is form e c x))) c

pub with-all : (form : Form) (e : Errors) (c : List Level) → with_end (spoiling form e) c ≡ finished form (spoiled e c)
unfolding with_end
with-all form e c =
    ap₂ ◌++◌ (before-words form e c) (sym (ends-is form e c)) ∙ bytes-all form (spoiled e c)

pub behind-is : (form : Form) (e : Errors) (c d : List Level)
    → bytes_added form (begun_cells (spoiled e c)) (spoiled_from e (length c) d) ≡ behind (spoiling form e) c d
behind-is form e c d =
    let a = bytes_of form (whole_words (spoiled e c)) in
    append_cancel_left a _ _
    (sym (bytes-more form (spoiled e c) (spoiled_from e (length c) d))
    ∙ ap (λ z. bytes_of form (whole_words z)) (sym (spoiled-join e c d)) ∙ sym (before-words form e (c ++ d))
    ∙ before-join (spoiling form e) c d ∙ ap (λ z. z ++ behind (spoiling form e) c d) (before-words form e c))

pub counted : (form : Form) (b : List ℕ) (bytes cells : ℕ) → bytes ≡ length b → cells ≡ length (cells_of form b)
    → ◌≡◌ {A = Counts} (record { bytes = bytes; cells = cells; blocks = 0; faults = 0; unfinished = 0; marks = 0 })
    (spoil_counts form b)
unfolding spoil_counts
counted form b bytes cells e f =
    ap₂ (λ (x y : ℕ). record { bytes = x; cells = y; blocks = 0; faults = 0; unfinished = 0; marks = 0 }) e f
