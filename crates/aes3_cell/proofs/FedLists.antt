-- Readers and writers that are given a whole list, one by one.
use Rattle.std.proofs.Common.{◌≡◌, ℕ, ◌<◌, List, [], ◌∷◌, ◌++◌, true, Option, Some, None, Result, Ok, Err, length, refl}
use Rattle.std.proofs.Common.{sym, ap, ap₂, ◌∙◌, subst, arith, append_assoc, append-nil, length-append}
use Rattle.aes3_level.specs.declared.level.Level.{Level}
use Rattle.aes3_cell.specs.declared.cell_text.BadCell.{BadCell}
use Rattle.aes3_cell.specs.CellText.{IsCellText, cells_of_text, good}
use Rattle.aes3_cell.specs.Packed.{is_packed, cells_of_packed, packed_of}
use Rattle.aes3_cell.specs.PackedFeeding.{cells_fed, octets_fed}
use Rattle.aes3_cell.specs.PackedPending.{octets_added, whole_octets}
use Rattle.aes3_cell.specs.PackedReading.{packed_reader_of, packed_end, end_cells}
use Rattle.aes3_cell.specs.Pending.{text_added, begun_after, begun_cells}
use Rattle.aes3_cell.specs.Text.{text_of}
use Rattle.aes3_cell.specs.TextReading.{text_reader_of, text_answer, text_next}
use Rattle.aes3_cell.specs.Laws.{cells_answered, text_cells_fed, refusal_answered, text_refusal, text_put, octets_put}
use Rattle.aes3_cell.specs.Laws.{begun_put}
use Rattle.aes3_cell.specs.declared.form.Form.TheVariants.{Text}
use Rattle.aes3_cell.proofs.CellTexts.{text-fed, text-refused, cells-text}
use Rattle.aes3_cell.proofs.LineSteps.{begun_cells-nil, begun_cells-more, text_of-more}
use Rattle.aes3_cell.proofs.PackedFeeding.{reader-fed, whole-fed}
use Rattle.aes3_cell.proofs.PackedReads.{cells-end, whole-few}
use Rattle.aes3_cell.proofs.PackedSteps.{whole_octets-nil, whole_octets-more, packed_of-begun}
use Rattle.aes3_cell.proofs.WrittenForms.{bytes-nothing}

-- text behind bytes none of which is bad
pub record FedText (b more : List ℕ) : Type 0 where
  pub cells : cells_of_text (b ++ more) ≡ cells_of_text b ++ text_cells_fed (text_reader_of b) more
  pub none : IsCellText (b ++ more) → text_refusal (text_reader_of b) more ≡ None
  pub some : good (b ++ more) < length (b ++ more)
      → text_refusal (text_reader_of b) more ≡ Some (record { at = good (b ++ more) })

pub fed-text : (b more : List ℕ) → IsCellText b → FedText b more
fed-text b [] g = record {
  cells = ap cells_of_text (append-nil b) ∙ sym (append-nil (cells_of_text b));
  none = λ h. refl;
  some = λ h. absurd (let e = ap good (append-nil b) in let l = ap length (append-nil b) in let i = g.is in omega
      (arith, h, e, l, i));
}
fed-text b (x ∷ more) g = go (text_answer (text_reader_of b) x) refl (λ h. fed-text (b ++ x ∷ []) more h)
  where
    go : (a : Result (Option Level) BadCell) → text_answer (text_reader_of b) x ≡ a
        → (IsCellText (b ++ x ∷ []) → FedText (b ++ x ∷ []) more) → FedText b (x ∷ more)
    go (Ok None) e next =
        let f = text-fed b x None refl g (sym e) refl in
        let r = next f.0 in
        let j = append_assoc b (x ∷ []) more in
        let s = f.1 in record {
          cells = ap cells_of_text (sym j) ∙ r.cells ∙ ap₂ ◌++◌ (f.2 ∙ append-nil (cells_of_text b))
              (ap (λ q. text_cells_fed q more) (sym s)
              ∙ ap (λ a. cells_answered a (text_cells_fed (text_next (text_reader_of b) x) more)) (sym e));
          none = λ h. ap (λ a. refusal_answered a (text_refusal (text_next (text_reader_of b) x) more)) e
              ∙ ap (λ q. text_refusal q more) s ∙ r.none (subst IsCellText (sym j) h);
          some = λ h. ap (λ a. refusal_answered a (text_refusal (text_next (text_reader_of b) x) more)) e
              ∙ ap (λ q. text_refusal q more) s
              ∙ r.some (subst (λ v. good v < length v) (sym j) h) ∙ ap (λ v. Some (record { at = good v })) j;
        }
    go (Ok (Some level)) e next =
        let f = text-fed b x (Some level) refl g (sym e) refl in
        let r = next f.0 in
        let j = append_assoc b (x ∷ []) more in
        let s = f.1 in record {
          cells = ap cells_of_text (sym j) ∙ r.cells ∙ ap₂ ◌++◌ f.2 (ap (λ q. text_cells_fed q more) (sym s))
              ∙ append_assoc (cells_of_text b) (level ∷ []) (text_cells_fed (text_next (text_reader_of b) x) more)
              ∙ ap (λ a. cells_of_text b ++ cells_answered a (text_cells_fed (text_next (text_reader_of b) x) more))
              (sym e);
          none = λ h. ap (λ a. refusal_answered a (text_refusal (text_next (text_reader_of b) x) more)) e
              ∙ ap (λ q. text_refusal q more) s ∙ r.none (subst IsCellText (sym j) h);
          some = λ h. ap (λ a. refusal_answered a (text_refusal (text_next (text_reader_of b) x) more)) e
              ∙ ap (λ q. text_refusal q more) s
              ∙ r.some (subst (λ v. good v < length v) (sym j) h) ∙ ap (λ v. Some (record { at = good v })) j;
        }
    go (Err f) e next =
        let q = text-refused b x f refl g (sym e) refl in
        let d = q.2 more in
        let l = length-append b (x ∷ more) in record {
          cells = d.1 ∙ sym (append-nil (cells_of_text b))
              ∙ ap (λ a. cells_of_text b ++ cells_answered a (text_cells_fed (text_next (text_reader_of b) x) more))
              (sym e);
          none = λ h. absurd (let i = h.is in let k = d.0 in omega (arith, i, k, l));
          some = λ h. ap (λ a. refusal_answered a (text_refusal (text_next (text_reader_of b) x) more)) e
              ∙ ap Some (fault-is f (good (b ++ x ∷ more)) (q.1 ∙ sym d.0));
        }
      where
        fault-at : ℕ → BadCell
        fault-at k = record { at = k }

        fault-is : (f : BadCell) (n : ℕ) → f.at ≡ n → f ≡ record { at = n }
        fault-is f n h = ap (λ (k : ℕ). fault-at k) h

pub no-text : IsCellText []
no-text = (cells-text []).0

pub no-cells : cells_of_text [] ≡ []
no-cells = (cells-text []).1

-- packed octets
pub fed-packed : (octets : List ℕ) → is_packed octets ≡ true
    → cells_fed (packed_reader_of []) octets ++ end_cells (packed_end (octets_fed (packed_reader_of []) octets))
    ≡ cells_of_packed octets
fed-packed octets h =
    ap₂ (λ a r. a ++ end_cells (packed_end r))
    (ap (λ w. w ++ cells_fed (packed_reader_of []) octets) (sym (whole-few [] (omega arith)))
    ∙ sym (whole-fed [] octets)) (reader-fed [] octets)
    ∙ sym (cells-end octets h)

-- cells put behind others
pub put-begun : (b c : List Level) → begun_put (begun_cells b) c ≡ begun_cells (b ++ c)
put-begun b [] = ap begun_cells (sym (append-nil b))
put-begun b (l ∷ c) = ap (λ p. begun_put p c) (sym (begun_cells-more b l)) ∙ put-begun (b ++ l ∷ []) c
    ∙ ap begun_cells (append_assoc b (l ∷ []) c)

put-octets : (b c : List Level) → whole_octets b ++ octets_put (begun_cells b) c ≡ whole_octets (b ++ c)
put-octets b [] = append-nil (whole_octets b) ∙ ap whole_octets (sym (append-nil b))
put-octets b (l ∷ c) =
    sym (append_assoc (whole_octets b) (octets_added (begun_cells b) l) (octets_put (begun_after (begun_cells b) l) c))
    ∙ ap₂ (λ a p. a ++ octets_put p c) (sym (whole_octets-more b l)) (sym (begun_cells-more b l))
    ∙ put-octets (b ++ l ∷ []) c ∙ ap whole_octets (append_assoc b (l ∷ []) c)

put-text : (b c : List Level) → text_of b ++ text_put (begun_cells b) c ≡ text_of (b ++ c)
put-text b [] = append-nil (text_of b) ∙ ap text_of (sym (append-nil b))
put-text b (l ∷ c) =
    sym (append_assoc (text_of b) (text_added (begun_cells b) l) (text_put (begun_after (begun_cells b) l) c))
    ∙ ap₂ (λ a p. a ++ text_put p c) (sym (text_of-more b l)) (sym (begun_cells-more b l))
    ∙ put-text (b ++ l ∷ []) c ∙ ap text_of (append_assoc b (l ∷ []) c)

pub text-put : (c : List Level) → text_put [] c ≡ text_of c
text-put c =
    ap (λ p. text_put p c) (sym begun_cells-nil) ∙ ap (λ t. t ++ text_put (begun_cells []) c) (sym (bytes-nothing Text))
    ∙ put-text [] c

pub packed-put : (c : List Level) → octets_put [] c ++ packed_of (begun_put [] c) ≡ packed_of c
packed-put c =
    ap₂ (λ a p. a ++ packed_of p)
    (ap (λ p. octets_put p c) (sym begun_cells-nil)
    ∙ ap (λ t. t ++ octets_put (begun_cells []) c) (sym whole_octets-nil) ∙ put-octets [] c)
    (ap (λ p. begun_put p c) (sym begun_cells-nil) ∙ put-begun [] c)
    ∙ sym (packed_of-begun c)
