-- Words of cells taken from the front of a piece.
use Rattle.std.proofs.Common.{◌≡◌, ℕ, ◌+◌, List, [], ◌++◌, Option, None, length, sym, ap, ap₂, ◌∙◌, subst}
use Rattle.std.proofs.Common.{length-append}
use Rattle.std.proofs.lemmas.List.{append_cancel_left}
use Rattle.aes3_level.specs.declared.level.Level.{Level}
use Rattle.aes3_cell.specs.Ends.{Grew, GrewFront}
use Rattle.aes3_cell.specs.CellText.{cells_of_text, IsCellText}
use Rattle.aes3_cell.specs.TextReading.{TextRead, TextReader, text_reader_of}
use Rattle.aes3_cell.specs.Packed.{whole_cells}
use Rattle.aes3_cell.specs.PackedReading.{PackedReader, packed_reader_of}
use Rattle.aes3_cell.proofs.Growing.{grew-is, front-is}
use Rattle.aes3_cell.proofs.CellTexts.{cells-join, text-join}
use Rattle.aes3_input.specs.Converting.{Reading, fault_behind, out_behind, first_fault, out}
use Rattle.aes3_input.specs.Running.{Fed}
use Rattle.aes3_input.specs.Taking.{Writing, behind, before_end}
use Rattle.aes3_input.specs.Forms.{text_reading, TextTaken, packed_reading, PackedTaken}
use Rattle.aes3_input.proofs.Outputs.{behind-clean}
use Rattle.aes3_input.proofs.Feeding.{front-longer}
use Rattle.aes3_input.proofs.Items.{before-join}
use Rattle.aes3_input.proofs.TextRuns as text
use Rattle.aes3_input.proofs.PackedRuns as packed

-- where inputs write what their cells write, a piece behind clean bytes writes what its cells write behind theirs
piece-writes : (r : Reading) (w : Writing Level) (cells : List ℕ → List Level)
    → ((b : List ℕ) → out r b ≡ before_end w (cells b)) → (b d : List ℕ) (m : List Level)
    → first_fault r b ≡ None → cells (b ++ d) ≡ cells b ++ m → out_behind r b d ≡ behind w (cells b) m
unfolding first_fault out
piece-writes r w cells is b d m clean e =
    append_cancel_left (out r b) (out_behind r b d) (behind w (cells b) m)
    (sym (behind-clean r [] b d clean) ∙ is (b ++ d) ∙ ap (before_end w) e ∙ before-join w (cells b) m
    ∙ ap (λ z. z ++ behind w (cells b) m) (sym (is b)))

-- text that a reader took
text-writes : (w : Writing Level) (b d : List ℕ) (m : List Level) → IsCellText b → IsCellText d → cells_of_text d ≡ m
    → (fault_behind (text_reading w) b d ≡ None) × (out_behind (text_reading w) b d ≡ behind w (cells_of_text b) m)
unfolding first_fault
text-writes w b d m g k e = (
  text.text-clean w b d k,
  piece-writes (text_reading w) w cells_of_text (text.out-text w) b d m (text.text-clean w [] b g)
      (cells-join b d g ∙ ap (λ v. cells_of_text b ++ v) e),
)

reader-behind : {reader new : TextReader} {cells : ℕ} {f : List Level → Type 0} {d : List ℕ} {m : List Level}
    (b : List ℕ)
    → TextRead reader new d m → TextTaken reader cells f b → new ≡ text_reader_of (b ++ d)
unfolding text_reader_of
reader-behind {d = d} b p h =
    ap (λ v. record { seen = v }) (p.seen ∙ ap (λ v. v.seen + length d) h.reader ∙ sym (length-append b d))

pub text-front : (w₀ w : Writing Level) (f₀ f : List Level → Type 0) (reader new : TextReader) (cells n : ℕ)
    (d : List ℕ) (m : List Level) (t t' : Option (List ℕ))
    → TextRead reader new d m → length m ≡ n → w ≡ w₀
    → ((c : List Level) → f₀ c → f (c ++ m)) → ((c : List Level) → f₀ c → Grew t t' (behind w₀ c m))
    → Fed (text_reading w₀) (text_reading w) (TextTaken reader cells f₀) (TextTaken new (cells + n) f) t t' d
text-front w₀ w f₀ f reader new cells n d m t t' p l s next g = record {
  same = ap text_reading s;
  clean = λ b h. (text-writes w₀ b d m h.lawful p.lawful p.cells).0;
  follows = λ b h.
      let e : cells_of_text (b ++ d) ≡ cells_of_text b ++ m
      = cells-join b d h.lawful ∙ ap (λ v. cells_of_text b ++ v) p.cells in
      record {
        reader = reader-behind b p h;
        lawful = text-join b d h.lawful p.lawful;
        count = ap₂ ◌+◌ h.count (sym l) ∙ sym (length-append (cells_of_text b) m) ∙ ap length (sym e);
        taker = subst f (sym e) (next (cells_of_text b) h.taker);
      };
  grew = λ b h. grew-is (sym (text-writes w₀ b d m h.lawful p.lawful p.cells).1) (g (cells_of_text b) h.taker);
}

pub text-part : (w₀ : Writing Level) (f₀ : List Level → Type 0) (reader new : TextReader) (cells : ℕ)
    (d rest xs : List ℕ) (m : List Level) (t t' : Option (List ℕ))
    → d ++ rest ≡ xs → TextRead reader new d m → ((c : List Level) → f₀ c → GrewFront t t' (behind w₀ c m))
    → (b : List ℕ) → TextTaken reader cells f₀ b → GrewFront t t' (out_behind (text_reading w₀) b xs)
text-part w₀ f₀ reader new cells d rest xs m t t' e p g b h =
    front-longer (text_reading w₀) b d rest xs e
    (front-is (sym (text-writes w₀ b d m h.lawful p.lawful p.cells).1) (g (cells_of_text b) h.taker))

-- octets that a reader took, and the cells that they make whole
octets-write : (w : Writing Level) (b octets : List ℕ) (m : List Level) → whole_cells (b ++ octets) ≡ whole_cells b ++ m
    → (fault_behind (packed_reading w) b octets ≡ None)
    × (out_behind (packed_reading w) b octets ≡ behind w (whole_cells b) m)
octets-write w b octets m e = (
  packed.clean-behind w b octets,
  piece-writes (packed_reading w) w whole_cells (packed.out-packed w) b octets m (packed.clean w b) e,
)

pub octets-front : (w₀ w : Writing Level) (f₀ f : List Level → Type 0) (reader new : PackedReader) (cells n : ℕ)
    (octets : List ℕ) (m : List Level) (t t' : Option (List ℕ))
    → ((b : List ℕ) → reader ≡ packed_reader_of b → new ≡ packed_reader_of (b ++ octets))
    → ((b : List ℕ) → reader ≡ packed_reader_of b → whole_cells (b ++ octets) ≡ whole_cells b ++ m)
    → length m ≡ n → w ≡ w₀
    → ((c : List Level) → f₀ c → f (c ++ m)) → ((c : List Level) → f₀ c → Grew t t' (behind w₀ c m))
    → Fed (packed_reading w₀) (packed_reading w) (PackedTaken reader cells f₀) (PackedTaken new (cells + n) f)
    t t' octets
octets-front w₀ w f₀ f reader new cells n octets m t t' r p l s next g = record {
  same = ap packed_reading s;
  clean = λ b h. packed.clean-behind w₀ b octets;
  follows = λ b h.
      let e = p b h.reader in
      record {
        reader = r b h.reader;
        count = ap₂ ◌+◌ h.count (sym l) ∙ sym (length-append (whole_cells b) m) ∙ ap length (sym e);
        taker = subst f (sym e) (next (whole_cells b) h.taker);
      };
  grew = λ b h. grew-is (sym (octets-write w₀ b octets m (p b h.reader)).1) (g (whole_cells b) h.taker);
}

pub octets-part : (w₀ : Writing Level) (f₀ : List Level → Type 0) (reader : PackedReader) (cells : ℕ)
    (octets rest xs : List ℕ) (m : List Level) (t t' : Option (List ℕ))
    → octets ++ rest ≡ xs
    → ((b : List ℕ) → reader ≡ packed_reader_of b → whole_cells (b ++ octets) ≡ whole_cells b ++ m)
    → ((c : List Level) → f₀ c → GrewFront t t' (behind w₀ c m))
    → (b : List ℕ) → PackedTaken reader cells f₀ b → GrewFront t t' (out_behind (packed_reading w₀) b xs)
octets-part w₀ f₀ reader cells octets rest xs m t t' e p g b h =
    front-longer (packed_reading w₀) b octets rest xs e
    (front-is (sym (octets-write w₀ b octets m (p b h.reader)).1) (g (whole_cells b) h.taker))
