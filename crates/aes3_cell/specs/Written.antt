-- The bytes of cells in either form.
use Rattle.std.specs.Prelude.{ℕ, List, [], ◌∷◌, ◌≡◌, ◌*◌, take}
use Rattle.std.specs.List.{flat_map}
use Rattle.aes3_level.specs.declared.level.Level.{Level}
use Rattle.aes3_cell.specs.declared.form.Form.{Form}
use Rattle.aes3_cell.specs.declared.form.Form.TheVariants.{Text, Packed}
use Rattle.aes3_level.specs.Words.{word_cells}
use Rattle.aes3_cell.specs.Text.{text_of}
use Rattle.aes3_cell.specs.Packed.{octets_of, packed_of}

-- the bytes of whole words of cells, and those that end them: packed, the number of unused cells, of which they have
-- none
abbrev pub bytes_of : Form → List Level → List ℕ
bytes_of Text c = text_of c
bytes_of Packed c = octets_of c

abbrev pub ending : Form → List ℕ
ending Text = []
ending Packed = 0 ∷ []

-- cells as they are written in a file
abbrev pub written : Form → List Level → List ℕ
written Text c = text_of c
written Packed c = packed_of c

-- text begins with the lines of the first n words
abbrev pub FirstLines : ℕ → List ℕ → List ℕ → Type 0
FirstLines n words text = take (65 * n) text ≡ bytes_of Text (flat_map word_cells (take n words))
