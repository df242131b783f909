-- Cells in either form, joined, ended and read back.
use Rattle.std.proofs.Common.{◌≡◌, ℕ, ◌+◌, ◌-◌, ◌*◌, List, [], ◌∷◌, ◌++◌, length, refl, sym, ap, ◌∙◌, arith, append-nil}
use Rattle.std.proofs.Common.{length-append}
use Rattle.aes3_level.specs.declared.level.Level.{Level}
use Rattle.aes3_cell.specs.declared.form.Form.{Form}
use Rattle.aes3_cell.specs.declared.form.Form.TheVariants.{Text, Packed}
use Rattle.aes3_level.specs.Words.{word_len}
use Rattle.aes3_cell.specs.Text.{text_of}
use Rattle.aes3_cell.specs.Packed.{octets_needed, first_octets, octets_of, packed_of}
use Rattle.aes3_cell.specs.Written.{bytes_of, ending, written}
use Rattle.aes3_cell.proofs.Lines.{text_of-append}
use Rattle.aes3_cell.proofs.PackedCells.{first_octets-append}

-- the bytes of whole words, joined, and of no cells
octets-append : (n : ℕ) (a b : List Level) → length a ≡ n * word_len → octets_of (a ++ b) ≡ octets_of a ++ octets_of b
unfolding octets_of word_len
octets-append n a b h =
    let l = length-append a b in
    let e : octets_needed (length (a ++ b)) ≡ 8 * n + octets_needed (length b) = omega arith in
    let f : octets_needed (length a) ≡ 8 * n = omega arith in
    ap (λ k. first_octets k (a ++ b)) e ∙ first_octets-append (8 * n) (octets_needed (length b)) a b (omega arith)
    ∙ ap (λ k. first_octets k a ++ first_octets (octets_needed (length b)) b) (sym f)

pub bytes-append : (form : Form) (n : ℕ) (a b : List Level) → length a ≡ n * word_len
    → bytes_of form (a ++ b) ≡ bytes_of form a ++ bytes_of form b
bytes-append Text n a b h = text_of-append n a b h
bytes-append Packed n a b h = octets-append n a b h

pub bytes-nothing : (form : Form) → bytes_of form [] ≡ []
unfolding text_of octets_of word_len
bytes-nothing Text = refl
bytes-nothing Packed = refl

-- the bytes of whole words and what ends them are these cells written
pub written-whole : (form : Form) (n : ℕ) (c : List Level) → length c ≡ n * word_len
    → bytes_of form c ++ ending form ≡ written form c
unfolding packed_of word_len
written-whole Text n c h = append-nil (text_of c)
written-whole Packed n c h =
    let e : 0 ≡ 8 * octets_needed (length c) - length c = omega arith in
    ap (λ k. octets_of c ++ k ∷ []) e
