-- Lines of 64 cells that text begins with.
use Rattle.std.proofs.Common.{◌≡◌, ℕ, ◌≤◌, List, [], ◌∷◌, ◌++◌, length, map, take, drop, get_or, sym, ap, ap₂, ◌∙◌}
use Rattle.std.proofs.Common.{arith, append_assoc, length-append, take-append-drop}
use Rattle.std.proofs.lemmas.List.{take_at, get_or-append_right, length-map}
use Rattle.std.proofs.Math.Seq.{take-suc}
use Rattle.aes3_cell.specs.Text.{byte_of, line_text}
use Rattle.aes3_level.specs.Words.{word_cells}
use Rattle.aes3_level.proofs.WordCells.{word_len_64}
use Rattle.aes3_level.proofs.WordCells.{length-word_cells}

-- text that begins with the line of a word
module _ (text : List ℕ) (w : ℕ) where
  cells-length : length (map byte_of (word_cells w)) ≡ 64
  cells-length = length-map (word_cells w) byte_of ∙ length-word_cells w ∙ word_len_64

  line-is : take 65 text ≡ line_text (word_cells w) → text ≡ map byte_of (word_cells w) ++ 10 ∷ drop 65 text
  line-is e = sym (take-append-drop 65 text) ∙ ap (λ v. v ++ drop 65 text) e
      ∙ append_assoc (map byte_of (word_cells w)) (10 ∷ []) (drop 65 text)

  pub line-long : take 65 text ≡ line_text (word_cells w) → 65 ≤ length text
  line-long e =
      let l = ap length (line-is e) in
      let m = length-append (map byte_of (word_cells w)) (10 ∷ drop 65 text) in
      let k = cells-length in
      omega (arith, l, m, k)

  pub line-feed : take 65 text ≡ line_text (word_cells w) → get_or text 64 0 ≡ 10
  line-feed e =
      ap (λ v. get_or v 64 0) (line-is e)
      ∙ get_or-append_right (map byte_of (word_cells w)) (10 ∷ drop 65 text) 64 64 0 cells-length (omega arith)

  pub line-cells : take 65 text ≡ line_text (word_cells w) → take 64 text ≡ map byte_of (word_cells w)
  line-cells e = ap (take 64) (line-is e) ∙ take_at (map byte_of (word_cells w)) (10 ∷ drop 65 text) 64 cells-length

  pub line-whole : 65 ≤ length text → take 64 text ≡ map byte_of (word_cells w) → get_or text 64 0 ≡ 10
      → take 65 text ≡ line_text (word_cells w)
  line-whole h e f = take-suc text 64 0 (omega (arith, h)) ∙ ap₂ (λ a b. a ++ b ∷ []) e f
