-- One more cell behind cells that are written, as text or packed.
use Rattle.std.proofs.Common.{◌≡◌, ℕ, suc, ◌+◌, ◌*◌, ◌/◌, ◌<◌, List, [], ◌∷◌, ◌++◌, cond, length, take, drop, refl, sym}
use Rattle.std.proofs.Common.{ap, ap₂, ◌∙◌, arith, append_assoc, append-nil, length-append, length-drop, eq-eqb, ne_eqb}
use Rattle.std.proofs.Common.{inl, inr}
use Rattle.std.proofs.lemmas.Bool.{cases_eq}
use Rattle.std.proofs.lemmas.List.{take-append-drop, length-take-le, drop_all}
use Rattle.std.proofs.Math.Seq.{drop-append-add}
use Rattle.aes3_level.specs.declared.level.Level.{Level}
use Rattle.aes3_level.specs.Words.{word_len}
use Rattle.aes3_cell.specs.Text.{line_text, lines_text, text_of}
use Rattle.aes3_cell.specs.Pending.{begun_cells, text_added, begun_after}
use Rattle.aes3_cell.proofs.Lines.{text_of-append, text_of-line}

-- cells by their whole lines and those behind them
pub record Begun (n : ℕ) (whole begun c : List Level) : Type 0 where
  pub is : c ≡ whole ++ begun
  pub lines : length whole ≡ n * word_len
  pub few : length begun < word_len
  pub begun_is : begun_cells c ≡ begun

pub begun-of : (c : List Level)
    → Begun (length c / word_len) (take (word_len * (length c / word_len)) c) (begun_cells c) c
unfolding begun_cells word_len
begun-of c = record {
  is = sym (take-append-drop (64 * (length c / 64)) c);
  lines = length-take-le (64 * (length c / 64)) c (omega arith) ∙ omega arith;
  few = let l = length-drop (64 * (length c / 64)) c in omega arith;
  begun_is = refl;
}

-- the cells begun are those behind any whole lines
pub begun_cells-append : (n : ℕ) (a b : List Level) → length a ≡ n * word_len → begun_cells (a ++ b) ≡ begun_cells b
unfolding begun_cells word_len
begun_cells-append n a b h =
    let l = length-append a b in
    let e : 64 * (length (a ++ b) / 64) ≡ length a + 64 * (length b / 64) = omega arith in
    ap (λ k. drop k (a ++ b)) e ∙ drop-append-add a b (64 * (length b / 64))

begun_cells-few : (c : List Level) → length c < word_len → begun_cells c ≡ c
unfolding begun_cells word_len
begun_cells-few c h = let e : 64 * (length c / 64) ≡ 0 = omega arith in ap (λ k. drop k c) e

begun_cells-line : (c : List Level) → length c ≡ word_len → begun_cells c ≡ []
unfolding begun_cells word_len
begun_cells-line c h = drop_all (64 * (length c / 64)) c (omega arith)

pub begun_cells-nil : begun_cells [] ≡ []
unfolding word_len
begun_cells-nil = begun_cells-few [] (omega arith)

-- behind one more cell
pub begun_cells-more : (c : List Level) (l : Level) → begun_cells (c ++ l ∷ []) ≡ begun_after (begun_cells c) l
begun_cells-more c l =
    let b = begun-of c in
    let n = length c / word_len in
    let a = take (word_len * n) c in
    let d = begun_cells c in
    let x = length-append d (l ∷ []) in
    ap (λ v. begun_cells (v ++ l ∷ [])) b.is ∙ ap begun_cells (append_assoc a d (l ∷ []))
    ∙ begun_cells-append n a (d ++ l ∷ []) b.lines
    ∙ elim (cases_eq (suc (length d)) word_len) [
      | inl e ↦ begun_cells-line (d ++ l ∷ []) (omega arith)
          ∙ ap (λ t. cond t [] (d ++ l ∷ [])) (sym (eq-eqb (suc (length d)) word_len e))
      | inr e ↦ begun_cells-few (d ++ l ∷ []) (let f = b.few in omega arith)
          ∙ ap (λ t. cond {A = List Level} t [] (d ++ l ∷ [])) (sym (ne_eqb (suc (length d)) word_len e))
    ]

text_of-few : (c : List Level) → length c < word_len → text_of c ≡ []
unfolding text_of word_len
text_of-few c h = let e : length c / 64 ≡ 0 = omega arith in ap (λ k. lines_text k c) e

pub text_of-more : (c : List Level) (l : Level) → text_of (c ++ l ∷ []) ≡ text_of c ++ text_added (begun_cells c) l
text_of-more c l =
    let b = begun-of c in
    let n = length c / word_len in
    let a = take (word_len * n) c in
    let d = begun_cells c in
    let whole : text_of c ≡ text_of a =
    ap text_of b.is ∙ text_of-append n a d b.lines ∙ ap (λ t. text_of a ++ t) (text_of-few d b.few)
    ∙ append-nil (text_of a) in
    ap (λ v. text_of (v ++ l ∷ [])) b.is ∙ ap text_of (append_assoc a d (l ∷ []))
    ∙ text_of-append n a (d ++ l ∷ []) b.lines
    ∙ ap₂ ◌++◌ (sym whole) (last d b.few)
  where
    last : (d : List Level) → length d < word_len → text_of (d ++ l ∷ []) ≡ text_added d l
    last d f =
        let x = length-append d (l ∷ []) in
        elim (cases_eq (suc (length d)) word_len) [
          | inl e ↦ text_of-line (d ++ l ∷ []) (omega arith)
              ∙ ap (λ t. cond t (line_text (d ++ l ∷ [])) []) (sym (eq-eqb (suc (length d)) word_len e))
          | inr e ↦ text_of-few (d ++ l ∷ []) (omega arith)
              ∙ ap (λ t. cond t (line_text (d ++ l ∷ [])) []) (sym (ne_eqb (suc (length d)) word_len e))
        ]
