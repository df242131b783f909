-- Bytes of cell text that a reader took, joined.
use Rattle.std.proofs.Common.{◌≡◌, ℕ, ◌+◌, ◌≤◌, List, [], ◌∷◌, ◌++◌, true, Option, Some, None, Ok, length, take, drop}
use Rattle.std.proofs.Common.{map, refl, ap, ap₂, sym, ◌∙◌, subst, arith, length-append}
use Rattle.std.proofs.lemmas.List.{length-map, length-take-le}
use Rattle.std.proofs.Math.Seq.{take-add}
use Rattle.aes3_level.specs.declared.level.Level.{Level}
use Rattle.aes3_cell.specs.Text.{byte_of}
use Rattle.std.specs.Prelude.{IfSome, OnSome}
use Rattle.aes3_cell.specs.declared.some_cells.SomeCells.{SomeCells}
use Rattle.aes3_level.specs.Words.{low_cells, word_cells}
use Rattle.aes3_cell.specs.CellText.{Kind, cell, separator, bad, kind_of, is_good, kind_cells, is_good_byte, byte_cells}
use Rattle.aes3_cell.specs.CellText.{good_bytes, cells_of_text, IsCellText}
use Rattle.aes3_cell.specs.TextReading.{TextReader, text_answer, kind_next, text_next}
use Rattle.aes3_cell.proofs.CellTexts.{answer-ok, text-join, cells-join, text-more, cells-more, cells-text}
use Rattle.aes3_level.proofs.WordCells.{word_len_64}
use Rattle.aes3_level.proofs.WordCells.{length-word_cells}
use Rattle.aes3_cell.specs.TextReading.{TextRead}

pub read-none : (r : TextReader) → TextRead r r [] []
unfolding cells_of_text good_bytes
read-none r = record { lawful = record { is = refl }; cells = refl; seen = omega arith }

pub read-is : {r s : TextReader} {d e : List ℕ} {c f : List Level} → d ≡ e → c ≡ f → TextRead r s d c → TextRead r s e f
read-is {r} {s} {d} {e} {c} {f} p q h
    = subst (λ (v : List ℕ). TextRead r s v f) p (subst (λ (v : List Level). TextRead r s d v) q h)

pub read-join : {r s t : TextReader} {d e : List ℕ} {c f : List Level} → TextRead r s d c → TextRead s t e f
    → TextRead r t (d ++ e) (c ++ f)
read-join {d = d} {e = e} p q = record {
  lawful = text-join d e p.lawful q.lawful;
  cells = cells-join d e p.lawful ∙ ap₂ ◌++◌ p.cells q.cells;
  seen = (let a = p.seen in let b = q.seen in let n = length-append d e in omega arith);
}

-- one more front of the rest of a piece
pub read-front : {r s t : TextReader} {c f : List Level} (xs rest : List ℕ) (at n : ℕ) → rest ≡ drop at xs
    → TextRead r s (take at xs) c → TextRead s t (take n rest) f → TextRead r t (take (at + n) xs) (c ++ f)
read-front xs rest at n e p q
    = read-is (ap (λ z. take at xs ++ take n z) e ∙ sym (take-add at n xs)) refl (read-join p q)

-- one byte
next-seen : (r : TextReader) (k : Kind) → is_good k ≡ true → (kind_next r k).seen ≡ r.seen + 1
next-seen r (cell level) e = refl
next-seen r separator e = refl
next-seen r bad e = absurd cc

pub read-good : (r s : TextReader) (x : ℕ) → is_good_byte x ≡ true → s ≡ text_next r x
    → TextRead r s (x ∷ []) (byte_cells x)
unfolding cells_of_text good_bytes
read-good r s x g n = record {
  lawful = text-more [] x (record { is = refl }) g;
  cells = cells-more [] x (record { is = refl });
  seen = ap (λ v. v.seen) n ∙ next-seen r (kind_of x) g;
}

pub read-byte : (r s : TextReader) (x : ℕ) (o : Option Level) → Ok o ≡ text_answer r x → s ≡ text_next r x
    → TextRead r s (x ∷ []) (byte_cells x)
read-byte r s x o a n = read-good r s x (answer-ok r x o a).0 n

pub read-separator : (r s : TextReader) (x : ℕ) → kind_of x ≡ separator → s ≡ text_next r x → TextRead r s (x ∷ []) []
read-separator r s x e n = read-is refl (ap kind_cells e) (read-good r s x (ap is_good e) n)

-- a word
pub read-word : (r s : TextReader) (bytes : List ℕ) (w : ℕ) → bytes ≡ map byte_of (word_cells w) → s.seen ≡ r.seen + 64
    → TextRead r s bytes (word_cells w)
read-word r s bytes w e n =
    let c = cells-text (word_cells w) in
    let k = word_len_64 in
    let l : length bytes ≡ 64 = ap length e ∙ length-map (word_cells w) byte_of ∙ length-word_cells w ∙ k in
    record {
      lawful = subst IsCellText (sym e) c.0;
      cells = ap cells_of_text e ∙ c.1;
      seen = omega arith;
    }

-- a chunk
pub read-chunk : (r s : TextReader) (xs bytes : List ℕ) (o : Option SomeCells) → bytes ≡ take 64 xs → 64 ≤ length xs
    → IfSome o (λ c. cells_of_text bytes ≡ low_cells c.len c.word) → OnSome o (IsCellText bytes)
    → OnSome o (s.seen ≡ r.seen + 64)
    → IfSome o (λ c. TextRead r s (take 64 xs) (low_cells c.len c.word))
read-chunk r s xs bytes (Some c) e l p q n = record {
  lawful = subst IsCellText e q;
  cells = ap cells_of_text (sym e) ∙ p;
  seen = n ∙ ap (λ k. r.seen + k) (sym (length-take-le 64 xs l));
}
read-chunk r s xs bytes None e l p q n = tt
