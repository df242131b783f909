-- Cell text joined, read byte by byte, and written and read again.
use Rattle.std.proofs.Common.{◌≡◌, ℕ, zero, suc, ◌+◌, ◌*◌, ◌/◌, ◌%◌, ◌≤◌, List, [], ◌∷◌, ◌++◌, Bool, true, false, cond}
use Rattle.std.proofs.Common.{length, take, drop, map, Option, Some, None, Ok, Err, refl, sym, ap, ap₂, ◌∙◌, arith}
use Rattle.std.proofs.Common.{append-nil, length-append, length-drop, option_to_list}
use Rattle.std.specs.List.{flat_map, take_while}
use Rattle.std.proofs.lemmas.Grind.{flat_map-append}
use Rattle.std.proofs.lemmas.List.{take-append-drop}
use Rattle.std.proofs.lemmas.List.Sums.{take_while-cons}
use Rattle.aes3_level.specs.declared.level.Level.{Level}
use Rattle.aes3_level.specs.declared.level.Level.TheVariants.{Low, High}
use Rattle.aes3_cell.specs.declared.cell_text.BadCell.{BadCell}
use Rattle.aes3_level.specs.Words.{word_len}
use Rattle.aes3_cell.specs.Text.{byte_of, line_text, lines_text, text_of}
use Rattle.aes3_cell.specs.CellText.{Kind, cell, separator, bad, kind_of, is_good, kind_cells, is_good_byte, byte_cells}
use Rattle.aes3_cell.specs.CellText.{good_bytes, good, cells_of_text, IsCellText}
use Rattle.aes3_cell.specs.TextReading.{TextReader, text_reader_of, kind_answer, text_answer, kind_next, text_next}
use Rattle.aes3_level.proofs.WordCells.{word_len_64}

-- one byte before the others
pub good_bytes-good : (x : ℕ) (b : List ℕ) → is_good_byte x ≡ true → good_bytes (x ∷ b) ≡ x ∷ good_bytes b
unfolding good_bytes
good_bytes-good x b h = take_while-cons is_good_byte x b ∙ ap (λ p. cond p (x ∷ take_while is_good_byte b) []) h

pub good_bytes-bad : (x : ℕ) (b : List ℕ) → is_good_byte x ≡ false → good_bytes (x ∷ b) ≡ []
unfolding good_bytes
good_bytes-bad x b h = take_while-cons is_good_byte x b ∙ ap (λ p. cond p (x ∷ take_while is_good_byte b) []) h

pub good-le-length : (b : List ℕ) → good b ≤ length b
unfolding good_bytes
good-le-length [] = omega arith
good-le-length (x ∷ b) = go (is_good_byte x) refl (good-le-length b)
  where
    go : (p : Bool) → is_good_byte x ≡ p → good b ≤ length b → good (x ∷ b) ≤ suc (length b)
    go true e h = omega (arith, ap length (good_bytes-good x b e))
    go false e h = omega (arith, ap length (good_bytes-bad x b e))

-- text without a bad byte, and what stands behind it
good_bytes-join : (a b : List ℕ) → good a ≡ length a → good_bytes (a ++ b) ≡ a ++ good_bytes b
good_bytes-join [] b g = refl
good_bytes-join (x ∷ a) b g = go (is_good_byte x) refl (good_bytes-join a b)
  where
    go : (p : Bool) → is_good_byte x ≡ p → (good a ≡ length a → good_bytes (a ++ b) ≡ a ++ good_bytes b)
        → good_bytes (x ∷ a ++ b) ≡ x ∷ a ++ good_bytes b
    go true e next =
        let h : good a ≡ length a = omega (arith, ap length (good_bytes-good x a e)) in
        good_bytes-good x (a ++ b) e ∙ ap (λ c. x ∷ c) (next h)
    go false e next = absurd (omega (arith, ap length (good_bytes-bad x a e)))

good_bytes-nil : good_bytes [] ≡ []
unfolding good_bytes
good_bytes-nil = refl

good_bytes-all : (a : List ℕ) → IsCellText a → good_bytes a ≡ a
good_bytes-all a g =
    ap good_bytes (sym (append-nil a)) ∙ good_bytes-join a [] g.is ∙ ap (λ c. a ++ c) good_bytes-nil ∙ append-nil a

pub good-join : (a b : List ℕ) → IsCellText a → good (a ++ b) ≡ length a + good b
good-join a b g = ap length (good_bytes-join a b g.is) ∙ length-append a (good_bytes b)

pub text-join : (a b : List ℕ) → IsCellText a → IsCellText b → IsCellText (a ++ b)
text-join a b g h = record { is = good-join a b g ∙ ap (λ n. length a + n) h.is ∙ sym (length-append a b) }

pub cells-join : (a b : List ℕ) → IsCellText a → cells_of_text (a ++ b) ≡ cells_of_text a ++ cells_of_text b
unfolding cells_of_text
cells-join a b g =
    ap (flat_map byte_cells) (good_bytes-join a b g.is) ∙ flat_map-append byte_cells a (good_bytes b)
    ∙ ap (λ c. flat_map byte_cells c ++ flat_map byte_cells (good_bytes b)) (sym (good_bytes-all a g))

pub length-cells_of_text : (b : List ℕ) → length (cells_of_text b) ≤ length b
unfolding cells_of_text
length-cells_of_text b = let l = few (good_bytes b) in let g = good-le-length b in omega arith
  where
    one : (k : Kind) → length (kind_cells k) ≤ 1
    one (cell level) = omega arith
    one separator = omega arith
    one bad = omega arith

    few : (a : List ℕ) → length (flat_map byte_cells a) ≤ length a
    few [] = omega arith
    few (x ∷ a) =
        let o = one (kind_of x) in let l = length-append (byte_cells x) (flat_map byte_cells a)
        in let r = few a in omega arith

-- one byte
good-one : (x : ℕ) → is_good_byte x ≡ true → good (x ∷ []) ≡ 1
good-one x e = ap length (good_bytes-good x [] e) ∙ ap (λ c. suc (length c)) good_bytes-nil

cells-one : (x : ℕ) → cells_of_text (x ∷ []) ≡ byte_cells x
unfolding cells_of_text
cells-one x = go (kind_of x) refl
  where
    go : (k : Kind) → kind_of x ≡ k → flat_map byte_cells (good_bytes (x ∷ [])) ≡ byte_cells x
    go (cell level) e =
        ap (flat_map byte_cells) (good_bytes-good x [] (ap is_good e) ∙ ap (λ c. x ∷ c) good_bytes-nil)
        ∙ append-nil (byte_cells x)
    go separator e =
        ap (flat_map byte_cells) (good_bytes-good x [] (ap is_good e) ∙ ap (λ c. x ∷ c) good_bytes-nil)
        ∙ append-nil (byte_cells x)
    go bad e = ap (flat_map byte_cells) (good_bytes-bad x [] (ap is_good e)) ∙ ap kind_cells (sym e)

-- one more byte behind text without a bad byte
pub text-more : (b : List ℕ) (x : ℕ) → IsCellText b → is_good_byte x ≡ true → IsCellText (b ++ x ∷ [])
text-more b x g e = text-join b (x ∷ []) g (record { is = good-one x e })

pub cells-more : (b : List ℕ) (x : ℕ) → IsCellText b → cells_of_text (b ++ x ∷ []) ≡ cells_of_text b ++ byte_cells x
cells-more b x g = cells-join b (x ∷ []) g ∙ ap (λ c. cells_of_text b ++ c) (cells-one x)

pub good-bad : (b : List ℕ) (x : ℕ) (d : List ℕ) → IsCellText b → is_good_byte x ≡ false → good (b ++ x ∷ d) ≡ length b
good-bad b x d g e = good-join b (x ∷ d) g ∙ ap (λ c. length b + length c) (good_bytes-bad x d e) ∙ omega arith

pub cells-bad : (b : List ℕ) (x : ℕ) (d : List ℕ) → IsCellText b → is_good_byte x ≡ false
    → cells_of_text (b ++ x ∷ d) ≡ cells_of_text b
unfolding cells_of_text
cells-bad b x d g e =
    cells-join b (x ∷ d) g ∙ ap (λ c. cells_of_text b ++ flat_map byte_cells c) (good_bytes-bad x d e)
    ∙ append-nil (cells_of_text b)

-- what a reader's answer says of the byte, and which bytes it has taken then
pub answer-ok : (r : TextReader) (x : ℕ) (o : Option Level) → Ok o ≡ text_answer r x
    → (is_good_byte x ≡ true) × (byte_cells x ≡ option_to_list o)
answer-ok r x o = go (kind_of x)
  where
    go : (k : Kind) → Ok o ≡ kind_answer r k → (is_good k ≡ true) × (kind_cells k ≡ option_to_list o)
    go (cell level) e = let q : Some level ≡ o = cc in (refl, ap option_to_list q)
    go separator e = let q : None ≡ o = cc in (refl, ap option_to_list q)
    go bad e = absurd cc

pub answer-err : (r : TextReader) (x : ℕ) (f : BadCell) → Err f ≡ text_answer r x
    → (is_good_byte x ≡ false) × (f.at ≡ r.seen)
answer-err r x f = go (kind_of x)
  where
    go : (k : Kind) → Err f ≡ kind_answer r k → (is_good k ≡ false) × (f.at ≡ r.seen)
    go (cell level) e = absurd cc
    go separator e = absurd cc
    go bad e = let q : f ≡ record { at = r.seen } = cc in (refl, ap (λ v. v.at) q)

pub text_reader-next : (b : List ℕ) (x : ℕ) → is_good_byte x ≡ true
    → text_next (text_reader_of b) x ≡ text_reader_of (b ++ x ∷ [])
unfolding text_reader_of
text_reader-next b x = go (kind_of x)
  where
    go : (k : Kind) → is_good k ≡ true
        → kind_next (record { seen = length b }) k ≡ record { seen = length (b ++ x ∷ []) }
    go (cell level) e = ap (λ n. record { seen = n }) (sym (length-append b (x ∷ [])))
    go separator e = ap (λ n. record { seen = n }) (sym (length-append b (x ∷ [])))
    go bad e = absurd cc

pub text_reader-stays : (r : TextReader) (x : ℕ) → is_good_byte x ≡ false → text_next r x ≡ r
text_reader-stays r x = go (kind_of x)
  where
    go : (k : Kind) → is_good k ≡ false → kind_next r k ≡ r
    go (cell level) e = absurd cc
    go separator e = absurd cc
    go bad e = refl

-- a reader behind text without a bad byte is fed one more
pub text-fed : {r new : TextReader} (b : List ℕ) (x : ℕ) (o : Option Level) → r ≡ text_reader_of b → IsCellText b
    → Ok o ≡ text_answer r x → new ≡ text_next r x
    → IsCellText (b ++ x ∷ []) × (new ≡ text_reader_of (b ++ x ∷ []))
    × (cells_of_text (b ++ x ∷ []) ≡ cells_of_text b ++ option_to_list o)
text-fed {r} b x o e g a n =
    let q = answer-ok r x o a in (
      text-more b x g q.0,
      n ∙ ap (λ v. text_next v x) e ∙ text_reader-next b x q.0,
      cells-more b x g ∙ ap (λ c. cells_of_text b ++ c) q.1,
    )

pub text-refused : {r new : TextReader} (b : List ℕ) (x : ℕ) (f : BadCell) → r ≡ text_reader_of b → IsCellText b
    → Err f ≡ text_answer r x → new ≡ text_next r x
    → (new ≡ r) × (f.at ≡ length b)
    × ((d : List ℕ) → (good (b ++ x ∷ d) ≡ length b) × (cells_of_text (b ++ x ∷ d) ≡ cells_of_text b))
unfolding text_reader_of
text-refused {r} b x f e g a n =
    let q = answer-err r x f a in
    (n ∙ text_reader-stays r x q.0, q.1 ∙ ap (λ v. v.seen) e, λ d. (good-bad b x d g q.0, cells-bad b x d g q.0))

-- written text
kind-byte_of : (level : Level) → kind_of (byte_of level) ≡ cell level
unfolding kind_of
kind-byte_of Low = refl
kind-byte_of High = refl

kind-line_feed : kind_of 10 ≡ separator
unfolding kind_of
kind-line_feed = refl

pub cells-text : (c : List Level) → IsCellText (map byte_of c) × (cells_of_text (map byte_of c) ≡ c)
unfolding cells_of_text good_bytes
cells-text [] = (record { is = refl }, refl)
cells-text (level ∷ c) =
    let r = cells-text c in
    let k = kind-byte_of level in
    let e : is_good_byte (byte_of level) ≡ true = ap is_good k in (
      record { is = ap length (good_bytes-good (byte_of level) (map byte_of c) e) ∙ ap suc r.0.is },
      ap (flat_map byte_cells) (good_bytes-good (byte_of level) (map byte_of c) e) ∙ ap₂ ◌++◌ (ap kind_cells k) r.1,
    )

cells-line : (c : List Level) → IsCellText (line_text c) × (cells_of_text (line_text c) ≡ c)
cells-line c =
    let r = cells-text c in
    let e : is_good_byte 10 ≡ true = ap is_good kind-line_feed in (
      text-more (map byte_of c) 10 r.0 e,
      cells-more (map byte_of c) 10 r.0 ∙ ap₂ ◌++◌ r.1 (ap kind_cells kind-line_feed) ∙ append-nil c,
    )

cells-lines : (n : ℕ) (c : List Level) → length c ≡ n * word_len
    → IsCellText (lines_text n c) × (cells_of_text (lines_text n c) ≡ c)
cells-lines zero c h = (record { is = ap length good_bytes-nil }, nothing ∙ sym (nil c (omega arith)))
  where
    nil : (c : List Level) → length c ≡ 0 → c ≡ []
    nil [] e = refl
    nil (l ∷ c) e = absurd (omega arith)

    nothing : cells_of_text [] ≡ []
    nothing = (cells-text []).1
cells-lines (suc n) c h =
    let w = word_len_64 in
    let r = cells-lines n (drop word_len c) (omega (arith, length-drop word_len c)) in
    let l = cells-line (take word_len c) in (
      text-join (line_text (take word_len c)) (lines_text n (drop word_len c)) l.0 r.0,
      cells-join (line_text (take word_len c)) (lines_text n (drop word_len c)) l.0 ∙ ap₂ ◌++◌ l.1 r.1
          ∙ take-append-drop word_len c,
    )

pub text-read : (c : List Level) → length c % word_len ≡ 0 → IsCellText (text_of c) × (cells_of_text (text_of c) ≡ c)
unfolding text_of word_len
text-read c h = cells-lines (length c / 64) c (omega arith)
