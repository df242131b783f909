-- Cells as whole words and those behind them.
use Rattle.std.proofs.Common.{◌≡◌, ℕ, ◌+◌, ◌*◌, ◌/◌, ◌<◌, List, [], ◌++◌, length, take, drop, refl, sym}
use Rattle.std.proofs.Common.{ap, ◌∙◌, subst, arith, append_assoc, length-append, Option, Result, Ok, Err, append-nil}
use Rattle.std.proofs.lemmas.List.{length-take-le, drop_at, drop-drop, take-append-drop}
use Rattle.std.proofs.Math.Seq.{take-append-add}
use Rattle.std.specs.Prelude.{IfOk}
use Rattle.aes3_level.specs.declared.level.Level.{Level}
use Rattle.aes3_level.specs.Words.{word_cells, word_len}
use Rattle.aes3_level.proofs.WordCells.{length-word_cells, word_len_64}
use Rattle.aes3_cell.specs.declared.form.Form.{Form}
use Rattle.aes3_cell.specs.Pending.{begun_cells}
use Rattle.aes3_cell.specs.Writes.{Wrote}
use Rattle.aes3_cell.specs.Written.{bytes_of}
use Rattle.aes3_cell.proofs.Growing.{grew-none, grew-is}
use Rattle.aes3_cell.proofs.WrittenForms.{bytes-append, bytes-nothing}
use Rattle.aes3_capture_recovery.specs.Endings.{ending_of, finished}
use Rattle.aes3_capture_recovery.proofs.EndBytes.{finished-joined}
use Rattle.aes3_spoil.specs.Spoiling.{bytes_added, whole_words}
use Rattle.aes3_cell.proofs.LineSteps.{begun_cells-append}

pub length-whole : (c : List Level) → length (whole_words c) ≡ length c / word_len * word_len
unfolding whole_words word_len
length-whole c = length-take-le (64 * (length c / 64)) c (omega arith) ∙ omega arith

pub parts : (c : List Level) → whole_words c ++ begun_cells c ≡ c
unfolding whole_words begun_cells
parts c = take-append-drop (word_len * (length c / word_len)) c

pub few-begun : (c : List Level) → length (begun_cells c) < 64
few-begun c =
    let l = length-whole c in
    let p = ap length (parts c) in
    let a = length-append (whole_words c) (begun_cells c) in
    let w = word_len_64 in
    few (length c) (length (begun_cells c)) (rw w at (sym (sym a ∙ p) ∙ ap (λ k. k + length (begun_cells c)) l))
  where
    few : (n k : ℕ) → n ≡ n / 64 * 64 + k → k < 64
    few n k e = omega (arith, e)

-- cells behind whole words
moved : (n k : ℕ) (a x : List Level) → length a ≡ n * word_len
    → word_len * (length (a ++ x) / word_len) ≡ length a + word_len * (length x / word_len)
unfolding word_len
moved n k a x h = let l = length-append a x in omega (arith, l, h)

pub whole-behind : (n : ℕ) (a x : List Level) → length a ≡ n * word_len → whole_words (a ++ x) ≡ a ++ whole_words x
unfolding whole_words
whole-behind n a x h =
    ap (λ k. take k (a ++ x)) (moved n 0 a x h) ∙ take-append-add a x (word_len * (length x / word_len))

-- fewer than a word
pub whole-few : (c : List Level) → length c < 64 → whole_words c ≡ []
unfolding whole_words word_len
whole-few c h = let e : 64 * (length c / 64) ≡ 0 = omega (arith, h) in ap (λ k. take k c) e

pub begun-few : (c : List Level) → length c < 64 → begun_cells c ≡ c
unfolding begun_cells word_len
begun-few c h = let e : 64 * (length c / 64) ≡ 0 = omega (arith, h) in ap (λ k. drop k c) e

-- one word and fewer cells than another
pub whole-word : (w : ℕ) (c : List Level) → length c < 64 → whole_words (word_cells w ++ c) ≡ word_cells w
whole-word w c h =
    whole-behind 1 (word_cells w) c (let l = length-word_cells w in omega (arith, l))
    ∙ ap (λ d. word_cells w ++ d) (whole-few c h) ∙ append-nil (word_cells w)

pub begun-word : (w : ℕ) (c : List Level) → length c < 64 → begun_cells (word_cells w ++ c) ≡ c
begun-word w c h =
    begun_cells-append 1 (word_cells w) c (let l = length-word_cells w in omega (arith, l)) ∙ begun-few c h

-- more cells
behind-parts : (c d : List Level) → c ++ d ≡ whole_words c ++ (begun_cells c ++ d)
behind-parts c d = ap (λ x. x ++ d) (sym (parts c)) ∙ append_assoc (whole_words c) (begun_cells c) d

pub begun-more : (c d : List Level) → begun_cells (c ++ d) ≡ begun_cells (begun_cells c ++ d)
begun-more c d =
    ap begun_cells (behind-parts c d)
    ∙ begun_cells-append (length c / word_len) (whole_words c) (begun_cells c ++ d) (length-whole c)

pub bytes-more : (form : Form) (c d : List Level)
    → bytes_of form (whole_words (c ++ d)) ≡ bytes_of form (whole_words c) ++ bytes_added form (begun_cells c) d
bytes-more form c d =
    ap (λ x. bytes_of form (whole_words x)) (behind-parts c d)
    ∙ ap (bytes_of form)
    (whole-behind (length c / word_len) (whole_words c) (begun_cells c ++ d) (length-whole c))
    ∙ bytes-append form (length c / word_len) (whole_words c) (whole_words (begun_cells c ++ d)) (length-whole c)

pub bytes-none : (form : Form) → bytes_of form (whole_words []) ≡ []
bytes-none form = ap (bytes_of form) (whole-few [] (omega arith)) ∙ bytes-nothing form

-- all cells as they are written at the end
pub bytes-all : (form : Form) (c : List Level)
    → bytes_of form (whole_words c) ++ ending_of form (begun_cells c) ≡ finished form c
bytes-all form c =
    sym (finished-joined form (length c / word_len) (whole_words c) (begun_cells c) (length-whole c) (few-begun c))
    ∙ ap (finished form) (parts c)

-- cells put behind those held: they fit, or one word is whole
pub wrote-none : {A R E : Type 0} {taken : A → Option (List ℕ)} {failed : A → ℕ} {a : A} (form : Form)
    (old more : List Level) (new : List Level) (v : R) → length new < 64 → new ≡ old ++ more
    → Wrote {R = R} {E = E} taken failed a a (bytes_added form old more) (Ok v)
wrote-none {taken = taken} {failed = failed} {a = a} form old more new v few e =
    let n : [] ≡ bytes_added form old more =
    sym (ap (λ x. bytes_of form (whole_words x)) (sym e) ∙ ap (bytes_of form) (whole-few new few) ∙ bytes-nothing form)
    in record { grew = grew-is n (grew-none refl); no_failure = refl; err = tt }

pub wrote-word : {A R E : Type 0} {taken : A → Option (List ℕ)} {failed : A → ℕ} {a b : A} (form : Form)
    (old more rest : List Level) (word : ℕ) (r : Result R E) → length rest < 64 → old ++ more ≡ word_cells word ++ rest
    → Wrote taken failed a b (bytes_of form (word_cells word)) r
    → Wrote taken failed a b (bytes_added form old more) r
wrote-word {taken = taken} {failed = failed} {a = a} {b = b} form old more rest word r few e w =
    subst (λ (z : List ℕ). Wrote taken failed a b z r)
    (ap (bytes_of form) (sym (whole-word word rest few)) ∙ ap (λ x. bytes_of form (whole_words x)) (sym e)) w

-- what holds, holds at Ok
pub if-ok : {R E : Type 0} {P : Type 0} (r : Result R E) → P → IfOk r (λ _. P)
if-ok (Ok v) p = p
if-ok (Err e) p = tt
