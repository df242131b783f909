-- The cells of a word taken part by part.
use Rattle.std.proofs.Common.{◌≡◌, ℕ, ◌+◌, ◌/◌, ◌^◌, ◌<◌, ◌≤◌, false, refl, List, [], ◌++◌, length, take, drop, get_or}
use Rattle.std.proofs.Common.{append-nil, ap, ◌∙◌, sym, subst, arith, append_assoc}
use Rattle.std.specs.Prelude.{Option, Some, None, option_map, option_to_list}
use Rattle.std.specs.Option.{is_some}
use Rattle.std.specs.List.{flat_map}
use Rattle.std.proofs.lemmas.Grind.{flat_map-append}
use Rattle.std.proofs.lemmas.List.{flat_map_more, take_more}
use Rattle.std.proofs.Math.Seq.{take-add}
use Rattle.aes3_level.specs.declared.level.Level.{Level}
use Rattle.aes3_level.specs.Words.{low_cells, word_cells}
use Rattle.aes3_level.proofs.WordCells.{length-low_cells, low_cells-add}
use Rattle.aes3_lock.specs.declared.report.Ending.{Ending}
use Rattle.aes3_lock.specs.declared.report.Report.{Report}
use Rattle.aes3_lock.specs.Reports.{decided}
use Rattle.aes3_lock.specs.Following.{LockState, Follows}
use Rattle.aes3_lock.proofs.Spacing.{few-told}

pub parts : (c : List Level) (a b w : ℕ) → (c ++ low_cells a w) ++ low_cells b (w / 2 ^ a) ≡ c ++ low_cells (a + b) w
parts c a b w = append_assoc c (low_cells a w) (low_cells b (w / 2 ^ a)) ∙ ap (λ x. c ++ x) (sym (low_cells-add a b w))

-- cells that decide nothing told no ending
pub none-told : (report : Ending → Report) (c : List Level) (w n n' : ℕ) (o : Option Ending) → n' ≡ n → o ≡ None
    → decided (c ++ low_cells n w) ≡ decided c
    → decided (c ++ low_cells n' w) ≡ decided c ++ option_to_list (option_map report o)
none-told report c w n n' o e z g =
    ap (λ m. decided (c ++ low_cells m w)) e ∙ g ∙ sym (append-nil (decided c))
    ∙ ap (λ v. decided c ++ option_to_list (option_map report v)) (sym z)

-- no ending has no report
pub no-ending : (report : Ending → Report) (o : Option Ending) → is_some o ≡ false
    → option_to_list (option_map report o) ≡ []
no-ending report None e = refl
no-ending report (Some x) e = cc

-- some more cells of a word
pub more-follows : (k k' : LockState) (c : List Level) (a b w : ℕ)
    → ((d : List Level) → Follows k d → Follows k' (d ++ low_cells b (w / 2 ^ a))) → Follows k (c ++ low_cells a w)
    → Follows k' (c ++ low_cells (a + b) w)
more-follows k k' c a b w follows f = subst (Follows k') (parts c a b w) (follows (c ++ low_cells a w) f)

pub more-reports : (k : LockState) (c : List Level) (a b w : ℕ) (more : List Report)
    → ((d : List Level) → Follows k d → decided (d ++ low_cells b (w / 2 ^ a)) ≡ decided d ++ more)
    → Follows k (c ++ low_cells a w) → decided (c ++ low_cells a w) ≡ decided c
    → decided (c ++ low_cells (a + b) w) ≡ decided c ++ more
more-reports k c a b w more report f g = ap decided (sym (parts c a b w)) ∙ report (c ++ low_cells a w) f
    ∙ ap (λ x. x ++ more) g

pub more-none : (k : LockState) (c : List Level) (a b w : ℕ)
    → ((d : List Level) → Follows k d → decided (d ++ low_cells b (w / 2 ^ a)) ≡ decided d)
    → Follows k (c ++ low_cells a w) → decided (c ++ low_cells a w) ≡ decided c
    → decided (c ++ low_cells (a + b) w) ≡ decided c
more-none k c a b w none f g = ap decided (sym (parts c a b w)) ∙ none (c ++ low_cells a w) f ∙ g

-- the reports of some more cells of a word behind those told before, of which there are few
pub more-told : (k : LockState) (c : List Level) (a b w : ℕ) (out new more : List Report) → a ≤ 64
    → ((d : List Level) → Follows k d → decided (d ++ low_cells b (w / 2 ^ a)) ≡ decided d ++ more)
    → Follows k (c ++ low_cells a w)
    → decided (c ++ low_cells a w) ≡ decided c ++ out → (length out < 16 → new ≡ out ++ more)
    → decided (c ++ low_cells (a + b) w) ≡ decided c ++ new
more-told k c a b w out new more h report f g e =
    let n = length-low_cells a w in
    let few = few-told c (low_cells a w) out (omega (arith, n, h)) g in
    ap decided (sym (parts c a b w)) ∙ report (c ++ low_cells a w) f ∙ ap (λ x. x ++ more) g
    ∙ append_assoc (decided c) out more
    ∙ ap (λ x. decided c ++ x) (sym (e (omega (arith, few))))

-- words one behind the other
pub no-words : (c : List Level) (words : List ℕ) → c ++ flat_map word_cells (take 0 words) ≡ c
no-words c words = append-nil c

pub next-word : (c : List Level) (words : List ℕ) (i : ℕ) → i < length words
    → (c ++ flat_map word_cells (take i words)) ++ word_cells (get_or words i 0) ≡ c ++ flat_map word_cells
    (take (i + 1) words)
next-word c words i h =
    flat_map_more word_cells c (take i words) (get_or words i 0)
    ∙ ap (λ x. c ++ flat_map word_cells x) (sym (take_more words i 0 h))

pub next-words : (c : List Level) (words rest : List ℕ) (i n : ℕ) → i ≤ length words → rest ≡ drop i words
    → (c ++ flat_map word_cells (take i words)) ++ flat_map word_cells (take n rest) ≡ c ++ flat_map word_cells
    (take (i + n) words)
next-words c words rest i n h e =
    append_assoc c (flat_map word_cells (take i words)) (flat_map word_cells (take n rest))
    ∙ ap (λ x. c ++ x) (sym (flat_map-append word_cells (take i words) (take n rest))
    ∙ ap (flat_map word_cells) (ap (λ r. take i words ++ take n r) e ∙ sym (take-add i n words)))
