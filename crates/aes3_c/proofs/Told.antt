-- Reports told as numbers.
use Rattle.std.proofs.Common.{◌≡◌, ◌≢◌, ℕ, List, Bool, Option, Some, None, false, map, refl, ap, ◌∙◌, sym, subst}
use Rattle.std.proofs.Common.{arith, ne_eqb}
use Rattle.std.specs.Prelude.{◌==◌, if◌then◌else◌, option_map}
use Rattle.aes3_level.specs.declared.level.Level.{Level}
use Rattle.aes3_level.specs.Words.{level_of}
use Rattle.aes3_frame.specs.Files.{word_of}
use Rattle.aes3_lock.specs.declared.report.Report.{Report}
use Rattle.aes3_lock.specs.declared.report.Report.TheVariants.{Whole, Marked, Fault, Unfinished}
use Rattle.aes3_c.specs.Codes.{why_of_code}
use Rattle.aes3_c.specs.States.{Coded, told_of}
use Rattle.aes3_c.specs.declared.report_record.Aes3Report.{Aes3Report}

-- what they tell by their kind, where a whole block is this one
by-kind : List (List Bool) → Aes3Report → ℕ → Option Report
by-kind block r k =
    if k == 1 then Some (Whole r.at (level_of r.before) block)
    else if k == 2 then Some (Marked r.at (level_of r.before) r.wrong)
    else if k == 3 then Some (Fault r.at r.cell (why_of_code r.why))
    else if k == 4 then Some (Unfinished r.at r.cell)
    else None

-- nothing is told
pub told-none : (r : Aes3Report) (block : List (List Bool)) → r.kind ≡ 0 → told_of block r ≡ None
unfolding by-kind
told-none r block h = ap (by-kind block r) h

pub coded-none : (r : Aes3Report) (block : List (List Bool)) → r.kind ≡ 0 → Coded (told_of block r) r
coded-none r block h = subst (λ (o : Option Report). Coded o r) (sym (told-none r block h)) h

pub none-block : (r : Aes3Report) (b : List (List Bool)) (at : ℕ) (before : Level) (block : List (List Bool))
    → r.kind ≡ 0 → told_of b r ≡ Some (Whole at before block) → r.words ≡ map word_of block
none-block r b at before block h e =
    let k = (subst (λ (o : Option Report). Coded o r) e (coded-none r b h)).0 in absurd (omega (arith, h, k))

-- an ending is told just where its number is not that of none
pub ending-told : {X : Type 0} (report : X → Report) (r : Aes3Report) (o : Option X) → r.kind ≡ 0
    → Coded (option_map report o) r → o ≡ None
ending-told report r None h c = refl
ending-told report r (Some x) h c = absurd (some-coded (report x) r h c)
  where
    some-coded : (it : Report) (r : Aes3Report) → r.kind ≡ 0 → Coded (Some it) r → ⊥
    some-coded (Whole at before block) r h c = let k = c.0 in omega (arith, h, k)
    some-coded (Marked at before wrong) r h c = let k = c.0 in omega (arith, h, k)
    some-coded (Fault at cell why) r h c = let k = c.0 in omega (arith, h, k)
    some-coded (Unfinished at cells) r h c = let k = c.0 in omega (arith, h, k)

pub none-told-of : {X : Type 0} (report : X → Report) (r : Aes3Report) (o : Option X) → r.kind ≢ 0
    → Coded (option_map report o) r → o ≢ None
none-told-of report r None h c = λ e. h c
none-told-of report r (Some x) h c = λ e. absurd cc

-- a report without a whole block is the same with any words
told-otherwise : (r : Aes3Report) (a b : List (List Bool)) → (r.kind == 1) ≡ false → told_of a r ≡ told_of b r
told-otherwise r a b h =
    ap (λ t. other t a) h ∙ sym (ap (λ t. other t b) h)
  where
    other : Bool → List (List Bool) → Option Report
    other t block = if t then Some (Whole r.at (level_of r.before) block)
        else if r.kind == 2 then Some (Marked r.at (level_of r.before) r.wrong)
        else if r.kind == 3 then Some (Fault r.at r.cell (why_of_code r.why))
        else if r.kind == 4 then Some (Unfinished r.at r.cell)
        else None

pub told-without : (r : Aes3Report) (a b : List (List Bool)) (o : Option Report) → r.kind ≢ 1 → told_of a r ≡ o
    → told_of b r ≡ o
told-without r a b o h e = told-otherwise r b a (ne_eqb r.kind 1 h) ∙ e

pub no-block : (r : Aes3Report) (o : Option Report) (at : ℕ) (before : Level) (block : List (List Bool)) → r.kind ≢ 1
    → Coded o r → o ≡ Some (Whole at before block) → r.words ≡ map word_of block
no-block r o at before block h c e = absurd (h (subst (λ (o : Option Report). Coded o r) e c).0)

pub coded-words : (o : Option Report) (r : Aes3Report) (words : List ℕ) → Coded o r
    → Coded o (record {
      at = r.at;
      cell = r.cell;
      words = words;
      wrong = r.wrong;
      kind = r.kind;
      before = r.before;
      why = r.why;
    })
coded-words None r words c = c
coded-words (Some (Whole at before block)) r words c = c
coded-words (Some (Marked at before wrong)) r words c = c
coded-words (Some (Fault at cell why)) r words c = c
coded-words (Some (Unfinished at cells)) r words c = c
