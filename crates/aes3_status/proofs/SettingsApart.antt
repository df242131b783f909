-- Fields for one use have no bit in common.
use Rattle.std.proofs.Common.{◌≡◌, ◌≢◌, ◌∙◌, ℕ, ◌+◌, ◌<◌, ◌≤◌, ◌⊎◌, inl, inr, Bool, true, false, eqb, List, length}
use Rattle.std.proofs.Common.{get_or, Option, Some, None, refl, ap, sym, subst, arith}
use Rattle.std.proofs.lemmas.Bool.{eqb-true, leb-true}
use Rattle.std.proofs.lemmas.List.{get_or_default}
use Rattle.std.proofs.lemmas.List.Folds.{list_all_at}
use Rattle.std.specs.List.{list_all}
use Rattle.std.specs.Option.{option_map_or}
use Rattle.std.specs.Prelude.{cond, not, nat_le, ◌||◌, IfSome}
use Rattle.aes3_status.specs.declared.field.Place.{Place}
use Rattle.aes3_status.specs.declared.field.ProField.{ProField}
use Rattle.aes3_status.specs.declared.field.ProField.TheVariants as pro
use Rattle.aes3_status.specs.declared.field.ConField.{ConField}
use Rattle.aes3_status.specs.declared.field.ConField.TheVariants as con
use Rattle.aes3_status.specs.declared.field.Field.{Field}
use Rattle.aes3_status.specs.declared.field.Field.TheVariants.{Use, Professional, Consumer}
use Rattle.aes3_status.specs.declared.setting.Setting.{Setting}
use Rattle.aes3_status.specs.Bits.{number_at}
use Rattle.aes3_status.specs.Consumer.{con_fields, con_place}
use Rattle.aes3_status.specs.Professional.{pro_fields, pro_place, pro_share}
use Rattle.aes3_status.specs.Statuses.{is_professional}
use Rattle.aes3_status.specs.Settings.{place_of, is_for, set_by, told_by, under, with_code, with_field}
use Rattle.aes3_status.specs.SettingLaws.{first_bit, share_bits, OtherCodesStay, OtherMeaningsStay}
use Rattle.aes3_status.proofs.SettingLemmas.{behind-use, field-is, others-stay}
use Rattle.aes3_status.proofs.Tables.{test-get_or}

-- one ends before the other begins
abbrev apart : Place → Place → Bool
apart p q = nat_le (first_bit p + p.count) (first_bit q) || nat_le (first_bit q + q.count) (first_bit p)

abbrev Apart : Place → Place → Type 0
Apart p q = (first_bit p + p.count ≤ first_bit q) ⊎ (first_bit q + q.count ≤ first_bit p)

are-apart : (p q : Place) → apart p q ≡ true → Apart p q
are-apart p q h = go (nat_le (first_bit p + p.count) (first_bit q)) refl h
  where
    go : (b : Bool) → nat_le (first_bit p + p.count) (first_bit q) ≡ b
        → (b || nat_le (first_bit q + q.count) (first_bit p)) ≡ true → Apart p q
    go true e g = inl (leb-true _ _ e)
    go false e g = inr (leb-true _ _ g)

-- ---- a list of numbered fields that are tested in pairs
abbrev same-or-apart : {F : Type 0} → (F → ℕ) → (F → Place) → (F → F → Bool) → F → F → Bool
same-or-apart number place share f g = eqb (number f) (number g) || (share f g || apart (place f) (place g))

abbrev pairs-apart : {F : Type 0} → (F → ℕ) → (F → Place) → (F → F → Bool) → List F → Bool
pairs-apart number place share fields = list_all (λ f. list_all (same-or-apart number place share f) fields) fields

-- where the two have no bits in common
unshared : (b c : Bool) → (b || c) ≡ true → b ≡ false → c ≡ true
unshared true c h none = cc
unshared false c h none = h

pair-apart : {F : Type 0} (number : F → ℕ) (place : F → Place) (share : F → F → Bool) (fields : List F)
    → ((f : F) → number f < length fields) → ((f : F) → get_or fields (number f) f ≡ f)
    → pairs-apart number place share fields ≡ true
    → (f g : F) → f ≢ g → share f g ≡ false → Apart (place f) (place g)
pair-apart number place share fields within back h f g other none = go (eqb (number f) (number g)) refl second
  where
    first : list_all (same-or-apart number place share f) fields ≡ true
    first =
        subst (λ x. list_all (same-or-apart number place share x) fields ≡ true) (back f)
        (test-get_or (λ x. list_all (same-or-apart number place share x) fields) fields (number f) f (within f) h)

    second : same-or-apart number place share f g ≡ true
    second = subst (λ x. same-or-apart number place share f x ≡ true) (back g)
        (test-get_or (same-or-apart number place share f) fields (number g) g (within g) first)

    go : (b : Bool) → eqb (number f) (number g) ≡ b → (b || (share f g || apart (place f) (place g))) ≡ true
        → Apart (place f) (place g)
    go true e k =
        absurd (other (sym (back f) ∙ ap (λ i. get_or fields i f) (eqb-true (number f) (number g) e)
        ∙ get_or_default fields (number g) f g (within g) ∙ back g))
    go false e k = are-apart (place f) (place g) (unshared (share f g) (apart (place f) (place g)) k none)

abbrev pro-number : ProField → ℕ
pro-number pro.Payload = 0
pro-number pro.Emphasis = 1
pro-number pro.Unlocked = 2
pro-number pro.Rate = 3
pro-number pro.Mode = 4
pro-number pro.User = 5
pro-number pro.Aux = 6
pro-number pro.Word = 7
pro-number pro.B2high = 8
pro-number pro.B3 = 9
pro-number pro.B4 = 10
pro-number pro.B5 = 11
pro-number pro.Unreliable = 12
pro-number pro.B22low = 13
pro-number pro.Frequency = 14

pro-within : (f : ProField) → pro-number f < length pro_fields
pro-within pro.Payload = omega arith
pro-within pro.Emphasis = omega arith
pro-within pro.Unlocked = omega arith
pro-within pro.Rate = omega arith
pro-within pro.Mode = omega arith
pro-within pro.User = omega arith
pro-within pro.Aux = omega arith
pro-within pro.Word = omega arith
pro-within pro.B2high = omega arith
pro-within pro.B3 = omega arith
pro-within pro.B4 = omega arith
pro-within pro.B5 = omega arith
pro-within pro.Unreliable = omega arith
pro-within pro.B22low = omega arith
pro-within pro.Frequency = omega arith

pro-back : (f : ProField) → get_or pro_fields (pro-number f) f ≡ f
pro-back pro.Payload = refl
pro-back pro.Emphasis = refl
pro-back pro.Unlocked = refl
pro-back pro.Rate = refl
pro-back pro.Mode = refl
pro-back pro.User = refl
pro-back pro.Aux = refl
pro-back pro.Word = refl
pro-back pro.B2high = refl
pro-back pro.B3 = refl
pro-back pro.B4 = refl
pro-back pro.B5 = refl
pro-back pro.Unreliable = refl
pro-back pro.B22low = refl
pro-back pro.Frequency = refl

pro-apart : (f g : ProField) → f ≢ g → pro_share f g ≡ false → Apart (pro_place f) (pro_place g)
pro-apart = pair-apart pro-number pro_place pro_share pro_fields pro-within pro-back refl

abbrev con-number : ConField → ℕ
con-number con.Payload = 0
con-number con.Copyright = 1
con-number con.Emphasis = 2
con-number con.Mode = 3
con-number con.Category = 4
con-number con.Generation = 5
con-number con.Source = 6
con-number con.Number = 7
con-number con.Rate = 8
con-number con.Accuracy = 9
con-number con.B3high = 10
con-number con.Greatest = 11
con-number con.Word = 12
con-number con.Original = 13

con-within : (f : ConField) → con-number f < length con_fields
con-within con.Payload = omega arith
con-within con.Copyright = omega arith
con-within con.Emphasis = omega arith
con-within con.Mode = omega arith
con-within con.Category = omega arith
con-within con.Generation = omega arith
con-within con.Source = omega arith
con-within con.Number = omega arith
con-within con.Rate = omega arith
con-within con.Accuracy = omega arith
con-within con.B3high = omega arith
con-within con.Greatest = omega arith
con-within con.Word = omega arith
con-within con.Original = omega arith

con-back : (f : ConField) → get_or con_fields (con-number f) f ≡ f
con-back con.Payload = refl
con-back con.Copyright = refl
con-back con.Emphasis = refl
con-back con.Mode = refl
con-back con.Category = refl
con-back con.Generation = refl
con-back con.Source = refl
con-back con.Number = refl
con-back con.Rate = refl
con-back con.Accuracy = refl
con-back con.B3high = refl
con-back con.Greatest = refl
con-back con.Word = refl
con-back con.Original = refl

con-apart : (f g : ConField) → f ≢ g → Apart (con_place f) (con_place g)
con-apart f g other = pair-apart con-number con_place (λ x y. false) con_fields con-within con-back refl f g other refl

-- ---- what a setting leaves
stays-apart : (f g : Field) (code : ℕ) (bytes : List ℕ) → length bytes ≡ 24 → Apart (place_of g) (place_of f)
    → number_at (place_of g) (with_field (place_of f) code bytes) ≡ number_at (place_of g) bytes
stays-apart f g code bytes e (inl h) =
    others-stay (place_of f) code bytes (place_of g).byte (place_of g).first (place_of g).count (field-is f) e (inl h)
stays-apart f g code bytes e (inr h) =
    others-stay (place_of f) code bytes (place_of g).byte (place_of g).first (place_of g).count (field-is f) e (inr h)

same-use : (f g : Field) (code : ℕ) (bytes : List ℕ) → length bytes ≡ 24 → is_for f bytes ≡ true
    → is_for g bytes ≡ true → g ≢ f → share_bits g f ≡ false
    → number_at (place_of g) (with_field (place_of f) code bytes) ≡ number_at (place_of g) bytes
same-use Use g code bytes e h k other none = stays-apart Use g code bytes e (inr (behind-use g other))
same-use (Professional f) Use code bytes e h k other none =
    stays-apart (Professional f) Use code bytes e (inl (behind-use (Professional f) (λ s. cc)))
same-use (Consumer f) Use code bytes e h k other none =
    stays-apart (Consumer f) Use code bytes e (inl (behind-use (Consumer f) (λ s. cc)))
same-use (Professional f) (Professional g) code bytes e h k other none =
    stays-apart (Professional f) (Professional g) code bytes e (pro-apart g f (λ s. other (ap Professional s)) none)
same-use (Consumer f) (Consumer g) code bytes e h k other none =
    stays-apart (Consumer f) (Consumer g) code bytes e (con-apart g f (λ s. other (ap Consumer s)))
same-use (Professional f) (Consumer g) code bytes e h k other none = absurd (two-uses (is_professional bytes) h k)
  where
    two-uses : (b : Bool) → b ≡ true → not b ≡ true → ⊥
    two-uses true h k = cc
    two-uses false h k = cc
same-use (Consumer f) (Professional g) code bytes e h k other none = absurd (two-uses (is_professional bytes) h k)
  where
    two-uses : (b : Bool) → not b ≡ true → b ≡ true → ⊥
    two-uses true h k = cc
    two-uses false h k = cc

code-stays-beside : (f g : Field) (b : Bool) (o : Option ℕ) (bytes : List ℕ) → length bytes ≡ 24 → is_for f bytes ≡ b
    → is_for g bytes ≡ true → g ≢ f → share_bits g f ≡ false
    → number_at (place_of g) (with_code (place_of f) (cond b o None) bytes) ≡ number_at (place_of g) bytes
code-stays-beside f g false o bytes e h k other none = refl
code-stays-beside f g true None bytes e h k other none = refl
code-stays-beside f g true (Some code) bytes e h k other none = same-use f g code bytes e h k other none

pub other-codes-stay : OtherCodesStay
other-codes-stay setting f bytes e k other none =
    code-stays-beside setting.field f (is_for setting.field bytes)
    (get_or setting.codes (under setting.field bytes) None) bytes e refl k other none

-- ---- the field that tells what the codes of another mean is for the same use
told-use : (f : Field) (bytes : List ℕ) → IfSome (told_by f) (λ g. is_for g bytes ≡ is_for f bytes)
told-use Use bytes = tt
told-use (Professional pro.Payload) bytes = tt
told-use (Professional pro.Emphasis) bytes = tt
told-use (Professional pro.Unlocked) bytes = tt
told-use (Professional pro.Rate) bytes = tt
told-use (Professional pro.Mode) bytes = tt
told-use (Professional pro.User) bytes = tt
told-use (Professional pro.Aux) bytes = tt
told-use (Professional pro.Word) bytes = refl
told-use (Professional pro.B2high) bytes = tt
told-use (Professional pro.B3) bytes = tt
told-use (Professional pro.B4) bytes = tt
told-use (Professional pro.B5) bytes = tt
told-use (Professional pro.Unreliable) bytes = tt
told-use (Professional pro.B22low) bytes = tt
told-use (Professional pro.Frequency) bytes = tt
told-use (Consumer con.Payload) bytes = tt
told-use (Consumer con.Copyright) bytes = tt
told-use (Consumer con.Emphasis) bytes = refl
told-use (Consumer con.Mode) bytes = tt
told-use (Consumer con.Category) bytes = tt
told-use (Consumer con.Generation) bytes = tt
told-use (Consumer con.Source) bytes = tt
told-use (Consumer con.Number) bytes = tt
told-use (Consumer con.Rate) bytes = tt
told-use (Consumer con.Accuracy) bytes = tt
told-use (Consumer con.B3high) bytes = tt
told-use (Consumer con.Greatest) bytes = tt
told-use (Consumer con.Word) bytes = refl
told-use (Consumer con.Original) bytes = tt

-- and has no bits in common with any other
aux-alone : (g : Field) → share_bits (Professional pro.Aux) g ≡ false
aux-alone Use = refl
aux-alone (Professional g) = refl
aux-alone (Consumer g) = refl

told-alone : (f g : Field) → IfSome (told_by f) (λ t. share_bits t g ≡ false)
told-alone Use g = tt
told-alone (Professional pro.Payload) g = tt
told-alone (Professional pro.Emphasis) g = tt
told-alone (Professional pro.Unlocked) g = tt
told-alone (Professional pro.Rate) g = tt
told-alone (Professional pro.Mode) g = tt
told-alone (Professional pro.User) g = tt
told-alone (Professional pro.Aux) g = tt
told-alone (Professional pro.Word) g = aux-alone g
told-alone (Professional pro.B2high) g = tt
told-alone (Professional pro.B3) g = tt
told-alone (Professional pro.B4) g = tt
told-alone (Professional pro.B5) g = tt
told-alone (Professional pro.Unreliable) g = tt
told-alone (Professional pro.B22low) g = tt
told-alone (Professional pro.Frequency) g = tt
told-alone (Consumer con.Payload) g = tt
told-alone (Consumer con.Copyright) g = tt
told-alone (Consumer con.Emphasis) g = refl
told-alone (Consumer con.Mode) g = tt
told-alone (Consumer con.Category) g = tt
told-alone (Consumer con.Generation) g = tt
told-alone (Consumer con.Source) g = tt
told-alone (Consumer con.Number) g = tt
told-alone (Consumer con.Rate) g = tt
told-alone (Consumer con.Accuracy) g = tt
told-alone (Consumer con.B3high) g = tt
told-alone (Consumer con.Greatest) g = tt
told-alone (Consumer con.Word) g = refl
told-alone (Consumer con.Original) g = tt

told-stays : (o : Option Field) (setting : Setting) (f : Field) (bytes : List ℕ) → length bytes ≡ 24
    → is_for f bytes ≡ true
    → IfSome o (λ g. is_for g bytes ≡ is_for f bytes) → IfSome o (λ g. share_bits g setting.field ≡ false)
    → o ≢ Some setting.field
    → option_map_or (λ g. number_at (place_of g) (set_by setting bytes)) o 0 ≡ option_map_or
    (λ g. number_at (place_of g) bytes) o 0
told-stays None setting f bytes e k u none other = refl
told-stays (Some g) setting f bytes e k u none other =
    other-codes-stay setting g bytes e (u ∙ k) (λ s. other (ap Some s)) none

pub other-meanings-stay : OtherMeaningsStay
other-meanings-stay setting f bytes e k other =
    told-stays (told_by f) setting f bytes e k (told-use f bytes) (told-alone f setting.field) other
