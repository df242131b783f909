-- Settings by the texts of their codes.
use Rattle.std.proofs.Common.{◌≡◌, ℕ, ◌+◌, ◌<◌, ◌≤◌, ◌⊎◌, inl, inr, Bool, true, false, cond, List, length, take, get_or}
use Rattle.std.proofs.Common.{Option, Some, None, refl, ap, ap₂, ◌∙◌, ◌++◌, ◌↔◌, sym, subst, arith}
use Rattle.std.specs.Prelude.{IfSome, IsTrue, codes, is_some}
use Rattle.std.proofs.Math.Nat.{mod-eq_of_lt}
use Rattle.std.proofs.lemmas.Bool.{cases_lt, false≢true}
use Rattle.std.proofs.lemmas.List.{get_or-take, get_or_default, length-take-le}
use Rattle.aes3_status.specs.declared.field.Field.{Field}
use Rattle.aes3_status.specs.declared.setting.Setting.{Setting}
use Rattle.aes3_status.specs.declared.wide_field.WideField.{WideField}
use Rattle.aes3_status.specs.Bits.{number_at}
use Rattle.aes3_status.specs.Settings.{is_for, place_of, set_by, under}
use Rattle.aes3_status.proofs.SettingLemmas.{meaning-stays, setting-back, under-few}
use Rattle.aes3_status.specs.Names.{name_text}
use Rattle.aes3_status.specs.NamedSettings.{code_text, shown_of, named_of, IsPrintedSo, IsCodeOf, IsSettingOf, IsNoSetting}
use Rattle.aes3_status.specs.NamedSettings.{IsShownThen, IsUnknown, consumer_fields, professional_fields}
use Rattle.aes3_status.specs.WideTexts.{wide_in}

-- one more field of which no code is printed so
pub more-none : (text : List ℕ) (fields : List Field) (i : ℕ) (d : Field) → i < length fields
    → IsNoSetting text (take i fields)
    → ((under code : ℕ) → under < 8 → ¬ IsCodeOf text (get_or fields i d) under code)
    → IsNoSetting text (take (i + 1) fields)
more-none text fields i d h before here f u k among l = go (split among.0 (omega (arith, among.1, long)))
  where
    long : length (take (i + 1) fields) ≡ i + 1
    long = length-take-le (i + 1) fields (omega arith)

    short : length (take i fields) ≡ i
    short = length-take-le i fields (omega arith)

    at : get_or fields among.0 f ≡ f
    at = sym (get_or-take (i + 1) fields among.0 f (omega (arith, among.1, long))) ∙ among.2

    split : (j : ℕ) → j < i + 1 → (j < i) ⊎ (j ≡ i)
    split j g = or-last (cases_lt j i)
      where
        or-last : (j < i) ⊎ (i ≤ j) → (j < i) ⊎ (j ≡ i)
        or-last (inl e) = inl e
        or-last (inr e) = inr (omega arith)

    go : (among.0 < i) ⊎ (among.0 ≡ i) → ¬ IsCodeOf text f u k
    go (inl e) = before f u k (among.0, omega (arith, short), get_or-take i fields among.0 f e ∙ at) l
    go (inr e) =
        let same : get_or fields i d ≡ f = get_or_default fields i d f h ∙ ap (λ j. get_or fields j f) (sym e) ∙ at in
        subst (λ (g : Field). ¬ IsCodeOf text g u k) same (here u k l)

-- a code that is given for a status
given : (b : Bool) (o : Option ℕ) (code : ℕ) → cond b o None ≡ Some code → o ≡ Some code
given true o code e = e
given false o code e = cc

-- how a code is printed that the line does not print so
pub printed-second : (text : List ℕ) (f : Field) (under code : ℕ) (b : Bool)
    → (code_text f under code ≡ codes " " ++ text → ⊥)
    → (IsTrue b → name_text f code ≡ codes " " ++ text) → (name_text f code ≡ codes " " ++ text → IsTrue b)
    → IsTrue b ↔ IsPrintedSo text f under code
unfolding IsPrintedSo
printed-second text f under code b not_shown named back = (λ h. inr (named h), one)
  where
    one : (code_text f under code ≡ codes " " ++ text) ⊎ (name_text f code ≡ codes " " ++ text) → IsTrue b
    one (inl e) = absurd (not_shown e)
    one (inr e) = back e

shown-then : (text : List ℕ) (fields : List Field) (setting : Setting) → IsSettingOf text fields setting
    → IsShownThen text setting
unfolding IsPrintedSo
shown-then text fields setting is bytes code e h = go printed.1
  where
    f : Field
    f = setting.field

    after : List ℕ
    after = set_by setting bytes

    printed : IsCodeOf text f (under f bytes) code
    printed = is.is (under f bytes) code (under-few f bytes) (given (is_for f bytes)
        (get_or setting.codes (under f bytes) None) code h)

    back : number_at (place_of f) after ≡ code
    back = setting-back setting bytes code e h ∙ mod-eq_of_lt printed.0

    go : (code_text f (under f bytes) code ≡ codes " " ++ text) ⊎ (name_text f code ≡ codes " " ++ text)
        → (shown_of f after ≡ codes " " ++ text) ⊎ (named_of f after ≡ codes " " ++ text)
    go (inl p) = inl (ap₂ (code_text f) (meaning-stays setting bytes e).1 back ∙ p)
    go (inr p) = inr (ap (name_text f) back ∙ p)

pub all-shown : (text : List ℕ) (fields : List Field) (o : Option Setting) → IfSome o (IsSettingOf text fields)
    → IfSome o (IsShownThen text)
all-shown text fields None h = h
all-shown text fields (Some setting) h = shown-then text fields setting h

-- a text of a setting is known
is-known : (text : List ℕ) (fields : List Field) (setting : Setting) → IsSettingOf text fields setting
    → ¬ IsNoSetting text fields
is-known text fields setting is none = go (get_or setting.codes is.some.0 None) refl
  where
    go : (o : Option ℕ) → get_or setting.codes is.some.0 None ≡ o → ⊥
    go None e = is.some.2 e
    go (Some code) e = none setting.field is.some.0 code is.field is.some.1 (is.is is.some.0 code is.some.1 e)

none-found : (text : List ℕ) (fields : List Field) (o : Option Setting) → IfSome o (IsSettingOf text fields)
    → IsNoSetting text fields → is_some o ≡ false
none-found text fields None found none = refl
none-found text fields (Some setting) found none = absurd (is-known text fields setting found none)

-- a text that sets something is known
pub known-by : (text : List ℕ) (professional consumer : Option Setting) (wide : Option (WideField × List ℕ))
    → IfSome professional (IsSettingOf text professional_fields)
    → IfSome consumer (IsSettingOf text consumer_fields) → wide ≡ wide_in text
    → (is_some professional ≡ true) ⊎ (is_some consumer ≡ true) ⊎ (is_some wide ≡ true) → ¬ IsUnknown text
known-by text professional consumer wide found also is (inl some) unknown =
    false≢true (sym (none-found text professional_fields professional found unknown.0) ∙ some)
known-by text professional consumer wide found also is (inr (inl some)) unknown =
    false≢true (sym (none-found text consumer_fields consumer also unknown.1) ∙ some)
known-by text professional consumer wide found also is (inr (inr some)) unknown =
    false≢true (sym (ap is_some (is ∙ unknown.2)) ∙ some)
