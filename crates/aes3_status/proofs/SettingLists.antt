-- The settings of several texts, as they are found one after the other.
use Rattle.std.proofs.Common.{◌≡◌, ◌≢◌, ◌∙◌, ℕ, ◌+◌, ◌*◌, ◌<◌, ◌≤◌, inl, inr, List, [], length, get_or, replicate, refl}
use Rattle.std.proofs.Common.{ap, sym, subst, take, arith}
use Rattle.std.proofs.Math.ListN.{set}
use Rattle.std.proofs.lemmas.Bool.{cases_lt}
use Rattle.std.proofs.lemmas.List.{get_or-set_same, get_or-set_other, get_or-replicate, length-set, get_or_past}
use Rattle.std.proofs.lemmas.List.{take_all}
use Rattle.std.proofs.lemmas.List.Sums.{fold_more}
use Rattle.aes3_status.specs.declared.setting.Setting.{Setting}
use Rattle.aes3_status.specs.declared.setting.Settings.{Settings}
use Rattle.aes3_status.specs.declared.wide_field.WideSettings.{WideSettings}
use Rattle.aes3_status.specs.NamedSettings.{AreSettingsOf, IsSetBy, IsUnknown, nothing, consumer_fields}
use Rattle.aes3_status.specs.NamedSettings.{professional_fields}
use Rattle.aes3_status.specs.WideTexts.{no_wide, wide_in, wide_of_texts, with_wide}

-- the codes that one text sets
pub record Own (texts : List (List ℕ)) (settings : List Setting) (k : ℕ) : Type 0 where
  pub known : ¬ IsUnknown (get_or texts k [])
  pub professional : IsSetBy (get_or texts k []) professional_fields (get_or settings (2 * k) nothing)
  pub consumer : IsSetBy (get_or texts k []) consumer_fields (get_or settings (2 * k + 1) nothing)

-- the settings of the first texts
pub record SetUpTo (texts : List (List ℕ)) (n : ℕ) (settings : Settings) : Type 0 where
  pub len : length settings.codes ≡ 64
  pub own : (k : ℕ) → k < n → Own texts settings.codes k
  pub rest : (k : ℕ) → 2 * n ≤ k → get_or settings.codes k nothing ≡ nothing
  pub wide : settings.wide ≡ wide_of_texts (take n texts)

no-text : (k : ℕ) → get_or (replicate 64 nothing) k nothing ≡ nothing
no-text k = elim (cases_lt k 64) [
  | inl e ↦ get_or-replicate 64 k nothing nothing e
  | inr e ↦ get_or_past (replicate 64 nothing) k nothing e
]

pub none-set : (texts : List (List ℕ)) → SetUpTo texts 0 (record { codes = replicate 64 nothing; wide = no_wide })
none-set texts = record { len = refl; own = λ k e. absurd (omega (arith, e)); rest = λ k e. no-text k; wide = refl }

pub one-more : (texts : List (List ℕ)) (n : ℕ) (settings : Settings) (professional consumer : Setting)
    (wide : WideSettings) → n < length texts → length texts ≤ 32 → SetUpTo texts n settings
    → ¬ IsUnknown (get_or texts n []) → IsSetBy (get_or texts n []) professional_fields professional
    → IsSetBy (get_or texts n []) consumer_fields consumer
    → wide ≡ with_wide (wide_in (get_or texts n [])) settings.wide
    → SetUpTo texts (n + 1)
    (record { codes = set (set settings.codes (2 * n) professional) (2 * n + 1) consumer; wide = wide })
one-more texts n settings professional consumer wide within few before known for_professional for_consumer taken =
    record {
      len = length-set first (2 * n + 1) consumer ∙ (length-set settings.codes (2 * n) professional ∙ before.len);
      own = own;
      rest = λ k e. kept k (λ h. omega (arith, h, e)) (λ h. omega (arith, h, e)) ∙ before.rest k (omega (arith, e));
      wide = taken ∙ ap (with_wide (wide_in (get_or texts n []))) before.wide
          ∙ sym (fold_more (λ old text. with_wide (wide_in text) old) no_wide texts n [] within);
    }
  where
    first : List Setting
    first = set settings.codes (2 * n) professional

    both : List Setting
    both = set first (2 * n + 1) consumer

    kept : (k : ℕ) → k ≢ 2 * n → k ≢ 2 * n + 1 → get_or both k nothing ≡ get_or settings.codes k nothing
    kept k not_first not_second = get_or-set_other first (2 * n + 1) k consumer nothing not_second
        ∙ get_or-set_other settings.codes (2 * n) k professional nothing not_first

    at_first : get_or both (2 * n) nothing ≡ professional
    at_first = get_or-set_other first (2 * n + 1) (2 * n) consumer nothing (λ e. omega (arith, e))
        ∙ get_or-set_same settings.codes (2 * n) professional nothing (omega (arith, before.len, within, few))

    at_second : get_or both (2 * n + 1) nothing ≡ consumer
    at_second = get_or-set_same first (2 * n + 1) consumer nothing
        (omega (arith, length-set settings.codes (2 * n) professional, before.len, within, few))

    here : Own texts both n
    here = record {
      known = known;
      professional = subst (IsSetBy (get_or texts n []) professional_fields) (sym at_first) for_professional;
      consumer = subst (IsSetBy (get_or texts n []) consumer_fields) (sym at_second) for_consumer;
    }

    old : (k : ℕ) → k < n → Own texts both k
    old k e =
        let o = before.own k e in
        record {
          known = o.known;
          professional = subst (IsSetBy (get_or texts k []) professional_fields)
              (sym (kept (2 * k) (λ h. omega (arith, h, e)) (λ h. omega (arith, h, e)))) o.professional;
          consumer = subst (IsSetBy (get_or texts k []) consumer_fields)
              (sym (kept (2 * k + 1) (λ h. omega (arith, h, e)) (λ h. omega (arith, h, e)))) o.consumer;
        }

    own : (k : ℕ) → k < n + 1 → Own texts both k
    own k e = elim (cases_lt k n) [
      | inl h ↦ old k h
      | inr h ↦ let same : n ≡ k = omega (arith, h, e) in subst (Own texts both) same here
    ]

pub all-set : (texts : List (List ℕ)) (n : ℕ) (settings : Settings) → length texts ≡ n → length texts ≤ 32
    → SetUpTo texts n settings → AreSettingsOf texts settings
all-set texts n settings all few set_up = record {
  few = few;
  known = λ k e. (set_up.own k (omega (arith, all, e))).known;
  professional = λ k e. (set_up.own k (omega (arith, all, e))).professional;
  consumer = λ k e. (set_up.own k (omega (arith, all, e))).consumer;
  rest = λ k e. set_up.rest k (omega (arith, all, e));
  wide = set_up.wide ∙ ap wide_of_texts (take_all n texts (omega (arith, all)));
}
