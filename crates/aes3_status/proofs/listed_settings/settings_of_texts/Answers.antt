use Rattle.std.proofs.Common.{◌≡◌, ℕ, List, [], length, map, Bor, ◌∙◌, ap, arith, sym, subst, rules}
use Rattle.std.proofs.Math.ListN.{get_or-map}
use Rattle.std.proofs.lemmas.List.{length-map}
use Rattle.aes3_status.specs.NamedSettings.{IsSetBy, IsUnknown, consumer_fields, professional_fields}
use Rattle.aes3_status.specs.WideTexts.{wide_in, with_wide}
use Rattle.aes3_status.proofs.SettingLists.{none-set, one-more, all-set}
use Rattle.aes3_status.proofs.listed_settings.settings_of_texts.Goals as goal

pub loop-at-init : goal.loop-at-init
loop-at-init c = none-set (map (λ text. text.now) c.args.texts.now)

pub loop-at-preserved : goal.loop-at-preserved
loop-at-preserved c =
    let texts : List (List ℕ) = map (λ text. text.now) c.args.texts.now in
    let len : length texts ≡ length c.args.texts.now =
    length-map c.args.texts.now (λ (text : Bor (List ℕ)). text.now) in
    let at = sym
    (get_or-map (λ (text : Bor (List ℕ)). text.now) c.args.texts.now c.loop-at.at
    (record { ref_ptr = (0, 0); now = [] })) in
    search (
      rules,
      one-more texts c.loop-at.at c.loop-at.settings c.in-Some.pair.professional c.in-Some.pair.consumer
          c.take_wide.new.wide (omega (arith, len)) (omega (arith, len)) c.loop-at.invariant
          (subst (λ text. ¬ IsUnknown text) at c.in-Some.ensures.known)
          (subst (λ t. IsSetBy t professional_fields c.in-Some.pair.professional) at c.in-Some.ensures.professional)
          (subst (λ t. IsSetBy t consumer_fields c.in-Some.pair.consumer) at c.in-Some.ensures.consumer)
          (c.take_wide.ensures ∙ ap (λ o. with_wide o c.loop-at.settings.wide) (c.in-Some.ensures.wide ∙ ap wide_in at)),
    )

pub returns-clause-settings : goal.returns-clause-settings
returns-clause-settings c =
    let texts : List (List ℕ) = map (λ text. text.now) c.args.texts.now in
    let len : length texts ≡ length c.args.texts.now =
    length-map c.args.texts.now (λ (text : Bor (List ℕ)). text.now) in
    all-set texts c.loop-at.at c.loop-at.settings (omega (arith, len)) (omega (arith, len)) c.loop-at.invariant

pub returns-in_default-clause-fault : goal.returns-in_default-clause-fault
returns-in_default-clause-fault c =
    let texts : List (List ℕ) = map (λ text. text.now) c.args.texts.now in
    let len : length texts ≡ length c.args.texts.now =
    length-map c.args.texts.now (λ (text : Bor (List ℕ)). text.now) in
    let at = sym
    (get_or-map (λ (text : Bor (List ℕ)). text.now) c.args.texts.now c.loop-at.at
    (record { ref_ptr = (0, 0); now = [] })) in (
      omega (arith, len),
      subst IsUnknown at (c.pair_of.ensures.none c.in_default.is),
      λ k e. (c.loop-at.invariant.own k e).known,
    )
