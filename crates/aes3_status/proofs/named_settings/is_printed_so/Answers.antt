use Rattle.std.proofs.Common.{◌∙◌, ◌++◌, inl, ap, sym, refl}
use Rattle.aes3_status.specs.NamedSettings.{IsPrintedSo, code_text}
use Rattle.aes3_status.specs.Names.{name_text}
use Rattle.aes3_status.proofs.SettingTexts.{printed-second}
use Rattle.aes3_status.proofs.named_settings.is_printed_so.Goals as goal

pub returns-then-is_spaced : goal.returns-then-is_spaced
unfolding IsPrintedSo
returns-then-is_spaced c =
    let shown = c.put_code.ensures.code
    ∙ ap (λ l. l ++ code_text c.args.field c.args.under c.args.code) c.new-line.ensures in
    (λ h. inl (sym shown ∙ c.if-is_spaced.ensures.0 h), λ h. refl)

pub returns : goal.returns
returns c =
    let shown = c.put_code.ensures.code
    ∙ ap (λ l. l ++ code_text c.args.field c.args.under c.args.code) c.new-line.ensures in
    let named = c.put_name.ensures.name ∙ ap (λ l. l ++ name_text c.args.field c.args.code) c.clear.ensures in
    printed-second c.args.text.now c.args.field c.args.under c.args.code c.is_spaced-2.result
    (λ e. let h = c.is_spaced.ensures.1 (shown ∙ e) in let k = c.if-is_spaced.false in cc)
    (λ h. sym named ∙ c.is_spaced-2.ensures.0 h) (λ e. c.is_spaced-2.ensures.1 (named ∙ e))
