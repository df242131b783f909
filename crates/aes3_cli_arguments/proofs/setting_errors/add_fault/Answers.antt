use Rattle.std.proofs.Common.{◌∙◌, ◌++◌, Bor, List, ℕ, ap, map, sym}
use Rattle.std.proofs.lemmas.Result.{IfOk-weaker}
use Rattle.aes3_status.specs.declared.listed_settings.SettingsFault.{SettingsFault}
use Rattle.aes3_cli_arguments.specs.Jobs.{fault_text, invalid_text}
use Rattle.aes3_cli_arguments.proofs.setting_errors.add_fault.Goals as goal

pub returns-in-Unknown : goal.returns-in-Unknown
returns-in-Unknown c =
    let old = c.args.text.now.bytes.items in
    let texts = map (λ (text : Bor (List ℕ)). text.now) c.args.texts.now in
    IfOk-weaker c.add_invalid.result _ _
    (λ x h. h
    ∙ (ap (λ t. old ++ invalid_text c.args.name.now t) c.text_at.ensures
    ∙ ap (λ (f : SettingsFault). old ++ fault_text c.args.name.now texts f) (sym c.in-Unknown.is)))
    c.add_invalid.ensures

pub returns-in-TooMany : goal.returns-in-TooMany
returns-in-TooMany c =
    let old = c.args.text.now.bytes.items in
    let texts = map (λ (text : Bor (List ℕ)). text.now) c.args.texts.now in
    IfOk-weaker c.add_many.result _ _
    (λ x h. h ∙ ap (λ (f : SettingsFault). old ++ fault_text c.args.name.now texts f) (sym c.in-TooMany.is))
    c.add_many.ensures
