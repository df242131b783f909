use Rattle.std.proofs.Common.{get_or, [], refl, ap, ◌∙◌, sym, arith, rules}
use Rattle.std.proofs.lemmas.List.Sums.{fold_more}
use Rattle.aes3_status.specs.declared.field.Field.TheVariants.{Use}
use Rattle.aes3_status.specs.declared.setting.Setting.{Setting}
use Rattle.aes3_status.specs.Settings.{set_in_turn, set_by}
use Rattle.aes3_status.proofs.setting.set_codes.Goals as goal

pub loop-setting-init : goal.loop-setting-init
unfolding set_in_turn
loop-setting-init c = refl

pub loop-setting-preserved : goal.loop-setting-preserved
unfolding set_in_turn
loop-setting-preserved c =
    let none : Setting = record { field = Use; codes = [] } in
    search (rules, c.set_field.ensures)
    ∙ ap (set_by (get_or c.args.settings.now c.loop-setting.setting-index none)) c.loop-setting.invariant
    ∙ sym (fold_more
    (λ status setting. set_by setting status) c.args.bytes.now c.args.settings.now c.loop-setting.setting-index
    none (omega arith))
