use Rattle.std.proofs.Common.{◌∙◌, inl, inr, ap}
use Rattle.std.specs.Prelude.{not}
use Rattle.aes3_status.proofs.SettingTexts.{known-by}
use Rattle.aes3_status.proofs.listed_settings.pair_of.Goals as goal
use Rattle.aes3_status.proofs.listed_settings.pair_of.Goals.{else-is_none-via-then-is_none+then-is_none-2+else-is_none-3}
use Rattle.aes3_status.proofs.listed_settings.pair_of.Goals.{else-is_none-via-then-is_none+else-is_none-2}
use Rattle.aes3_status.proofs.listed_settings.pair_of.Goals.{else-is_none-via-else-is_none}

pub returns-clause-known : goal.returns-clause-known
returns-clause-known c =
    known-by c.args.text.now c.professional_setting-professional.result c.consumer_setting-consumer.result
    c.wide_of-wide.result c.professional_setting-professional.ensures.some c.consumer_setting-consumer.ensures.some
    c.wide_of-wide.ensures
    (elim c.else-is_none.branch [
      | else-is_none-via-then-is_none+then-is_none-2+else-is_none-3 w ↦
          inr (inr (w.is_none-then-is_none-2.ensures ∙ ap not w.if-is_none-3.false))
      | else-is_none-via-then-is_none+else-is_none-2 w ↦
          inr (inl (w.is_none-then-is_none.ensures ∙ ap not w.if-is_none-2.false))
      | else-is_none-via-else-is_none w ↦ inl (c.is_none.ensures ∙ ap not w.if-is_none.false)
    ])
