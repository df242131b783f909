use Rattle.aes3_status.specs.NamedSettings.{professional_fields}
use Rattle.aes3_status.proofs.SettingTexts.{all-shown}
use Rattle.aes3_status.proofs.named_settings.professional_setting.Goals as goal

pub returns-clause-shown : goal.returns-clause-shown
returns-clause-shown c = all-shown c.args.text.now professional_fields c.setting_in.result c.setting_in.ensures.some
