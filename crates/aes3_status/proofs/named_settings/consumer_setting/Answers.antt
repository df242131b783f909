use Rattle.aes3_status.specs.NamedSettings.{consumer_fields}
use Rattle.aes3_status.proofs.SettingTexts.{all-shown}
use Rattle.aes3_status.proofs.named_settings.consumer_setting.Goals as goal

pub returns-clause-shown : goal.returns-clause-shown
returns-clause-shown c = all-shown c.args.text.now consumer_fields c.setting_in.result c.setting_in.ensures.some
