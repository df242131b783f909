use Rattle.aes3_status.proofs.SettingLines.{use-shown}
use Rattle.aes3_status.proofs.laws.use_is_shown.Goals as goal

pub returns : goal.returns
returns c = use-shown
