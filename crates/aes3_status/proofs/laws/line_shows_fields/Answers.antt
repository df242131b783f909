use Rattle.aes3_status.proofs.SettingLines.{line-shows}
use Rattle.aes3_status.proofs.laws.line_shows_fields.Goals as goal

pub returns : goal.returns
returns c = line-shows
