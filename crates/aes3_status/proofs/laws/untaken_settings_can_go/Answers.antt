use Rattle.aes3_status.proofs.UntakenSettings.{untaken-go}
use Rattle.aes3_status.proofs.laws.untaken_settings_can_go.Goals as goal

pub returns : goal.returns
returns c = untaken-go
