use Rattle.aes3_status.proofs.SettingsApart.{other-codes-stay, other-meanings-stay}
use Rattle.aes3_status.proofs.laws.fields_are_apart.Goals as goal

pub returns : goal.returns
returns c = record { codes = other-codes-stay; meanings = other-meanings-stay }
