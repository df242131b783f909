use Rattle.aes3_status.proofs.SettingLemmas.{meaning-stays, setting-back, use-kept}
use Rattle.aes3_status.proofs.laws.settings_are_read_back.Goals as goal

pub returns : goal.returns
returns c = record { use_stays = use-kept; meaning = meaning-stays; code = setting-back }
