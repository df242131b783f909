use Rattle.std.proofs.Common.{map}
use Rattle.aes3_status.proofs.SettingLists.{SetUpTo}
use Rattle.aes3_status.proofs.listed_settings.settings_of_texts.Given as goal

abbrev pub invariant-loop-at : goal.invariant-loop-at
invariant-loop-at l = SetUpTo (map (λ text. text.now) l.texts) l.at l.settings
