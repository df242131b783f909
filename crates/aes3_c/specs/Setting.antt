-- A field of channel status that is set by its name.
use Rattle.std.specs.Prelude.{ℕ, List, [], ◌∷◌, ◌≡◌, false, true}
use Rattle.aes3_status.specs.Settings.{set_all}
use Rattle.aes3_status.specs.TakingAll.{takes_all}
use Rattle.aes3_status.specs.declared.setting.Settings.{Settings}
use Rattle.aes3_status.specs.NamedSettings.{AreSettingsOf}

-- a status took what the text sets
pub record WasSet (text old new : List ℕ) : Type 0 where
  pub settings : Settings
  pub of_text : AreSettingsOf (text ∷ []) settings
  pub takes : takes_all settings old ≡ true
  pub is : new ≡ set_all settings old

-- a status does not take what the text sets
pub record IsRefused (text status : List ℕ) : Type 0 where
  pub settings : Settings
  pub of_text : AreSettingsOf (text ∷ []) settings
  pub takes : takes_all settings status ≡ false
