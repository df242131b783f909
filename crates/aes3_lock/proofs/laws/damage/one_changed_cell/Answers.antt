use Rattle.aes3_lock.proofs.TwoChanges.{blocks-one-changed}
use Rattle.aes3_lock.proofs.DamageLaws.{change-reported, change-unreported}
use Rattle.aes3_lock.proofs.laws.damage.one_changed_cell.Goals as goal

pub returns : goal.returns
returns c = record {
  blocks = blocks-one-changed;
  reported = change-reported;
  unreported = change-unreported;
}
