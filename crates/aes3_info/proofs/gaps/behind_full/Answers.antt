use Rattle.std.proofs.Common.{refl}
use Rattle.aes3_info.proofs.CountedGaps.{place-is}
use Rattle.aes3_info.proofs.gaps.behind_full.Goals as goal

pub returns : goal.returns
returns c = place-is c.args.from c.args.to c.saturating_sub.result _ c.saturating_sub.ensures refl
