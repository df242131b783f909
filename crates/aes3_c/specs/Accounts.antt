-- What C keeps of an account and is told of a gap.
use Rattle.std.specs.Prelude.{not, ◌==◌}
use Rattle.aes3_lock_gaps.specs.declared.account.Account.{Account}
use Rattle.aes3_lock_gaps.specs.Gaps.{Entry, kind}
use Rattle.aes3_c.specs.declared.gap_calls.Aes3Account.{Aes3Account}
use Rattle.aes3_c.specs.declared.gap_calls.Aes3Gap.{Aes3Gap}

-- the account that these numbers keep
abbrev pub account_in : Aes3Account → Account
account_in k = record { place = k.place; found = not (k.found == 0) }

-- the gap that these numbers tell
abbrev pub gap_in : Aes3Gap → Entry
gap_in g = kind (not (g.counts == 0)) g.at g.cells
