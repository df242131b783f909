use Rattle.std.proofs.Common.{◌≡◌}
use Rattle.std.specs.List.{list_all, range_with_len}
use Rattle.aes3_status.specs.TakingAll.{text_taken}
use Rattle.aes3_status.proofs.taking_all.are_texts_taken.Given as goal

abbrev pub invariant-loop-text : goal.invariant-loop-text
invariant-loop-text l = l.all ≡ list_all (text_taken l.settings l.taken) (range_with_len 0 l.text)
