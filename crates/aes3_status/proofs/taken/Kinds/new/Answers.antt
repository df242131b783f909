use Rattle.std.proofs.Common.{false, rules}
use Rattle.std.proofs.lemmas.List.{get_or-replicate}
use Rattle.aes3_status.proofs.taken.Kinds.new.Goals as goal

pub returns : goal.returns
returns c = λ kind l. search (rules, get_or-replicate 64 kind false false l)
