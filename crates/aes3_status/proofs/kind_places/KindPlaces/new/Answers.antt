use Rattle.std.proofs.Common.{None, Option, ℕ, rules}
use Rattle.std.proofs.lemmas.List.{get_or-replicate}
use Rattle.aes3_status.proofs.kind_places.KindPlaces.new.Goals as goal

pub returns : goal.returns
returns c = λ kind l. search (rules, get_or-replicate {A = Option ℕ} 64 kind None None l)
