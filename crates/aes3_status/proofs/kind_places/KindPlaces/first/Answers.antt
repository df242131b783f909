use Rattle.std.proofs.Common.{◌∙◌, rules}
use Rattle.aes3_status.proofs.FirstPlaces.{of-all}
use Rattle.aes3_status.proofs.kind_places.KindPlaces.first.Goals as goal

pub returns : goal.returns
returns c = λ met r h. c.first_of.ensures met r h ∙ search (rules, of-all met)
