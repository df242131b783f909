use Rattle.std.proofs.Common.{◌∙◌}
use Rattle.aes3_status.proofs.FirstPlaces.{of-refusing}
use Rattle.aes3_status.proofs.kind_places.KindPlaces.first_refusing.Goals as goal

pub returns : goal.returns
returns c = λ met r long h.
    c.first_of.ensures met r h
    ∙ of-refusing c.args.settings.now c.refusing_kinds.result met c.refusing_kinds.ensures long
