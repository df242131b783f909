use Rattle.std.proofs.lemmas.Option.{IfSome_then}
use Rattle.aes3_capture_places.proofs.Marking.{place-of}
use Rattle.aes3_capture_places.proofs.places.Places.sample_of.Goals as goal

pub returns-clause-place : goal.returns-clause-place
returns-clause-place c = λ known levels placed.
    IfSome_then c.sample_of.result c.sample_of.ensures.place
    (place-of known levels c.args.self.now.marks.kept c.args.cell placed.marks)
