use Rattle.std.proofs.lemmas.List.{get_or-replicate}
use Rattle.aes3_capture_places.specs.Marks.{no_mark}
use Rattle.aes3_capture_places.proofs.marks.Marks.new.Goals as goal

pub returns : goal.returns
returns c = λ i few. get_or-replicate 4096 i no_mark no_mark few
