use Rattle.std.proofs.Common.{arith, w64}
use Rattle.std.proofs.lemmas.Nat.Bits.{bit_at-trailing_zeros}
use Rattle.aes3_lock.proofs.word_marks.first_of_places.Goals as goal

pub returns : goal.returns
returns c =
    let z = bit_at-trailing_zeros w64 c.args.places c.requires (omega arith) in
    record { within = z.0; is = z.1; first = z.2 }
