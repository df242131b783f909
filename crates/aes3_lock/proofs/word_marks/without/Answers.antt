use Rattle.std.proofs.Common.{w64}
use Rattle.std.proofs.lemmas.Nat.Bits.{bit_at_clear_same, bit_at_clear_other}
use Rattle.aes3_lock.proofs.word_marks.without.Goals as goal

pub returns : goal.returns
returns c = record {
  gone = bit_at_clear_same w64 c.args.places c.args.place c.requires;
  others = λ k h e. bit_at_clear_other w64 c.args.places c.args.place c.requires k h e;
}
