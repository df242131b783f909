use Rattle.std.proofs.Common.{arith}
use Rattle.aes3_forms_words.proofs.word_octets.are_octets.Goals as goal

pub returns : goal.returns
returns c = λ i. omega (arith, c.type_inv.octets i)
