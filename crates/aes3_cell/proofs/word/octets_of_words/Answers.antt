use Rattle.std.proofs.Common.{replicate, refl}
use Rattle.aes3_cell.proofs.EightWords.{sixteen-put}
use Rattle.aes3_cell.proofs.word.octets_of_words.Goals as goal

pub returns : goal.returns
returns c =
    let f = c.octets_of_eight-front in
    let b = c.octets_of_eight-back in
    sixteen-put c.args.words.now (replicate 128 0)
    f.result b.result c.told-words refl f.ensures.len b.ensures.len f.ensures.octets b.ensures.octets
