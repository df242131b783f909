use Rattle.std.proofs.Common.{◌∙◌, replicate, arith}
use Rattle.std.proofs.lemmas.Slice.{take-put_mid}
use borrow.Rule.Slice.PartMut.{put_mid}
use Rattle.aes3_cell.proofs.EightWords.{first-word}
use Rattle.aes3_cell.proofs.word.word_of_octets.Goals as goal

pub returns : goal.returns
returns c =
    let ys = c.copy_from_slice.new.self in
    let size = c.copy_from_slice.ensures.len in
    let len = c.eight_words.ensures.len in
    first-word c.eight_words.result (put_mid 0 8 (replicate 64 0) ys) c.args.octets.now c.eight_words.ensures.cells
    (take-put_mid 0 8 (replicate 64 0) ys 8 (omega (arith, size)) (omega arith) ∙ c.copy_from_slice.ensures.after)
    c.told-octets (omega (arith, len))
