use Rattle.std.proofs.Common.{replicate, take, ap, ◌∙◌, arith}
use Rattle.std.specs.List.{range_with_len}
use Rattle.std.proofs.lemmas.Simd.{pick_l_left, pick_l-range_with_len}
use Rattle.aes3_cell.proofs.EightWords.{first-octets}
use Rattle.aes3_cell.proofs.word.octets_of_word.Goals as goal

pub returns : goal.returns
returns c =
    let o = c.octets_of_eight.result in
    let l = c.octets_of_eight.ensures.len in
    pick_l_left 0 o o 64 (range_with_len 0 8) l tt
    ∙ pick_l-range_with_len 0 o 0 8 (omega (arith, l))
    ∙ ap (take 8) c.octets_of_eight.ensures.octets ∙ first-octets c.args.word (replicate 7 c.args.word)
