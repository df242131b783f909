use Rattle.std.proofs.Common.{◌≡◌, ◌++◌, ◌∷◌, [], length, set, arith, sym, ap, ◌∙◌}
use Rattle.std.specs.Simd.Lanes.{put_chunk}
use Rattle.std.proofs.lemmas.List.{length-map}
use Rattle.aes3_cell.specs.Text.{byte_of}
use Rattle.aes3_level.specs.Words.{word_cells}
use Rattle.aes3_level.proofs.WordCells.{word_len_64}
use Rattle.aes3_cell.proofs.ManyWords.{put-behind}
use Rattle.aes3_level.proofs.WordCells.{length-word_cells}
use Rattle.aes3_cell.proofs.word.put_line.Goals as goal

pub returns : goal.returns
returns c =
    let ys = c.characters.result in
    let n : length ys ≡ 64 = ap length c.characters.ensures ∙ length-map (word_cells c.args.word) byte_of
    ∙ length-word_cells c.args.word ∙ word_len_64 in
    ap (λ k. set (put_chunk 0 c.args.line.now ys) k 10) (sym n)
    ∙ put-behind c.args.line.now ys 10 (let l = c.requires in omega (arith, l, n))
    ∙ ap (λ l. l ++ 10 ∷ []) c.characters.ensures
