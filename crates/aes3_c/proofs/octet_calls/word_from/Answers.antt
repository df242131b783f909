use Rattle.std.proofs.Common.{◌≡◌, [], ◌∷◌, ◌+◌, ◌*◌, ◌/◌, ◌%◌, length, take, drop, arith, ap, ◌∙◌}
use Rattle.std.specs.List.{between}
use Rattle.std.proofs.lemmas.List.{drop-take, length-drop, length-take-le}
use Rattle.std.proofs.lemmas.Slice.{between_is}
use Rattle.aes3_c.specs.Octets.{cells_from}
use Rattle.aes3_c.proofs.OctetCells.{cells-of-word, put-front}
use Rattle.aes3_c.proofs.octet_calls.word_from.Goals as goal

pub returns : goal.returns
returns c = λ n few within.
    let octets = c.args.octets.now in
    let k = c.args.at / 8 in
    let m = c.min-count.result in
    let count = c.min-count.ensures in
    let front : between k (k + m) octets ≡ take m (drop k octets)
    = between_is octets k (k + m) ∙ drop-take k m octets in
    let ys = c.copy_from_slice.ensures.after ∙ front in
    let d = length-drop k octets in
    let len = ap length ys ∙ length-take-le m (drop k octets) (omega (arith, d, count)) in
    cells-of-word octets _ _ k (c.args.at % 8) m n c.word_of_octets.ensures
    (put-front m m (0 ∷ 0 ∷ 0 ∷ 0 ∷ 0 ∷ 0 ∷ 0 ∷ 0 ∷ []) c.copy_from_slice.new.self (omega (arith, len)) ∙ ys)
    (omega (arith, count)) (omega (arith, count)) (omega (arith, count))
    ∙ ap (λ i. cells_from octets i n) (let e : 8 * k + c.args.at % 8 ≡ c.args.at = omega arith in e)
