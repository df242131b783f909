use Rattle.std.proofs.Common.{◌≡◌, ℕ, ◌+◌, ◌*◌, ◌/◌, ◌%◌, ◌<◌, ◌≤◌, [], ◌∷◌, List, length, take, drop, arith, ap, ◌∙◌}
use Rattle.std.specs.List.{between, flat_map}
use Rattle.std.proofs.lemmas.List.{drop-take, length-drop, length-take-le}
use Rattle.std.proofs.lemmas.Slice.{between_is}
use Rattle.aes3_level.specs.Words.{word_cells}
use Rattle.aes3_level.proofs.CellsIn.{front-from}
use Rattle.aes3_cell.specs.Packed.{cells_of_octets}
use Rattle.aes3_c.proofs.TakenFronts.{took-same}
use Rattle.aes3_c.specs.Octets.{cells_from}
use Rattle.aes3_c.proofs.OctetCells.{cells-of-front}
use Rattle.aes3_c.proofs.octet_calls.take_some.Goals as goal

-- the first cells of some octets are those from their place on
here : (octets : List ℕ) (at m n : ℕ) → at % 8 ≡ 0 → at / 8 + m ≤ length octets → n ≤ 8 * m
    → take n (cells_of_octets (between (at / 8) (at / 8 + m) octets)) ≡ cells_from octets at n
here octets at m n e h l =
    ap (λ o. take n (cells_of_octets o)) (between_is octets (at / 8) (at / 8 + m) ∙ drop-take (at / 8) m octets)
    ∙ cells-of-front octets (at / 8) m n h l
    ∙ ap (λ i. cells_from octets i n) (let p : 8 * (at / 8) ≡ at = omega arith in p)

len-here : (octets : List ℕ) (i m : ℕ) → i + m ≤ length octets → length (between i (i + m) octets) ≡ m
len-here octets i m h =
    let d = length-drop i octets in
    ap length (between_is octets i (i + m) ∙ drop-take i m octets) ∙ length-take-le m (drop i octets) (omega (arith, d))

pub returns-then-len-ge64-clause-some : goal.returns-then-len-ge64-clause-some
returns-then-len-ge64-clause-some c =
    let count = c.min-count.ensures in
    let n = len-here c.args.octets.now (c.args.at / 8) (8 * c.min-count.result) (omega (arith, count)) in
    c.take_words_of.ensures.some (omega (arith, count, n))

pub returns-then-len-ge64-clause-within : goal.returns-then-len-ge64-clause-within
returns-then-len-ge64-clause-within c =
    let count = c.min-count.ensures in
    let w = c.take_words_of.ensures.within in
    let n = len-here c.args.octets.now (c.args.at / 8) (8 * c.min-count.result) (omega (arith, count)) in
    omega (arith, count, w, n)

pub returns-then-len-ge64-clause-took : goal.returns-then-len-ge64-clause-took
returns-then-len-ge64-clause-took c =
    let octets = c.args.octets.now in
    let count = c.min-count.ensures in
    let m = 8 * c.min-count.result in
    let len = len-here octets (c.args.at / 8) m (omega (arith, count)) in
    took-same c.args.state.now c.take_words_of.new.state _ (drop c.args.at (cells_of_octets octets)) _
    c.take_words_of.result c.take_words_of.ensures
    (λ n few. here octets c.args.at m n c.if-at-eq0.true (omega (arith, count)) (omega (arith, few, len)))

pub returns-clause-some : goal.returns-clause-some
returns-clause-some c =
    let most = c.min-most.ensures in
    c.take_first.ensures.some (omega (arith, most))

pub returns-clause-within : goal.returns-clause-within
returns-clause-within c =
    let most = c.min-most.ensures in
    let w = c.take_first.ensures.within in
    omega (arith, most, w)

pub returns-clause-took : goal.returns-clause-took
returns-clause-took c =
    let most = c.min-most.ensures in
    let w = c.word_from.result in
    took-same c.args.state.now c.take_first.new.state (flat_map word_cells (w ∷ []))
    (drop c.args.at (cells_of_octets c.args.octets.now)) c.min-most.result c.take_first.result c.take_first.ensures
    (λ n few. front-from (w ∷ []) 0 n (let h : 0 < 1 = omega arith in h) (omega (arith, most, few))
    ∙ c.word_from.ensures n (omega (arith, most, few)) (omega (arith, most, few)))
