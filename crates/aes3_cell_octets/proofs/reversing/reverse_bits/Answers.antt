use Rattle.std.proofs.Common.{◌*◌, ◌+◌, ◌-◌, ◌/◌, ◌≡◌, ◌∙◌, ◌++◌, take, drop, length, map, ap, arith}
use Rattle.std.proofs.lemmas.List.{length-drop, take_all}
use Rattle.aes3_cell_octets.specs.Octets.{reversed}
use Rattle.aes3_cell_octets.proofs.ReversedOctets.{more-reversed, rest-reversed}
use Rattle.aes3_cell_octets.proofs.reversing.reverse_bits.Goals as goal

pub loop-i-preserved : goal.loop-i-preserved
loop-i-preserved c =
    let i = c.loop-i.i in
    let xs = c.args.octets.now in
    let within = c.loop-i-test.true in
    let size : 8 * i + 8 - 8 * i ≡ 8 = omega arith in
    let next : 8 * i + 8 ≡ 8 * (i + 1) = omega arith in
    more-reversed (8 * i) 8 (8 * i + 8 - 8 * i) xs c.loop-i.octets c.reverse_few.new.octets c.loop-i.invariant
    (omega (arith, within)) size
    (c.reverse_few.ensures ∙ ap (λ n. map reversed (take n (drop (8 * i) c.loop-i.octets))) size)
    ∙ ap (λ n. map reversed (take n xs) ++ drop n xs) next

pub returns : goal.returns
returns c =
    let xs = c.args.octets.now in
    let now = c.loop-i.octets in
    let len = c.loop-i.auto.octets in
    let last = c.loop-i-test.false in
    let end = c.loop-i.auto.i-end in
    let n = 8 * (length xs / 8) in
    let i : 8 * c.loop-i.i ≡ n = omega (arith, last, end) in
    let size = length-drop n now in
    rest-reversed n (length now - n) xs now c.reverse_few-2.new.octets
    (c.loop-i.invariant ∙ ap (λ k. map reversed (take k xs) ++ drop k xs) i) (omega arith) (omega (arith, len))
    (c.reverse_few-2.ensures ∙ ap (map reversed) (take_all (length now - n) (drop n now) (omega (arith, size))))
