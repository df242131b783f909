use Rattle.std.proofs.Common.{◌≡◌, ℕ, ◌+◌, ◌*◌, ◌/◌, ◌%◌, ◌≤◌, [], List, length, arith, ap, rules, ◌∙◌}
use Rattle.std.specs.List.{between}
use Rattle.std.proofs.lemmas.Slice.{between_to_end}
use Rattle.aes3_slot.specs.ReadWords.{read_words}
use Rattle.aes3_lock.specs.Following.{LockState}
use Rattle.aes3_c.specs.Octets.{cells_from}
use Rattle.aes3_c.specs.States.{state_of}
use Rattle.aes3_c.proofs.OctetCells.{cells-behind}
use Rattle.aes3_c.proofs.ReportedCells.{front-reported, kept-reported, none-reported}
use Rattle.aes3_c.proofs.octet_calls.aes3_lock_take_octets.Goals as goal

-- the cells of all octets, by those of the octets from the first cell's on
there : (octets : List ℕ) (first n : ℕ) → first / 8 ≤ length octets
    → cells_from (between (first / 8) (length octets) octets) (first % 8) n ≡ cells_from octets first n
there octets first n h =
    ap (λ o. cells_from o (first % 8) n) (between_to_end octets (first / 8) (length octets) (omega arith))
    ∙ cells-behind octets (first / 8) (first % 8) n h
    ∙ ap (λ i. cells_from octets i n) (let e : 8 * (first / 8) + first % 8 ≡ first = omega arith in e)

pub returns-then-len-eq0 : goal.returns-then-len-eq0
returns-then-len-eq0 c =
    none-reported (state_of c.args.lock.now) _ _ (search rules)
    (omega (arith, c.most_cells-len.ensures, c.if-len-eq0.true)) (c.put_ending.ensures.codes [])

pub returns : goal.returns
returns c =
    let slots = read_words c.take_cells-taken.new.state.words in
    let seen = ap (λ (k : LockState). k.seen) c.lock_of-state.ensures in
    kept-reported c.lock_of-state.ensures c.keep.ensures
    (front-reported c.lock_of-state.result c.take_cells-taken.new.state _ _ _ _ c.take_cells-taken.result (search rules)
    (search (rules, c.put_ending-2.ensures.codes slots)) (search (rules, c.put_ending-2.ensures.told slots))
    c.take_cells-taken.ensures (omega (arith, c.most_cells-len.ensures, seen))
    (λ n. there c.args.octets.now c.args.first n (omega (arith, c.most_cells-len.ensures, c.if-len-eq0.false))))
