use Rattle.std.proofs.Common.{◌≡◌, ℕ, ◌+◌, ◌*◌, ◌/◌, ◌%◌, ◌≤◌, [], List, length, arith, ap, rules, ◌∙◌}
use Rattle.std.specs.List.{between}
use Rattle.std.proofs.lemmas.Slice.{between_to_end}
use Rattle.aes3_level.specs.Words.{cells_in}
use Rattle.aes3_level.proofs.CellsIn.{words-behind}
use Rattle.aes3_slot.specs.ReadWords.{read_words}
use Rattle.aes3_c.specs.States.{state_of}
use Rattle.aes3_c.proofs.ReportedCells.{front-reported, none-reported}
use Rattle.aes3_c.proofs.word_calls.aes3_lock_take_cells.Goals as goal

-- the cells of all words, by those of the words from the first cell's on
there : (words : List ℕ) (first n : ℕ) → first / 64 ≤ length words
    → cells_in (between (first / 64) (length words) words) (first % 64) n ≡ cells_in words first n
there words first n h =
    ap (λ o. cells_in o (first % 64) n) (between_to_end words (first / 64) (length words) (omega arith))
    ∙ words-behind words (first / 64) (first % 64) n h
    ∙ ap (λ i. cells_in words i n) (let e : 64 * (first / 64) + first % 64 ≡ first = omega arith in e)

pub returns-then-len-eq0 : goal.returns-then-len-eq0
returns-then-len-eq0 c =
    none-reported (state_of c.args.lock.now) _ _ (search rules)
    (omega (arith, c.most_cells-len.ensures, c.if-len-eq0.true)) (c.put_ending.ensures.codes [])

pub returns : goal.returns
returns c =
    let slots = read_words c.take_cells-taken.new.lock.words in
    front-reported (state_of c.args.lock.now) (state_of c.take_cells-taken.new.lock) _ _ _ _ c.take_cells-taken.result
    (search rules) (search (rules, c.put_ending-2.ensures.codes slots))
    (search (rules, c.put_ending-2.ensures.told slots)) c.take_cells-taken.ensures
    (omega (arith, c.most_cells-len.ensures))
    (λ n. there c.args.words.now c.args.first n (omega (arith, c.most_cells-len.ensures, c.if-len-eq0.false)))
