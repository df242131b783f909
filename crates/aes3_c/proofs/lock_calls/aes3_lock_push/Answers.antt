use Rattle.std.proofs.Common.{◌≡◌, ℕ, ◌-◌, ◌++◌, ◌<◌, ◌≤◌, [], ◌∷◌, List, append-nil, ap, sym, subst, ◌∙◌, arith}
use Rattle.std.specs.Prelude.{option_map, option_to_list}
use Rattle.aes3_level.specs.declared.level.Level.{Level}
use Rattle.aes3_level.specs.Words.{cells_in, low_cells}
use Rattle.aes3_level.proofs.CellsIn.{front-from}
use Rattle.aes3_lock.specs.Reports.{decided}
use Rattle.aes3_lock.specs.Following.{Follows}
use Rattle.aes3_c.specs.States.{state_of}
use Rattle.aes3_c.proofs.Told.{coded-none, none-block, told-none}
use Rattle.aes3_c.proofs.lock_calls.aes3_lock_push.Goals as goal

pub returns-then-most-eq0-clause-report : goal.returns-then-most-eq0-clause-report
returns-then-most-eq0-clause-report c = λ l f.
    ap decided (append-nil l) ∙ sym (append-nil (decided l))
    ∙ ap (λ o. decided l ++ option_to_list o) (sym (told-none c.put_ending.new.out _ (c.put_ending.ensures.codes [])))

pub returns-then-most-eq0-clause-codes : goal.returns-then-most-eq0-clause-codes
returns-then-most-eq0-clause-codes c = coded-none c.put_ending.new.out _ (c.put_ending.ensures.codes [])

pub returns-then-most-eq0-clause-block : goal.returns-then-most-eq0-clause-block
returns-then-most-eq0-clause-block c = λ at before block e.
    none-block c.put_ending.new.out _ at before block (c.put_ending.ensures.codes []) e

-- the first cells of the word
first : (word n : ℕ) → n ≤ 64 → cells_in (word ∷ []) 0 n ≡ low_cells n word
first word n h = front-from (word ∷ []) 0 n (let some : 0 < 1 = omega arith in some) h

pub returns-clause-follows : goal.returns-clause-follows
returns-clause-follows c = λ l f.
    let w = c.take_cells-taken.ensures.within in
    let most = c.most_of-most.ensures.word in
    subst (λ (d : List Level). Follows (state_of c.take_cells-taken.new.lock) (l ++ d))
    (first c.args.word c.take_cells-taken.result.cells (omega (arith, w, most))) (c.take_cells-taken.ensures.follows l f)

pub returns-clause-report : goal.returns-clause-report
returns-clause-report c = λ l f.
    let w = c.take_cells-taken.ensures.within in
    let most = c.most_of-most.ensures.word in
    ap (λ d. decided (l ++ d)) (sym (first c.args.word c.take_cells-taken.result.cells (omega (arith, w, most))))
    ∙ c.take_cells-taken.ensures.report l f
    ∙ ap (λ o. decided l ++ option_to_list o) (sym c.put_report.ensures.told)

pub returns-clause-last : goal.returns-clause-last
returns-clause-last c = λ told l f.
    let w = c.take_cells-taken.ensures.within in
    let most = c.most_of-most.ensures.word in
    ap (λ d. decided (l ++ d)) (sym (first c.args.word (c.take_cells-taken.result.cells - 1) (omega (arith, w, most))))
    ∙ c.take_cells-taken.ensures.last (λ e. told (c.put_report.ensures.told ∙ ap (option_map _) e)) l f
