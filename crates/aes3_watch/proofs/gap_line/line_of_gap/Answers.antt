use Rattle.std.proofs.Common.{List, [], ℕ, ◌∷◌, ◌++◌, append_assoc, ap, ◌∙◌, ◌≡◌, sym, rules}
use Rattle.std.specs.Prelude.{codes, decimal}
use Rattle.aes3_cell.proofs.Writing.{wrote-is}
use Rattle.aes3_watch.proofs.gap_line.line_of_gap.Goals as goal

-- five texts joined from the last on and from the first on
joined : (a b c d e : List ℕ) → a ++ (b ++ (c ++ (d ++ e))) ≡ (((a ++ b) ++ c) ++ d) ++ e
joined a b c d e =
    sym (append_assoc ((a ++ b) ++ c) d e ∙ append_assoc (a ++ b) c (d ++ e) ∙ append_assoc a b (c ++ (d ++ e)))

pub returns : goal.returns
returns g c =
    let at = decimal c.args.at in
    let cells = decimal c.args.cells in
    let line = c.text.ensures.text ∙ ap (λ z. 10 ∷ z) c.new-line.ensures in
    let counted = c.number.ensures.digits ∙ ap (λ z. cells ++ z) line in
    let said : c.text-2.new.self ≡ codes " cells " ++ c.number.new.self = search (rules, c.text-2.ensures.text) in
    let named = said ∙ ap (λ z. codes " cells " ++ z) counted in
    let placed = c.number-2.ensures.digits ∙ ap (λ z. at ++ z) named in
    let all = c.text-3.ensures.text ∙ ap (λ z. codes "gap at " ++ z) placed in
    wrote-is (all ∙ joined (codes "gap at ") at (codes " cells ") cells (10 ∷ [])) c.write_to.ensures
