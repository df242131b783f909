use Rattle.std.proofs.Common.{◌≡◌, ◌∙◌, ◌++◌, ◌∷◌, [], ◌+◌, ◌<◌, List, ℕ, ap, sym, subst, arith, append_assoc, drop, take, take-append-drop, get_or}
use Rattle.std.proofs.lemmas.List.{take_more}
use Rattle.aes3_c.specs.Owed.{owed_in, stretched}
use Rattle.aes3_c.proofs.Stretches.{still-many}
use Rattle.aes3_c.proofs.owed.owe_all.Goals as goal

pub returns-then-not-owe-clause-many : goal.returns-then-not-owe-clause-many
returns-then-not-owe-clause-many c = λ _.
    let octets = c.args.octets.now in
    let i = c.loop-i.i in
    let within = c.loop-i-test.true in
    let old = owed_in c.args.owed.now in
    let front : owed_in c.loop-i.owed ++ get_or octets i 0 ∷ [] ≡ old ++ take (i + 1) octets
    = ap (λ l. l ++ get_or octets i 0 ∷ []) c.loop-i.invariant.owes
    ∙ append_assoc old (take i octets) (get_or octets i 0 ∷ [])
    ∙ ap (λ l. old ++ l) (sym (take_more octets i 0 (omega (arith, within)))) in
    let all : (old ++ take (i + 1) octets) ++ drop (i + 1) octets ≡ old ++ octets
    = append_assoc old (take (i + 1) octets) (drop (i + 1) octets) ∙ ap (λ l. old ++ l) (take-append-drop (i + 1) octets) in
    subst (λ (l : List ℕ). 1024 < (stretched l).many) all
    (still-many 1024 (old ++ take (i + 1) octets) (drop (i + 1) octets)
    (subst (λ (l : List ℕ). 1024 < (stretched l).many) front (c.owe.ensures.many c.if-not-owe.true)))
