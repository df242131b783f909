use Rattle.std.proofs.Common.{◌+◌, ◌*◌, ◌%◌, ◌∙◌, ap, ap₂, sym, subst, arith, get_or}
use Rattle.std.specs.Int.{bit_at}
use Rattle.aes3_capture_recovery.specs.Levels.{IsWord}
use Rattle.aes3_capture_recovery.proofs.edges.word_at.Goals as goal

pub returns-in-Octets : goal.returns-in-Octets
returns-in-Octets c =
    let block = c.args.block.now in
    subst (λ u. IsWord u block c.args.i c.levels_at.result) (sym c.in-Octets.is)
    (λ within j below. c.levels_at.ensures j below ∙ ap (bit_at (get_or block (64 * c.args.i + j) 0)) (omega (arith, within)))

pub returns-in-Pairs : goal.returns-in-Pairs
returns-in-Pairs c =
    let block = c.args.block.now in
    let i = c.args.i in
    subst (λ u. IsWord u block i c.levels_of_pairs_at.result) (sym c.in-Pairs.is)
    (λ within j below. c.levels_of_pairs_at.ensures j below
    ∙ ap₂ (λ a b. bit_at (get_or block a 0 + 256 * get_or block b 0) (c.in-Pairs.bit % 16)) (omega arith) (omega arith)
    ∙ ap (bit_at (get_or block (2 * (64 * i + j)) 0 + 256 * get_or block (2 * (64 * i + j) + 1) 0)) (omega (arith, within)))
