use Rattle.std.proofs.Common.{◌≡◌, ◌∙◌, ◌+◌, ◌-◌, ◌||◌, [], ◌∷◌, get_or, sym, ap₂, arith}
use Rattle.aes3_files.specs.Packed.{bits_down, has_long_run, highest_first}
use Rattle.aes3_files.proofs.PackedPairs.{packed-are, packed-not, pairs-next}
use Rattle.aes3_files.proofs.packed.are_packed.Goals as goal

pub returns-then-has_long_run : goal.returns-then-has_long_run
returns-then-has_long_run c =
    let l = c.loop-at in
    let octets = c.args.first.now in
    let run : c.has_long_run.result
    ≡ has_long_run (highest_first (get_or octets (l.at - 1) 0 ∷ get_or octets l.at 0 ∷ [])) = search in
    packed-not octets (l.at + 1) (omega arith)
    (pairs-next bits_down octets l.at (omega arith) (omega arith)
    ∙ ap₂ ◌||◌ l.invariant (sym run ∙ c.if-has_long_run.true))

pub loop-at-preserved : goal.loop-at-preserved
loop-at-preserved c =
    let l = c.loop-at in
    let octets = c.args.first.now in
    let run : c.has_long_run.result
    ≡ has_long_run (highest_first (get_or octets (l.at - 1) 0 ∷ get_or octets l.at 0 ∷ [])) = search in
    pairs-next bits_down octets l.at (omega arith) (omega arith)
    ∙ ap₂ ◌||◌ l.invariant (sym run ∙ c.if-has_long_run.false)

pub returns : goal.returns
returns c = (search) ∙ packed-are c.args.first.now c.loop-at.at (omega arith) c.loop-at.invariant
