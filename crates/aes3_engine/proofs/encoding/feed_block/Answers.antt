use Rattle.std.proofs.Common.{ℕ, List, Option, Some, None, subst}
use Rattle.std.specs.Prelude.{IfSome}
use Rattle.aes3_block.specs.Readers.{TakesBlock}
use Rattle.aes3_engine.proofs.encoding.feed_block.Goals as goal

known : {A : Type 0} {P : Type 0} (r : Option A) → P → IfSome r (λ _. P)
known None p = tt
known (Some x) p = p

pub returns-in-Some-clause-bound : goal.returns-in-Some-clause-bound
returns-in-Some-clause-bound c = known c.feed_block.result c.in-Some.ensures.cases.enough

pub returns-in-Some-clause-taken : goal.returns-in-Some-clause-taken
returns-in-Some-clause-taken c =
    subst (λ (z : List ℕ). IfSome c.feed_block.result
    (λ block. TakesBlock c.args.file.now z block c.feed_block.new.self))
    c.in-Some.ensures.cases.same c.feed_block.ensures.taken
