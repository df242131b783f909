use Rattle.std.proofs.Common.{sym, subst}
use Rattle.aes3_wave.specs.Following.{Decided}
use Rattle.aes3_wave.proofs.header_reader.HeaderReader.decide.Goals as goal

pub returns-in-First-clause-decided : goal.returns-in-First-clause-decided
returns-in-First-clause-decided c =
    let s = c.args.self.now in
    λ _. subst (λ t. Decided t s.at c.args.front.now c.first_step.result) (sym c.in-First.is) (c.first_step.ensures.decided s.at)
