use Rattle.std.proofs.Common.{ℕ, List, [], ◌∷◌, Option, replicate, ap, sym, ◌∙◌}
use Rattle.std.specs.Option.{unwrap_or}
use Rattle.aes3_status.specs.declared.setting.Settings.{Settings}
use Rattle.aes3_status.specs.Taken.{taken_by}
use Rattle.aes3_status.proofs.TakenKinds.{nothing-taken}
use Rattle.aes3_engine.specs.RewritingRuns.{taken_of}
use Rattle.aes3_program.proofs.outcome.taken_of.Goals as goal

pub returns-in-Some : goal.returns-in-Some
returns-in-Some c =
    c.add.ensures [] (nothing-taken c.in-Some.settings)
    ∙ ap (λ (s : List ℕ). taken_by c.in-Some.settings (s ∷ [])) c.unwrap_or.ensures
    ∙ sym (ap (λ (s : Option Settings). taken_of s (unwrap_or c.args.status.now (replicate 24 0) ∷ [])) c.in-Some.is)
