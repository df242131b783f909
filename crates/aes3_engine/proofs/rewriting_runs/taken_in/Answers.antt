use Rattle.std.proofs.Common.{List, ℕ, [], Option, ◌≡◌, ◌∷◌, ◌∙◌, ap₂, sym, arith, rules}
use Rattle.aes3_status.specs.declared.setting.Settings.{Settings}
use Rattle.aes3_status.specs.Taken.{taken_by}
use Rattle.aes3_status.proofs.TakenKinds.{nothing-taken}
use Rattle.aes3_engine.specs.RewritingRuns.{met_statuses, statuses_of, taken_of}
use Rattle.aes3_engine.proofs.RewritingRuns.{none-stands, one-stands, statuses-long}
use Rattle.aes3_engine.proofs.rewriting_runs.taken_in.Goals as goal

pub returns-in-Some-None : goal.returns-in-Some-None
returns-in-Some-None c = λ channel bs n h.
    c.taken_by.ensures (statuses_of channel bs) (statuses-long channel bs)
    (search (rules, h))
    ∙ sym (ap₂ (λ (s : Option Settings) (t : Option (List ℕ)). taken_of s (met_statuses t channel bs))
    c.in-Some-None.is-0 c.in-Some-None.is-1)

pub returns-then-blocks-gt0 : goal.returns-then-blocks-gt0
returns-then-blocks-gt0 c = λ channel bs n h.
    let settings = c.in-Some-Some.settings in
    let status = c.in-Some-Some.status in
    let taken : c.add.new.self ≡ taken_by settings (status ∷ []) =
    search (rules, c.add.ensures [] (nothing-taken settings)) in
    taken ∙ one-stands settings status channel bs (omega arith)
    ∙ sym (ap₂ (λ (s : Option Settings) (t : Option (List ℕ)). taken_of s (met_statuses t channel bs))
    c.in-Some-Some.is-0 c.in-Some-Some.is-1)

pub returns-else-blocks-gt0 : goal.returns-else-blocks-gt0
returns-else-blocks-gt0 c = λ channel bs n h.
    none-stands c.in-Some-Some.settings c.in-Some-Some.status channel bs (omega arith)
    ∙ sym (ap₂ (λ (s : Option Settings) (t : Option (List ℕ)). taken_of s (met_statuses t channel bs))
    c.in-Some-Some.is-0 c.in-Some-Some.is-1)
