-- A text that is appended.
use Rattle.std.proofs.Common.{◌≡◌, ◌∙◌, List, ℕ, Result, Ok, Err, IfOk, ◌++◌, ap, append_assoc}
use Rattle.std.specs.Prelude.{if◌then◌else◌, is_ok}

-- three texts, of which the last is appended where there is memory
pub three-pushed : {A E : Type 0} (result : Result A E) (old first now second third last new : List ℕ)
    → now ≡ old ++ first → last ≡ now ++ second
    → new ≡ (if is_ok result then last ++ third else last)
    → IfOk result (λ (u : A). new ≡ old ++ (first ++ (second ++ third)))
three-pushed (Ok u) old first now second third last new one two three =
    three ∙ ap (λ t. t ++ third) (two ∙ ap (λ t. t ++ second) one) ∙ append_assoc (old ++ first) second third
    ∙ append_assoc old first (second ++ third)
three-pushed (Err e) old first now second third last new one two three = tt
