use Rattle.std.proofs.Common.{◌≡◌, ◌∙◌, ◌++◌, ℕ, ap, append_assoc, arith, codes, decimal, refl, suc, zero}
use Rattle.std.proofs.lemmas.Result.{IfOk-weaker}
use Rattle.aes3_capture_runs.specs.Lines.{latest_of}
use Rattle.aes3_capture_runs.proofs.figures.add_latest.Goals as goal

-- where the line was dead, it is said from where on
some-latest : (n at : ℕ) → (n ≡ 0 → ⊥) → codes ", the latest from sample " ++ decimal at ≡ latest_of n at
some-latest zero at some = absurd (some refl)
some-latest (suc n) at some = refl

pub returns : goal.returns
returns c =
    let old = c.args.text.now.bytes.items in
    let front = codes ", the latest from sample " in
    let number = decimal c.args.figures.now.dead_at in
    let some = c.if-figures-eq0.false in
    IfOk-weaker c.add_number.result _ _
    (λ u e. e ∙ (ap (λ t. t ++ number) c.in_ok-push_str.ensures.bytes ∙ (append_assoc old front number
    ∙ ap (λ l. old ++ l)
    (some-latest c.args.figures.now.dead c.args.figures.now.dead_at (λ none. omega (arith, none, some))))))
    c.add_number.ensures
