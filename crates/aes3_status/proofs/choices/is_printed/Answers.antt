use Rattle.std.proofs.Common.{◌≡◌, ◌∙◌, ◌++◌, ℕ, Bool, false, sym, ap, ap₂, subst, arith}
use Rattle.std.specs.List.{list_any}
use Rattle.std.specs.Str.{bytes_eq}
use Rattle.aes3_status.specs.Choices.{below, code_count}
use Rattle.aes3_status.specs.NamedSettings.{code_text}
use Rattle.aes3_status.proofs.ChoiceTexts.{none-more, one-found}
use Rattle.aes3_status.proofs.choices.is_printed.Goals as goal

pub returns-then-eq : goal.returns-then-eq
returns-then-eq c =
    let p : ℕ → Bool = λ code. bytes_eq (code_text c.args.field c.args.under code) c.args.line.now in
    let text = c.as_bytes.ensures
    ∙ (c.put_code.ensures.code ∙ ap (λ l. l ++ code_text c.args.field c.args.under c.loop-code.code) c.clear.ensures) in
    let is : p c.loop-code.code ≡ c.eq.result =
    sym (c.eq.ensures ∙ ap₂ bytes_eq text c.as_bytes-in-loop-code.ensures) in
    sym (one-found p c.loop-code.code (code_count c.args.field) (omega (arith, c.codes-code-end.ensures.count))
    (is ∙ c.if-eq.true))

pub loop-code-preserved : goal.loop-code-preserved
loop-code-preserved c =
    let p : ℕ → Bool = λ code. bytes_eq (code_text c.args.field c.args.under code) c.args.line.now in
    let text = c.as_bytes.ensures
    ∙ (c.put_code.ensures.code ∙ ap (λ l. l ++ code_text c.args.field c.args.under c.loop-code.code) c.clear.ensures) in
    let is : p c.loop-code.code ≡ c.eq.result =
    sym (c.eq.ensures ∙ ap₂ bytes_eq text c.as_bytes-in-loop-code.ensures) in
    none-more p c.loop-code.code c.loop-code.invariant (is ∙ c.if-eq.false)

pub returns : goal.returns
returns c =
    let p : ℕ → Bool = λ code. bytes_eq (code_text c.args.field c.args.under code) c.args.line.now in
    let all : c.loop-code.code ≡ code_count c.args.field = omega (arith, c.codes-code-end.ensures.count) in
    sym (subst (λ n. list_any p (below n) ≡ false) all c.loop-code.invariant)
