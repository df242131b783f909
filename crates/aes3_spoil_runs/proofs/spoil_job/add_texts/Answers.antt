use Rattle.std.proofs.Common.{◌∙◌, Bor, List, ℕ, arith, subst}
use Rattle.std.specs.List.{All}
use Rattle.std.proofs.lemmas.List.{take_all}
use Rattle.std.proofs.lemmas.List.Elements.{All-map, All-more}
use Rattle.std.proofs.lemmas.Result.{err_from_is_err_and}
use Rattle.aes3_spoil.specs.Errors.{errors_of}
use Rattle.aes3_spoil_runs.specs.Asks.{IsValue, errors_in}
use Rattle.aes3_spoil_runs.proofs.Adding.{one_more}
use Rattle.aes3_spoil_runs.proofs.Wrongs.{one_wrong}
use Rattle.aes3_spoil_runs.proofs.spoil_job.add_texts.Goals as goal

pub loop-text-preserved : goal.loop-text-preserved
loop-text-preserved c = (
  one_more (errors_in c.args.named) (λ (t : Bor (List ℕ)). t.now) (errors_of c.args.errors.now)
      (errors_of c.loop-text.errors) (errors_of c.add_text.new.errors) c.args.texts.now c.loop-text.text-index _
      c.loop-text-test.true c.loop-text.invariant.0 c.in_ok-add_text.ensures.list,
  c.add_text.ensures.every ∙ c.loop-text.invariant.1,
  All-more (λ (t : Bor (List ℕ)). IsValue c.args.named t.now) c.args.texts.now c.loop-text.text-index _
      c.loop-text-test.true c.loop-text.invariant.2 c.in_ok-add_text.ensures.value,
)

pub returns-in_err-add_text-clause-wrong : goal.returns-in_err-add_text-clause-wrong
returns-in_err-add_text-clause-wrong c =
    let p = err_from_is_err_and c.from_residual.result c.from_residual.ensures.1 in
    rw (p.1, p.2) (one_wrong (λ (t : Bor (List ℕ)). t.now) (errors_of c.args.errors.now) (errors_of c.loop-text.errors)
    c.args.named c.args.texts.now c.loop-text.text-index _ _ c.loop-text-test.true c.loop-text.invariant.0
    c.in_err-add_text.ensures.wrong)

pub returns-clause-values : goal.returns-clause-values
returns-clause-values c =
    let past = c.loop-text-test.false in
    All-map (IsValue c.args.named) (λ (t : Bor (List ℕ)). t.now) c.args.texts.now
    (subst (All (λ (t : Bor (List ℕ)). IsValue c.args.named t.now))
    (take_all c.loop-text.text-index c.args.texts.now (omega arith)) c.loop-text.invariant.2)
