use Rattle.std.proofs.Common.{◌≡◌, ◌∙◌, ◌++◌, List, Option, None, Some, ap, append-nil, subst, sym}
use Rattle.std.proofs.lemmas.List.Elements.{All-nil}
use Rattle.std.proofs.lemmas.Result.{IfErr-weaker, IfOk-weaker}
use Rattle.std.specs.Prelude.{[], unwrap_or}
use Rattle.std.specs.List.{All, flat_map}
use Rattle.clap.specs.Walk.{Text, all_of}
use Rattle.aes3_spoil.specs.Errors.{errors_of}
use Rattle.aes3_cli.specs.Options.{options_of}
use Rattle.aes3_cli.proofs.OptionReads.{texts_are, texts_in}
use Rattle.aes3_spoil_runs.specs.Asks.{IsValue, errors_in}
use Rattle.aes3_spoil_runs.specs.Faults.{IsWrongAfter}
use Rattle.aes3_spoil_runs.specs.Named.{name_of}
use Rattle.aes3_spoil_runs.proofs.spoil_job.add_option.Goals as goal

pub returns-in-Some-clause-list : goal.returns-in-Some-clause-list
returns-in-Some-clause-list c =
    let options = options_of c.args.options.now in
    let given : all_of (name_of c.args.named) options ≡ texts_in (Some c.in-Some.texts) =
    ap (λ (n : Text). all_of n options) (sym c.name.ensures)
    ∙ texts_are c.args.options.now c.name.result.now c.get_strs.result (Some c.in-Some.texts) c.get_strs.ensures
    c.in-Some.is in
    IfOk-weaker c.add_texts.result _ _
    (λ u e. e ∙ ap (λ (o : Option (List Text)).
    errors_of c.args.errors.now ++ flat_map (errors_in c.args.named) (unwrap_or o [])) (sym given))
    c.add_texts.ensures.list

pub returns-in-Some-clause-values : goal.returns-in-Some-clause-values
returns-in-Some-clause-values c =
    let options = options_of c.args.options.now in
    let given : all_of (name_of c.args.named) options ≡ texts_in (Some c.in-Some.texts) =
    ap (λ (n : Text). all_of n options) (sym c.name.ensures)
    ∙ texts_are c.args.options.now c.name.result.now c.get_strs.result (Some c.in-Some.texts) c.get_strs.ensures
    c.in-Some.is in
    IfOk-weaker c.add_texts.result _ _
    (λ u are. subst (λ (o : Option (List Text)). All (IsValue c.args.named) (unwrap_or o [])) (sym given) are)
    c.add_texts.ensures.values

pub returns-in-Some-clause-wrong : goal.returns-in-Some-clause-wrong
returns-in-Some-clause-wrong c =
    let options = options_of c.args.options.now in
    let given : all_of (name_of c.args.named) options ≡ texts_in (Some c.in-Some.texts) =
    ap (λ (n : Text). all_of n options) (sym c.name.ensures)
    ∙ texts_are c.args.options.now c.name.result.now c.get_strs.result (Some c.in-Some.texts) c.get_strs.ensures
    c.in-Some.is in
    IfErr-weaker c.add_texts.result _ _
    (λ what is. subst (λ (o : Option (List Text)).
    IsWrongAfter (errors_of c.args.errors.now) c.args.named (unwrap_or o []) what) (sym given) is)
    c.add_texts.ensures.wrong

pub returns-in-None-clause-list : goal.returns-in-None-clause-list
returns-in-None-clause-list c =
    let options = options_of c.args.options.now in
    let none : all_of (name_of c.args.named) options ≡ None =
    ap (λ (n : Text). all_of n options) (sym c.name.ensures)
    ∙ texts_are c.args.options.now c.name.result.now c.get_strs.result None c.get_strs.ensures c.in-None.is in
    sym (append-nil (errors_of c.args.errors.now))
    ∙ ap (λ (o : Option (List Text)).
    errors_of c.args.errors.now ++ flat_map (errors_in c.args.named) (unwrap_or o [])) (sym none)

pub returns-in-None-clause-values : goal.returns-in-None-clause-values
returns-in-None-clause-values c =
    let options = options_of c.args.options.now in
    let none : all_of (name_of c.args.named) options ≡ None =
    ap (λ (n : Text). all_of n options) (sym c.name.ensures)
    ∙ texts_are c.args.options.now c.name.result.now c.get_strs.result None c.get_strs.ensures c.in-None.is in
    subst (λ (o : Option (List Text)). All (IsValue c.args.named) (unwrap_or o [])) (sym none) (All-nil (IsValue c.args.named))
