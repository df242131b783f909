use Rattle.std.proofs.Common.{◌≡◌, ◌∙◌, ℕ, List, Bor, Bool, codes, length, nat_lt, refl, sym, ap, cond}
use Rattle.std.proofs.lemmas.List.{length-map}
use Rattle.std.proofs.lemmas.Bool.{le-ltb, lt-ltb}
use Rattle.aes3_cli_arguments.specs.Jobs.{option_at, options_of, texts_by}
use Rattle.aes3_cli_arguments.proofs.OptionReads.{texts_given}
use Rattle.aes3_cli_arguments.proofs.command_job.option_at.Goals as goal

pub returns-in-Unknown : goal.returns-in-Unknown
returns-in-Unknown c =
    let given = texts_given c.args.options.now (codes "set") c.get_strs.result _ c.unwrap_or-both.result
    c.get_strs.ensures refl c.unwrap_or-both.ensures in
    let len : length c.unwrap_or-both.result.now ≡ length (texts_by (options_of c.args.options.now) (codes "set")) =
    sym (length-map c.unwrap_or-both.result.now (λ (text : Bor (List ℕ)). text.now)) ∙ ap length given in
    sym (ap (option_at (options_of c.args.options.now) c.args.name.now) c.in-Unknown.is
    ∙ ap (λ (b : Bool). cond b (codes "set") c.args.name.now)
    (ap (nat_lt c.in-Unknown.at) (sym len) ∙ lt-ltb _ _ c.if-at-both.true))

pub returns-in-Unknown-2 : goal.returns-in-Unknown-2
returns-in-Unknown-2 c =
    let given = texts_given c.args.options.now (codes "set") c.get_strs.result _ c.unwrap_or-both.result
    c.get_strs.ensures refl c.unwrap_or-both.ensures in
    let len : length c.unwrap_or-both.result.now ≡ length (texts_by (options_of c.args.options.now) (codes "set")) =
    sym (length-map c.unwrap_or-both.result.now (λ (text : Bor (List ℕ)). text.now)) ∙ ap length given in
    sym (ap (option_at (options_of c.args.options.now) c.args.name.now) c.in-Unknown.is
    ∙ ap (λ (b : Bool). cond b (codes "set") c.args.name.now)
    (ap (nat_lt c.in-Unknown.at) (sym len) ∙ le-ltb _ _ c.if-at-both.false))
