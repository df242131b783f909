use Rattle.std.proofs.Common.{◌∙◌, ap, codes, is_some, sym, true≢false}
use Rattle.clap.specs.Matches.{found_of}
use Rattle.clap.specs.Walk.{first_of}
use Rattle.clap.proofs.WalkLemmas.{one_text-rows}
use Rattle.aes3_cli.specs.Options.{options_of}
use Rattle.aes3_capture_runs.proofs.OptionValues.{none-stands, stands}
use Rattle.aes3_capture_runs.proofs.capture_job.want_rate.Goals as goal

pub returns-then-is_some-clause-at : goal.returns-then-is_some-clause-at
returns-then-is_some-clause-at c = λ none. absurd (true≢false
    (sym (stands c.args.options.now (codes "rate") c.get_str.result c.get_str.ensures ∙ sym c.is_some.ensures
    ∙ c.if-is_some.true) ∙ ap is_some none))

pub returns-then-is_some-clause-tell : goal.returns-then-is_some-clause-tell
returns-then-is_some-clause-tell c = λ none on. true≢false
    (sym (stands c.args.options.now (codes "rate") c.get_str.result c.get_str.ensures ∙ sym c.is_some.ensures
    ∙ c.if-is_some.true) ∙ ap is_some none)

pub returns-then-is_some-2-clause-wrong : goal.returns-then-is_some-2-clause-wrong
returns-then-is_some-2-clause-wrong c = (
  none-stands (first_of (codes "rate") (options_of c.args.options.now))
      (stands c.args.options.now (codes "rate") c.get_str.result c.get_str.ensures ∙ sym c.is_some.ensures
      ∙ c.if-is_some.false),
  stands c.args.options.now (codes "at") c.get_str-2.result c.get_str-2.ensures ∙ sym c.is_some-2.ensures
      ∙ c.if-is_some-2.true,
)

pub returns-then-get_flag-clause-wrong : goal.returns-then-get_flag-clause-wrong
returns-then-get_flag-clause-wrong c = (
  none-stands (first_of (codes "rate") (options_of c.args.options.now))
      (stands c.args.options.now (codes "rate") c.get_str.result c.get_str.ensures ∙ sym c.is_some.ensures
      ∙ c.if-is_some.false),
  λ off. true≢false (c.if-get_flag.ensures.other (one_text-rows (found_of c.args.options.now) (codes "tell") ∙ off)),
)

pub returns-clause-at : goal.returns-clause-at
returns-clause-at c = λ none.
    none-stands (first_of (codes "at") (options_of c.args.options.now))
    (stands c.args.options.now (codes "at") c.get_str-2.result c.get_str-2.ensures ∙ sym c.is_some-2.ensures
    ∙ c.if-is_some-2.false)

pub returns-clause-tell : goal.returns-clause-tell
returns-clause-tell c = λ none on. true≢false
    (sym (c.if-get_flag.ensures.value (one_text-rows (found_of c.args.options.now) (codes "tell") ∙ on)))
