use Rattle.std.proofs.Common.{◌∙◌, codes, inl, inr, sym, true≢false}
use Rattle.clap.specs.Matches.{found_of}
use Rattle.clap.specs.Walk.{first_of}
use Rattle.clap.proofs.WalkLemmas.{one_text-rows}
use Rattle.aes3_cli.specs.Options.{options_of}
use Rattle.aes3_capture_runs.proofs.OptionValues.{none-stands, stands}
use Rattle.aes3_capture_runs.proofs.capture_job.want_places_alone.Goals as goal

pub returns-then-not-get_flag-clause-alone : goal.returns-then-not-get_flag-clause-alone
returns-then-not-get_flag-clause-alone c = λ on. absurd (true≢false
    (sym (c.if-not-get_flag.ensures.value (one_text-rows (found_of c.args.options.now) (codes "places") ∙ on))))

pub returns-then-get_flag-clause-wrong : goal.returns-then-get_flag-clause-wrong
returns-then-get_flag-clause-wrong c = (
  λ off. true≢false
      (c.if-not-get_flag.ensures.other (one_text-rows (found_of c.args.options.now) (codes "places") ∙ off)),
  inl (λ off. true≢false
      (c.if-get_flag.ensures.other (one_text-rows (found_of c.args.options.now) (codes "packed-out") ∙ off))),
)

pub returns-then-get_flag-2-clause-wrong : goal.returns-then-get_flag-2-clause-wrong
returns-then-get_flag-2-clause-wrong c = (
  λ off. true≢false
      (c.if-not-get_flag.ensures.other (one_text-rows (found_of c.args.options.now) (codes "places") ∙ off)),
  inr (inl (λ off. true≢false
      (c.if-get_flag-2.ensures.other (one_text-rows (found_of c.args.options.now) (codes "tell") ∙ off)))),
)

pub returns-then-is_some-clause-wrong : goal.returns-then-is_some-clause-wrong
returns-then-is_some-clause-wrong c = (
  λ off. true≢false
      (c.if-not-get_flag.ensures.other (one_text-rows (found_of c.args.options.now) (codes "places") ∙ off)),
  inr (inr (stands c.args.options.now (codes "picture") c.get_str.result c.get_str.ensures ∙ sym c.is_some.ensures
      ∙ c.if-is_some.true)),
)

pub returns-clause-alone : goal.returns-clause-alone
returns-clause-alone c = λ on. record {
  packed_out = λ e. true≢false
      (sym (c.if-get_flag.ensures.value (one_text-rows (found_of c.args.options.now) (codes "packed-out") ∙ e)));
  tell = λ e. true≢false
      (sym (c.if-get_flag-2.ensures.value (one_text-rows (found_of c.args.options.now) (codes "tell") ∙ e)));
  picture = none-stands (first_of (codes "picture") (options_of c.args.options.now))
      (stands c.args.options.now (codes "picture") c.get_str.result c.get_str.ensures ∙ sym c.is_some.ensures
      ∙ c.if-is_some.false);
}
