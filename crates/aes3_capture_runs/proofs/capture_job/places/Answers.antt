use Rattle.std.proofs.Common.{◌≡◌, ◌∙◌, None, Option, Some, codes, false, is_some, refl, rules, sym, true≢false}
use Rattle.std.specs.Option.{option_map}
use Rattle.clap.specs.Matches.{found_of}
use Rattle.clap.proofs.WalkLemmas.{one_text-rows}
use Rattle.aes3_capture_runs.proofs.capture_job.places.Goals as goal

no-value : {A B : Type 0} (f : A → B) (o : Option A) → is_some o ≡ false → option_map f o ≡ None
no-value f None e = refl
no-value f (Some x) e = absurd (true≢false e)

pub returns-then-not-get_flag-clause-chosen : goal.returns-then-not-get_flag-clause-chosen
returns-then-not-get_flag-clause-chosen c = record {
  given = λ e. absurd (true≢false
      (sym (c.if-not-get_flag.ensures.value (one_text-rows (found_of c.args.options.now) (codes "places") ∙ e))));
  absent = λ e. refl;
}

pub returns-then-not-get_flag-clause-file : goal.returns-then-not-get_flag-clause-file
returns-then-not-get_flag-clause-file c = λ none on.
    true≢false (sym (c.if-not-get_flag.ensures.value (one_text-rows (found_of c.args.options.now) (codes "places") ∙ on)))

pub returns-then-is_none-clause-wrong : goal.returns-then-is_none-clause-wrong
returns-then-is_none-clause-wrong c = (
  sym c.requires ∙ no-value _ c.args.file (search (rules, c.is_none.ensures, c.if-is_none.true)),
  λ off. true≢false
      (c.if-not-get_flag.ensures.other (one_text-rows (found_of c.args.options.now) (codes "places") ∙ off)),
)

pub returns-clause-chosen : goal.returns-clause-chosen
returns-clause-chosen c = record {
  given = λ e. refl;
  absent = λ e. absurd (true≢false
      (c.if-not-get_flag.ensures.other (one_text-rows (found_of c.args.options.now) (codes "places") ∙ e)));
}
