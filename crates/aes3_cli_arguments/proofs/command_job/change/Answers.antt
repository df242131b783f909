use Rattle.std.proofs.Common.{List, Option, codes, subst, ℕ, rules}
use Rattle.aes3_cli_arguments.specs.Jobs.{IsStatus, options_of}
use Rattle.aes3_cli_arguments.proofs.command_job.change.Goals as goal

pub returns-clause-change : goal.returns-clause-change
returns-clause-change c = (
  subst (λ (o : Option (List ℕ)). IsStatus o (options_of c.args.options.now) (codes "status1") c.in_ok-status.field-0)
      c.status-other1.ensures (search (rules, c.in_ok-status.ensures.status)),
  subst (λ (o : Option (List ℕ)). IsStatus o (options_of c.args.options.now) (codes "status2") c.in_ok-status-2.field-0)
      c.status-other2.ensures (search (rules, c.in_ok-status-2.ensures.status)),
  c.in_ok-settings1.ensures.settings,
  c.in_ok-settings2.ensures.settings,
  search (rules, c.bit.ensures),
  search (rules, c.bit-2.ensures),
  c.flag.ensures,
  c.flag-2.ensures,
  c.mends-mend.ensures,
)
