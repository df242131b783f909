use Rattle.std.proofs.Common.{arith}
use Rattle.std.proofs.lemmas.List.Elements.{All-from_get_or}
use Rattle.aes3_block.specs.Laws.{IsByte}
use Rattle.aes3_engine.proofs.rewriting.know_status.Goals as goal

pub returns : goal.returns
returns c = record {
  long = c.requires;
  fit = All-from_get_or IsByte c.args.status.now 0 (λ i l. omega (arith, c.type_inv.status i));
}
