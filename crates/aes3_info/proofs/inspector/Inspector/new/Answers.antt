use Rattle.aes3_info.proofs.Inspecting.{begins}
use Rattle.aes3_info.proofs.inspector.Inspector.new.Goals as goal

pub returns-clause-none : goal.returns-clause-none
returns-clause-none c = begins c.no_facts.result c.no_facts.ensures
