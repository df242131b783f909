use Rattle.aes3_info.proofs.Inspecting.{end-behind}
use Rattle.aes3_info.proofs.inspector.Inspector.count_rest.Goals as goal

pub returns-clause-facts : goal.returns-clause-facts
returns-clause-facts c =
    λ r h. rw c.and-self.ensures (end-behind c.args.self.now.facts c.all.result c.args.self.now.place c.args.seen r h
    c.all.ensures)
