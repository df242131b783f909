use Rattle.std.proofs.Common.{◌≡◌, ◌∙◌, ap, rules}
use Rattle.aes3_frame.specs.declared.block.Channel.TheVariants.{First, Second}
use Rattle.aes3_engine.specs.Rewriting.{with_status_changed}
use Rattle.aes3_engine.proofs.ChangedStatus.{by-channels}
use Rattle.aes3_engine.proofs.rewriting.rewrite_block.Goals as goal

pub returns : goal.returns
returns c =
    let change = c.args.change.now in
    let first : c.change_status.new.block
    ≡ with_status_changed First change.status1 change.settings1 change.mend c.set_bits.new.block =
    search (rules, c.change_status.ensures) in
    let second : c.change_status-2.new.block
    ≡ with_status_changed Second change.status2 change.settings2 change.mend c.change_status.new.block =
    search (rules, c.change_status-2.ensures) in
    second
    ∙ ap (with_status_changed Second change.status2 change.settings2 change.mend)
    (first ∙ ap (with_status_changed First change.status1 change.settings1 change.mend) c.set_bits.ensures)
    ∙ by-channels change c.args.block.now
