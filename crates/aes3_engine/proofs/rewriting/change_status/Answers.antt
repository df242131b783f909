use Rattle.std.proofs.Common.{◌≡◌, ◌∙◌, sym, ap, refl, cond, true, false, rules}
use Rattle.std.specs.Option.{unwrap_or}
use Rattle.aes3_frame.specs.Statuses.{with_status}
use Rattle.aes3_block.proofs.StatusLaws.{status-stays}
use Rattle.aes3_engine.specs.Rewriting.{mended_status}
use Rattle.aes3_engine.proofs.ChangedStatus.{changed-once, of-settings}
use Rattle.aes3_engine.proofs.rewriting.change_status.Goals as goal
use Rattle.aes3_engine.proofs.rewriting.change_status.Goals.{in-Some, in_default, then-mend, else-mend}

pub returns-then-ne : goal.returns-then-ne
returns-then-ne c =
    let s : c.unwrap_or-new.result ≡ unwrap_or c.args.status.now c.channel_status-old.result =
    search (rules, c.unwrap_or-new.ensures) in
    let t : c.match-settings.new ≡ of-settings c.args.settings.now c.unwrap_or-new.result =
    elim c.match-settings.branch [ in-Some w ↦ search (rules, w.new-is, w.set_fields.ensures, w.in-Some.is) | in_default w ↦ search (rules, w.new-is, w.in_default.is) ] in
    let u : c.if-mend.new ≡ cond c.args.mend (mended_status c.match-settings.new) c.match-settings.new =
    elim c.if-mend.branch [ then-mend w ↦ search (rules, w.new-is, w.mended_status-new.ensures, w.if-mend) | else-mend w ↦ search (rules, w.new-is, w.if-mend) ] in
    let once = changed-once c.args.channel c.args.block.now c.channel_status-old.ensures.whole c.args.status.now c.args.settings.now
    c.args.mend _ _ _ _ c.channel_status-old.ensures.status s t u c.know_status.ensures c.know_status-2.ensures in
    c.set_channel_status.ensures ∙ sym once

pub returns-else-ne : goal.returns-else-ne
returns-else-ne c =
    let s : c.unwrap_or-new.result ≡ unwrap_or c.args.status.now c.channel_status-old.result =
    search (rules, c.unwrap_or-new.ensures) in
    let t : c.match-settings.new ≡ of-settings c.args.settings.now c.unwrap_or-new.result =
    elim c.match-settings.branch [ in-Some w ↦ search (rules, w.new-is, w.set_fields.ensures, w.in-Some.is) | in_default w ↦ search (rules, w.new-is, w.in_default.is) ] in
    let u : c.if-mend.new ≡ cond c.args.mend (mended_status c.match-settings.new) c.match-settings.new =
    elim c.if-mend.branch [ then-mend w ↦ search (rules, w.new-is, w.mended_status-new.ensures, w.if-mend) | else-mend w ↦ search (rules, w.new-is, w.if-mend) ] in
    let once = changed-once c.args.channel c.args.block.now c.channel_status-old.ensures.whole c.args.status.now c.args.settings.now
    c.args.mend _ _ _ _ c.channel_status-old.ensures.status s t u c.know_status.ensures c.know_status-2.ensures in
    let same : c.if-mend.new ≡ c.channel_status-old.result = search (rules, c.ne.ensures, c.if-ne.false) in
    sym (once ∙ ap (with_status c.args.block.now c.args.channel) (same ∙ c.channel_status-old.ensures.status)
    ∙ status-stays c.args.block.now c.args.channel c.channel_status-old.ensures.whole)
