use Rattle.std.proofs.Common.{◌∙◌, ap, sym}
use Rattle.aes3_capture_recovery.specs.Flags.{is_set}
use Rattle.aes3_capture_recovery.proofs.SameParts.{same-line, set-flag}
use Rattle.aes3_capture_recovery.proofs.line_follower.LineFollower.of_parts.Goals as goal

pub returns : goal.returns
returns c = λ line is.
    same-line _ line
    (c.standing.ensures.high ∙ c.is_set.ensures ∙ ap is_set (sym (ap (λ p. p.high) is)) ∙ set-flag line.edges.high)
    (c.standing.ensures.run ∙ sym (ap (λ p. p.run) is))
    (c.of_parts.ensures line.follower (ap (λ p. p.follower) is))
    (c.of_parts-2.ensures line.queue (ap (λ p. p.queue) is))
    (sym (ap (λ p. p.cells) is))
