use Rattle.std.proofs.Common.{refl, sym, ap, ◌∙◌, rules}
use Rattle.aes3_capture_recovery.proofs.Recovering.{recovered-new}
use Rattle.aes3_capture_recovery.proofs.recovery.Recovery.with_follower.Goals as goal

pub returns : goal.returns
returns c = record {
  recovered = λ setting form known asked.
      let made = c.new-2.ensures in
      recovered-new setting _ (ap (λ e. e.high) made.edges ∙ search (rules, c.new.ensures.high))
      (ap (λ e. e.run) made.edges ∙ c.new.ensures.none) made.none (made.form ∙ sym form) (sym known) refl
      c.default.ensures.0 c.default.ensures.1.1.1.1.1.1.1.1.0 refl refl
      (λ found. rw (known, made.follower) (asked found));
  found = refl;
  unmeasured = c.default.ensures.1.1.1.1.1.1.1.1.0;
  none = (refl, refl);
}
