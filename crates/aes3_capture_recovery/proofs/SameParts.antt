-- A flag gives back what it was made of, and a line is the same as another with the same fields.
use Rattle.std.proofs.Common.{◌≡◌, Bool, true, false, refl}
use Rattle.aes3_capture_recovery.specs.Flags.{flag, is_set}
use Rattle.aes3_capture_recovery.specs.declared.line_follower.LineFollower.{LineFollower}

pub set-flag : (b : Bool) → is_set (flag b) ≡ b
set-flag true = refl
set-flag false = refl

pub same-line : (a b : LineFollower) → a.edges.high ≡ b.edges.high → a.edges.run ≡ b.edges.run → a.follower ≡ b.follower
    → a.queue ≡ b.queue → a.cells ≡ b.cells → a ≡ b
same-line a b high run follower queue cells = λ i. record {
  edges = record { high = high i; run = run i };
  follower = follower i;
  queue = queue i;
  cells = cells i;
}
