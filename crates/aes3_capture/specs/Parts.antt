-- The numbers of a follower.
use Rattle.aes3_capture.specs.declared.follower.Follower.{Follower}
use Rattle.aes3_capture.specs.declared.follower.parts.FollowerParts.{FollowerParts}

abbrev pub parts_of : Follower → FollowerParts
parts_of f = record {
  low = f.bounds.low;
  high = f.bounds.high;
  period = f.period;
  elapsed = f.elapsed;
  same = f.same;
  other = f.other;
}
