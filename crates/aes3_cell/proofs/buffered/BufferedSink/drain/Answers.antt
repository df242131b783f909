use Rattle.std.proofs.Common.{◌-◌, ◌∙◌, take, drop, sym, ap}
use Rattle.std.proofs.lemmas.List.{drop-drop}
use Rattle.std.proofs.lemmas.Slice.{between_is}
use Rattle.aes3_cell.specs.Buffering.{followed_by, held}
use Rattle.aes3_cell.proofs.Growing.{grew-is}
use Rattle.aes3_cell.proofs.Buffering.{handed-on}
use Rattle.aes3_cell.proofs.buffered.BufferedSink.drain.Goals as goal

pub loop-self-preserved : goal.loop-self-preserved
loop-self-preserved g c =
    let b = c.loop-self.self in
    let n = c.in_ok-self.field-0 in
    let given = ap (λ s. take (b.end - b.start) (drop b.start s)) c.as_slice.ensures.value
    ∙ between_is b.bytes.items b.start b.end in
    record {
      taken = ap (followed_by (g.T.Sink.taken c.write.new.self)) (sym (drop-drop n b.start (take b.end b.bytes.items)))
          ∙ handed-on _ _ n (held b.start b.end b.bytes.items) c.in_ok-self.ensures.tells
          (grew-is (ap (take n) given) c.in_ok-self.ensures.bytes) ∙ c.loop-self.invariant.taken;
      quiet = c.in_ok-self.ensures.no_failure ∙ c.loop-self.invariant.quiet;
    }
