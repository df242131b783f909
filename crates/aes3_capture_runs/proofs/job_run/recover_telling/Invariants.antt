use Rattle.std.proofs.Common.{◌≡◌, None, Ok}
use Rattle.aes3_capture_recovery.specs.Reading.{ReadSamples}
use Rattle.aes3_capture_recovery.specs.declared.recovery_run.Progress.TheVariants.{Paused}
use Rattle.aes3_capture_runs.specs.Runs.{LinesTold}
use Rattle.aes3_capture_runs.proofs.job_run.recover_telling.Given as goal

abbrev pub invariant-tells : goal.invariant-tells
invariant-tells g l = record {
  source : g.S.Source.failed l.source ≡ g.S.Source.failed l.fn.source;
  sink : g.T.Sink.failed l.sink ≡ g.T.Sink.failed l.fn.sink;
  messages : g.E.Sink.failed l.messages ≡ g.E.Sink.failed l.fn.messages;
  passed : g.T.Sink.passed l.fn.sink ≡ g.T.Sink.taken l.fn.sink → g.T.Sink.passed l.sink ≡ g.T.Sink.taken l.sink;
  messages_passed_on : g.E.Sink.passed l.fn.messages ≡ g.E.Sink.taken l.fn.messages
      → g.E.Sink.passed l.messages ≡ g.E.Sink.taken l.messages;
  asked : l.fn.job.tell_each ≡ None → l.until ≡ None;
  text : LinesTold l.fn.job.rate l.fn.job.tell_each (g.E.Sink.taken l.fn.messages) (g.E.Sink.taken l.messages);
  read : ReadSamples l.fn.unit (g.S.Source.given l.fn.source) (g.S.Source.given l.source) (g.S.Source.has_ended l.source)
      g.T.Sink.taken l.fn.recovery l.recovery l.fn.sink l.sink (Ok Paused);
}
