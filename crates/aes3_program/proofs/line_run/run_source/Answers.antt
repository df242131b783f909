use Rattle.std.proofs.Common.{ap, subst, sym, IsTrue}
use Rattle.aes3_program.specs.OctetRuns.{PackedRan, SourceRan}
use Rattle.aes3_program.specs.Streams.{streams_of}
use Rattle.aes3_program.proofs.RawRuns.{raw-ran, source-raw}
use Rattle.aes3_program.proofs.line_run.run_source.Goals as goal

pub returns-then-octets : goal.returns-then-octets
returns-then-octets g c =
    let job = c.args.job.now in
    let typed = c.args.typed.now in
    let ran = c.run_packed-ran in
    let status = ran.result.status in record {
      ran = subst (λ source. SourceRan c.args.octets job typed (streams_of g.S.Source c.args.source source
          g.T.Sink c.args.sink ran.result.sink g.E.Sink c.args.errors.now ran.new.errors) status)
          (sym c.into_source.ensures.source)
          (source-raw c.args.octets job typed _ status c.if-octets.true c.reverses_input-is_reversed.ensures
          (raw-ran (λ streams. PackedRan c.reverses_input-is_reversed.result job typed streams status) _
          c.new-raw.ensures.uncounted (ap g.S.Source.given c.new-raw.ensures.source)
          (ap g.S.Source.failed c.new-raw.ensures.source)
          (λ h. subst (λ source. IsTrue (g.S.Source.has_ended source)) c.into_source.ensures.source
          (c.into_source.ensures.behind_all h))
          c.into_source.ensures.before_end ran.ensures.ran));
      passed_on = ran.ensures.passed_on;
      aside = ran.ensures.aside;
    }
