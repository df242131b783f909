use Rattle.std.proofs.Common.{sym, ◌∙◌}
use Rattle.std.proofs.lemmas.Result.{err_from_is_err_and}
use Rattle.aes3_wave_runs.proofs.FileRuns.{file-err, file-ok, file-owed, file-written, no-channel, no-header}
use Rattle.aes3_wave_runs.proofs.wave_reading.from_wav.Goals as goal

pub returns-in_err-header-clause-run : goal.returns-in_err-header-clause-run
returns-in_err-header-clause-run g c =
    let error = err_from_is_err_and c.from_residual.result c.from_residual.ensures.1 in
    rw (error.1, error.2) (no-header c.args.options.now c.args.max_bytes
    (g.S.Source.has_ended c.read_header.new.source) _ (g.T.Sink.taken c.args.sink.now)
    (g.T.Sink.failed c.args.sink.now) _ c.in_err-header.ensures.run)

pub returns-in_err-header-clause-owed : goal.returns-in_err-header-clause-owed
returns-in_err-header-clause-owed g c = λ b header t j have i l q k.
    file-owed (returns-in_err-header-clause-run g c) b header t j have i l q k

pub returns-then-not-has_channels-clause-run : goal.returns-then-not-has_channels-clause-run
returns-then-not-has_channels-clause-run g c =
    let none = rw c.channels_for-channels.ensures at (sym c.has_channels.ensures ∙ c.if-not-has_channels.true) in
    no-channel c.args.options.now c.args.max_bytes c.in_ok-header.header (g.S.Source.has_ended c.read_header.new.source) _
    (g.T.Sink.taken c.args.sink.now) (g.T.Sink.failed c.args.sink.now) c.in_ok-header.ensures.run none

pub returns-then-not-has_channels-clause-owed : goal.returns-then-not-has_channels-clause-owed
returns-then-not-has_channels-clause-owed g c = λ b header t j have i l q k.
    file-owed (returns-then-not-has_channels-clause-run g c) b header t j have i l q k

pub returns-in-Ok-clause-run : goal.returns-in-Ok-clause-run
returns-in-Ok-clause-run g c =
    let ran = rw (c.channels_for-channels.ensures, c.change_for-change.ensures, c.read_by.ensures) at c.in-Ok.ensures in
    file-ok c.args.options.now c.args.max_bytes c.in_ok-header.header (g.S.Source.has_ended c.read_header.new.source)
    (g.S.Source.has_ended c.convert_samples.new.source) (g.S.Source.given c.args.source.now)
    (g.S.Source.given c.read_header.new.source) (g.S.Source.given c.convert_samples.new.source)
    (g.S.Source.failed c.args.source.now) (g.S.Source.failed c.read_header.new.source)
    (g.S.Source.failed c.convert_samples.new.source) _ c.in-Ok.counts c.in_ok-header.ensures.run
    ran

pub returns-in-Ok-clause-file : goal.returns-in-Ok-clause-file
returns-in-Ok-clause-file g c = λ b t.
    file-written (returns-in-Ok-clause-run g c) b t

pub returns-in-Err-clause-run : goal.returns-in-Err-clause-run
returns-in-Err-clause-run g c =
    let ran = rw (c.channels_for-channels.ensures, c.change_for-change.ensures, c.read_by.ensures) at c.in-Err.ensures in
    file-err c.args.options.now c.args.max_bytes c.in_ok-header.header (g.S.Source.has_ended c.read_header.new.source)
    (g.S.Source.has_ended c.convert_samples.new.source) (g.S.Source.given c.args.source.now)
    (g.S.Source.given c.read_header.new.source) (g.S.Source.given c.convert_samples.new.source)
    (g.S.Source.failed c.args.source.now) (g.S.Source.failed c.read_header.new.source)
    (g.S.Source.failed c.convert_samples.new.source) _ c.in-Err.error c.in_ok-header.ensures.run
    ran

pub returns-in-Err-clause-owed : goal.returns-in-Err-clause-owed
returns-in-Err-clause-owed g c = λ b header t j have i l q k.
    file-owed (returns-in-Err-clause-run g c) b header t j have i l q k
