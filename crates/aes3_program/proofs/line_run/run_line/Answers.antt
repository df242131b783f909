use Rattle.std.proofs.Common.{refl}
use Rattle.aes3_cell.proofs.Growing.{grew-none}
use Rattle.aes3_program.specs.Streams.{moved, streams_of}
use Rattle.aes3_program.proofs.ErrorsToldLemmas.{fault_told, line_told}
use Rattle.aes3_program.proofs.WordLemmas.{words_aside, words_ran}
use Rattle.aes3_program.proofs.line_run.run_line.Goals as goal

pub returns-in-Ok-clause-told : goal.returns-in-Ok-clause-told
returns-in-Ok-clause-told g c =
    let ran = c.run_octets in
    line_told (streams_of g.S.Source c.args.source ran.result.source g.T.Sink c.args.sink ran.result.sink
    g.E.Sink c.args.errors.now ran.new.errors) ran.result.status c.in-Ok.is ran.ensures.ran

pub returns-in-Ok-clause-words : goal.returns-in-Ok-clause-words
returns-in-Ok-clause-words g c =
    let ran = c.run_octets in
    words_ran (streams_of g.S.Source c.args.source ran.result.source g.T.Sink c.args.sink ran.result.sink
    g.E.Sink c.args.errors.now ran.new.errors) ran.result.status c.in-Ok.is ran.ensures.ran

pub returns-in-Ok-clause-words_aside : goal.returns-in-Ok-clause-words_aside
returns-in-Ok-clause-words_aside g c =
    let ran = c.run_octets in
    words_aside g.E.Sink c.args.errors.now ran.new.errors g.O.Observer c.args.observer.now ran.new.observer
    ran.result.status c.in-Ok.is ran.ensures.aside

pub returns-in-Err-clause-told : goal.returns-in-Err-clause-told
returns-in-Err-clause-told g c =
    let told = c.tell_fault-status in
    fault_told (moved g.T.Sink c.args.sink told.new.sink) (moved g.E.Sink c.args.errors.now told.new.errors) told.result
    c.in-Err.is told.ensures.told

pub returns-in-Err-clause-words : goal.returns-in-Err-clause-words
returns-in-Err-clause-words g c =
    let told = c.tell_fault-status in
    words_ran (streams_of g.S.Source c.args.source c.args.source g.T.Sink c.args.sink told.new.sink
    g.E.Sink c.args.errors.now told.new.errors) told.result c.in-Err.is (grew-none refl, refl, told.ensures.told)

pub returns-in-Err-clause-words_aside : goal.returns-in-Err-clause-words_aside
returns-in-Err-clause-words_aside g c =
    let told = c.tell_fault-status in
    words_aside g.E.Sink c.args.errors.now told.new.errors g.O.Observer c.args.observer.now told.new.observer told.result
    c.in-Err.is told.ensures.aside
