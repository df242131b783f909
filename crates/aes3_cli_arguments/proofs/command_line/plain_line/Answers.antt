use Rattle.std.proofs.Common.{◌∙◌, ap, subst, map}
use Rattle.std.proofs.lemmas.Result.{IfErr-weaker, IfOk-weaker}
use Rattle.clap.specs.Faults.{fault_of, is_simple_and_free}
use Rattle.clap.specs.Kinds.{HasKind}
use Rattle.clap.specs.Simple.{App}
use Rattle.aes3_cli_arguments.specs.Jobs.{StandsIn, options_of}
use Rattle.aes3_cli_arguments.proofs.Files.{none_read, none_written, some_read, some_written}
use Rattle.aes3_cli_arguments.proofs.LineAnswers.{bad_option_told, command_stands, error_told, line_is_free}
use Rattle.aes3_cli_arguments.proofs.command_line.plain_line.Goals as goal

pub returns-in-Err-clause-fault : goal.returns-in-Err-clause-fault
returns-in-Err-clause-fault c =
    let words = map (λ word. word.now) c.args.words.now in
    let is = c.in_ok-command.ensures.0 in
    let kind = c.in-Err.ensures.kinds (ap is_simple_and_free is ∙ line_is_free) in
    error_told words c.in-Err.error c.fault_of.result
    (subst (λ (a : App). HasKind (fault_of a words) c.in-Err.error) is kind) c.fault_of.ensures

stands : (c : goal.In-Some)
    → StandsIn (map (λ word. word.now) c.args.words.now) c.in-Some.name.now (options_of c.in-Some.options.now)
stands c =
    command_stands _ _ c.in-Ok.matches c.in-Some.name.now (options_of c.in-Some.options.now) c.in_ok-command.ensures.0
    c.in-Ok.ensures.kinds c.in-Ok.ensures.matches c.in-Some.ensures.name c.in-Some.ensures.rows

pub line_of_command-requires : goal.line_of_command-requires
line_of_command-requires c = (map (λ word. word.now) c.args.words.now, stands c)

stood : (c : goal.Joined-matches)
    → StandsIn (map (λ word. word.now) c.args.words.now) c.in-Some.name.now (options_of c.in-Some.options.now)
stood c =
    command_stands _ _ c.in-Ok.matches c.in-Some.name.now (options_of c.in-Some.options.now) c.in_ok-command.ensures.0
    c.in-Ok.ensures.kinds c.in-Ok.ensures.matches c.in-Some.ensures.name c.in-Some.ensures.rows

pub returns-in-Some-clause-job : goal.returns-in-Some-clause-job
returns-in-Some-clause-job c =
    IfOk-weaker c.line_of_command.result _ _
    (λ line asks. (c.in-Some.name.now, options_of c.in-Some.options.now, stood c, asks)) c.line_of_command.ensures.job

pub returns-in-Some-clause-typed : goal.returns-in-Some-clause-typed
returns-in-Some-clause-typed c =
    IfOk-weaker c.line_of_command.result _ _
    (λ line are. (c.in-Some.name.now, options_of c.in-Some.options.now, stood c, are))
    c.line_of_command.ensures.typed

pub returns-in-Some-clause-octets : goal.returns-in-Some-clause-octets
returns-in-Some-clause-octets c =
    IfOk-weaker c.line_of_command.result _ _
    (λ line are. (c.in-Some.name.now, options_of c.in-Some.options.now, stood c, are))
    c.line_of_command.ensures.octets

pub returns-in-Some-clause-file : goal.returns-in-Some-clause-file
returns-in-Some-clause-file c =
    let words = map (λ word. word.now) c.args.words.now in
    IfOk-weaker c.line_of_command.result _ _
    (λ line is. some_read words c.in-Some.name.now (options_of c.in-Some.options.now) line.file (stood c) is)
    c.line_of_command.ensures.file

pub returns-in-Some-clause-standard : goal.returns-in-Some-clause-standard
returns-in-Some-clause-standard c =
    let words = map (λ word. word.now) c.args.words.now in
    IfOk-weaker c.line_of_command.result _ _
    (λ line is. none_read words c.in-Some.name.now (options_of c.in-Some.options.now) line.file (stood c) is)
    c.line_of_command.ensures.file

pub returns-in-Some-clause-output : goal.returns-in-Some-clause-output
returns-in-Some-clause-output c =
    let words = map (λ word. word.now) c.args.words.now in
    IfOk-weaker c.line_of_command.result _ _
    (λ line is. some_written words c.in-Some.name.now (options_of c.in-Some.options.now) line.output (stood c) is)
    c.line_of_command.ensures.output

pub returns-in-Some-clause-standard_output : goal.returns-in-Some-clause-standard_output
returns-in-Some-clause-standard_output c =
    let words = map (λ word. word.now) c.args.words.now in
    IfOk-weaker c.line_of_command.result _ _
    (λ line is. none_written words c.in-Some.name.now (options_of c.in-Some.options.now) line.output (stood c) is)
    c.line_of_command.ensures.output

pub returns-in-Some-clause-fault : goal.returns-in-Some-clause-fault
returns-in-Some-clause-fault c =
    let words = map (λ word. word.now) c.args.words.now in
    IfErr-weaker c.line_of_command.result _ _
    (λ told bad. bad_option_told words c.in-Some.name.now (options_of c.in-Some.options.now) told (stood c) bad)
    c.line_of_command.ensures.fault
