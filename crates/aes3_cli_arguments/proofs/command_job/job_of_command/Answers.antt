use Rattle.std.proofs.Common.{IfErr, IfOk, rules, sym, subst}
use Rattle.aes3_cli_arguments.specs.Jobs.{AsksFor, AsksToRead, IsBadOptionOf, options_of}
use Rattle.aes3_cli_arguments.proofs.CarriedOptions.{bits_stand, channel_stands}
use Rattle.aes3_cli_arguments.proofs.Misuses.{no_unknown_bits}
use Rattle.aes3_cli_arguments.proofs.TakenLines.{numbers_stand}
use Rattle.aes3_cli_arguments.proofs.TakenOptions.{options_taken}
use Rattle.aes3_cli_arguments.proofs.command_job.job_of_command.Goals as goal

pub input_form-input-requires-clause-raw : goal.input_form-input-requires-clause-raw
input_form-input-requires-clause-raw c =
    (options_taken c.requires.stands.0 c.args.name.now (options_of c.args.options.now) c.requires.stands.1).raw_in

pub input_form-input-requires-clause-packed : goal.input_form-input-requires-clause-packed
input_form-input-requires-clause-packed c =
    (options_taken c.requires.stands.0 c.args.name.now (options_of c.args.options.now) c.requires.stands.1).packed_in

pub form-output-requires : goal.form-output-requires
form-output-requires c =
    (options_taken c.requires.stands.0 c.args.name.now (options_of c.args.options.now) c.requires.stands.1).packed_out

pub check-requires-clause-faults : goal.check-requires-clause-faults
check-requires-clause-faults c =
    (options_taken c.requires.stands.0 c.args.name.now (options_of c.args.options.now) c.requires.stands.1).faults

pub check-requires-clause-gaps : goal.check-requires-clause-gaps
check-requires-clause-gaps c =
    (options_taken c.requires.stands.0 c.args.name.now (options_of c.args.options.now) c.requires.stands.1).gaps

pub returns-in-check-clause-job : goal.returns-in-check-clause-job
returns-in-check-clause-job c
    = (c.input_form-input.ensures, subst (λ n. AsksToRead n (options_of c.args.options.now) c.check.result) (sym c.in-check.is) c.check.ensures)

pub watch-requires : goal.watch-requires
watch-requires c =
    options_taken c.requires.stands.0 c.args.name.now (options_of c.args.options.now) c.requires.stands.1

pub returns-in-watch-clause-job : goal.returns-in-watch-clause-job
returns-in-watch-clause-job c
    = (c.input_form-input.ensures, subst (λ n. AsksToRead n (options_of c.args.options.now) c.watch.result) (sym c.in-watch.is) c.watch.ensures)

pub notation-requires : goal.notation-requires
notation-requires c =
    (options_taken c.requires.stands.0 c.args.name.now (options_of c.args.options.now) c.requires.stands.1).json

pub returns-in-info-clause-job : goal.returns-in-info-clause-job
returns-in-info-clause-job c = (c.input_form-input.ensures, (c.in-info.is, search (rules, c.notation.ensures)))

pub show-requires : goal.show-requires
show-requires c =
    options_taken c.requires.stands.0 c.args.name.now (options_of c.args.options.now) c.requires.stands.1

pub returns-in-show-clause-job : goal.returns-in-show-clause-job
returns-in-show-clause-job c
    = (c.input_form-input.ensures, subst (λ n. AsksToRead n (options_of c.args.options.now) c.show.result) (sym c.in-show.is) c.show.ensures)

pub number-requires : goal.number-requires
number-requires c = (numbers_stand c.requires.stands.0 c.args.name.now (options_of c.args.options.now)
    c.requires.stands.1 c.in-cut.is).0

pub number-requires-in-cut : goal.number-requires-in-cut
number-requires-in-cut c = (numbers_stand c.requires.stands.0 c.args.name.now (options_of c.args.options.now)
    c.requires.stands.1 c.in-cut.is).1

pub to_pcm-requires : goal.to_pcm-requires
to_pcm-requires c =
    options_taken c.requires.stands.0 c.args.name.now (options_of c.args.options.now) c.requires.stands.1

pub from_pcm-requires : goal.from_pcm-requires
from_pcm-requires c =
    options_taken c.requires.stands.0 c.args.name.now (options_of c.args.options.now) c.requires.stands.1

pub returns-in-text-2-clause-job : goal.returns-in-text-2-clause-job
returns-in-text-2-clause-job c = subst (λ n. IfOk c.from_pcm.result (AsksFor n (options_of c.args.options.now)))
    (sym c.in-text-2.is) c.from_pcm.ensures.job

pub returns-in-text-2-clause-fault : goal.returns-in-text-2-clause-fault
returns-in-text-2-clause-fault c =
    subst (λ n. IfErr c.from_pcm.result (IsBadOptionOf n (options_of c.args.options.now)))
    (sym c.in-text-2.is) c.from_pcm.ensures.fault

pub rewrite-requires-clause-taken : goal.rewrite-requires-clause-taken
rewrite-requires-clause-taken c =
    options_taken c.requires.stands.0 c.args.name.now (options_of c.args.options.now) c.requires.stands.1

pub returns-in-rewrite-clause-job : goal.returns-in-rewrite-clause-job
returns-in-rewrite-clause-job c = subst (λ n. IfOk c.rewrite.result (AsksFor n (options_of c.args.options.now)))
    (sym c.in-rewrite.is) c.rewrite.ensures.job

pub returns-in-rewrite-clause-fault : goal.returns-in-rewrite-clause-fault
returns-in-rewrite-clause-fault c =
    subst (λ n. IfErr c.rewrite.result (IsBadOptionOf n (options_of c.args.options.now)))
    (sym c.in-rewrite.is) c.rewrite.ensures.fault

pub to_bits-requires-clause-bits : goal.to_bits-requires-clause-bits
to_bits-requires-clause-bits c =
    bits_stand c.requires.stands.0 c.args.name.now (options_of c.args.options.now) c.requires.stands.1 c.in-text-5.is
    (no_unknown_bits (options_of c.args.options.now) c.requires.fit)

pub to_bits-requires-clause-channel : goal.to_bits-requires-clause-channel
to_bits-requires-clause-channel c =
    channel_stands c.requires.stands.0 c.args.name.now (options_of c.args.options.now) c.requires.stands.1
    c.in-text-5.is

pub returns-in-encode-clause-job : goal.returns-in-encode-clause-job
returns-in-encode-clause-job c = (c.in-encode.is, c.form-output.ensures, c.words.ensures)

pub returns-in-decode-clause-job : goal.returns-in-decode-clause-job
returns-in-decode-clause-job c = (c.input_form-input.ensures, (c.in-decode.is, c.words-in-decode.ensures))

pub returns-in-normal-clause-job : goal.returns-in-normal-clause-job
returns-in-normal-clause-job c = (c.input_form-input.ensures, c.form-output.ensures, c.in-normal.is)

pub returns-in-scan-clause-job : goal.returns-in-scan-clause-job
returns-in-scan-clause-job c = (c.input_form-input.ensures, c.in-scan.is)

pub returns-in-text-clause-job : goal.returns-in-text-clause-job
returns-in-text-clause-job c =
    (c.input_form-input.ensures, subst (λ n. AsksToRead n (options_of c.args.options.now) c.to_pcm.result) (sym c.in-text.is) c.to_pcm.ensures)

pub returns-in-cut-clause-job : goal.returns-in-cut-clause-job
returns-in-cut-clause-job c =
    (c.input_form-input.ensures, c.form-output.ensures, (c.in-cut.is, c.number.ensures, c.number-in-cut.ensures))

pub returns-in-text-5-clause-job : goal.returns-in-text-5-clause-job
returns-in-text-5-clause-job c =
    (c.input_form-input.ensures, subst (λ n. AsksToRead n (options_of c.args.options.now) c.to_bits.result) (sym c.in-text-5.is) c.to_bits.ensures)

pub to_wav-requires : goal.to_wav-requires
to_wav-requires c =
    options_taken c.requires.stands.0 c.args.name.now (options_of c.args.options.now) c.requires.stands.1

pub returns-in-text-3-clause-job : goal.returns-in-text-3-clause-job
returns-in-text-3-clause-job c =
    (c.input_form-input.ensures, subst (λ n. AsksToRead n (options_of c.args.options.now) c.to_wav.result) (sym c.in-text-3.is) c.to_wav.ensures)

pub from_wav-requires : goal.from_wav-requires
from_wav-requires c =
    options_taken c.requires.stands.0 c.args.name.now (options_of c.args.options.now) c.requires.stands.1

pub returns-in-text-4-clause-job : goal.returns-in-text-4-clause-job
returns-in-text-4-clause-job c = subst (λ n. IfOk c.from_wav.result (AsksFor n (options_of c.args.options.now)))
    (sym c.in-text-4.is) c.from_wav.ensures.job

pub returns-in-text-4-clause-fault : goal.returns-in-text-4-clause-fault
returns-in-text-4-clause-fault c =
    subst (λ n. IfErr c.from_wav.result (IsBadOptionOf n (options_of c.args.options.now)))
    (sym c.in-text-4.is) c.from_wav.ensures.fault
