use Rattle.std.proofs.Common.{ap, ◌∙◌, arith, rules}
use Rattle.aes3_program.specs.JobRuns.{period}
use Rattle.aes3_program.specs.Outcomes.{of_counts, of_exact, of_exact_wave, of_filled, of_filled_wave}
use Rattle.aes3_program.proofs.Flushes.{read-of, sums-of, told-ran}
use Rattle.aes3_program.proofs.job_run.run_read.Goals as goal

pub returns-in-Decode : goal.returns-in-Decode
returns-in-Decode g c =
    read-of c.args.input c.in-Decode.is (told-ran of_counts c.plain.ensures c.decode_words.ensures.run)

pub returns-in-Check : goal.returns-in-Check
returns-in-Check g c =
    read-of c.args.input c.in-Check.is (told-ran of_counts c.plain-in-Check.ensures c.check.ensures.run)

pub returns-in-Account : goal.returns-in-Account
returns-in-Account g c =
    read-of c.args.input c.in-Account.is (told-ran of_counts c.plain-in-Account.ensures c.account.ensures.run)

pub returns-in-Watch : goal.returns-in-Watch
returns-in-Watch g c =
    read-of c.args.input c.in-Watch.is (told-ran of_counts c.plain-in-Watch.ensures c.watch.ensures.run)

pub returns-in-Info : goal.returns-in-Info
returns-in-Info g c =
    read-of c.args.input c.in-Info.is (told-ran of_counts c.plain-in-Info.ensures c.info.ensures.run)

pub returns-in-Show : goal.returns-in-Show
returns-in-Show g c =
    read-of c.args.input c.in-Show.is (told-ran of_counts c.plain-in-Show.ensures c.show_detail.ensures.run)

pub returns-in-ShowChanges : goal.returns-in-ShowChanges
returns-in-ShowChanges g c =
    read-of c.args.input c.in-ShowChanges.is (told-ran of_counts c.plain-in-ShowChanges.ensures c.show_changes.ensures.run)

pub returns-in-Scan : goal.returns-in-Scan
returns-in-Scan g c =
    read-of c.args.input c.in-Scan.is (told-ran of_counts c.plain-in-Scan.ensures c.scan.ensures.run)

pub returns-in-ToExactPcm : goal.returns-in-ToExactPcm
returns-in-ToExactPcm g c =
    read-of c.args.input c.in-ToExactPcm.is (told-ran of_exact c.exact.ensures c.to_exact_pcm.ensures.run)

pub returns-in-ToFilledPcm : goal.returns-in-ToFilledPcm
returns-in-ToFilledPcm g c =
    read-of c.args.input c.in-ToFilledPcm.is (told-ran of_filled c.outcome_of_fill.ensures c.to_filled_pcm.ensures.run)

pub returns-in-ToWav : goal.returns-in-ToWav
returns-in-ToWav g c =
    read-of c.args.input c.in-ToWav.is (search (rules, c.run_wave.ensures))

pub returns-in-ToExactWav : goal.returns-in-ToExactWav
returns-in-ToExactWav g c =
    read-of c.args.input c.in-ToExactWav.is
    (told-ran (of_exact_wave c.in-ToExactWav.rate) c.outcome_of_exact_wave.ensures c.to_exact_wav.ensures.run)

pub returns-in-ToFilledWav : goal.returns-in-ToFilledWav
returns-in-ToFilledWav g c =
    read-of c.args.input c.in-ToFilledWav.is
    (told-ran (of_filled_wave c.in-ToFilledWav.rate) c.outcome_of_filled_wave.ensures c.to_filled_wav.ensures.run)

pub returns-in-ToBits : goal.returns-in-ToBits
returns-in-ToBits g c =
    read-of c.args.input c.in-ToBits.is (told-ran of_counts c.plain-in-ToBits.ensures c.to_bits.ensures.run)

pub returns-in-ToPcm : goal.returns-in-ToPcm
returns-in-ToPcm g c =
    read-of c.args.input c.in-ToPcm.is (search (rules, c.run_samples.ensures))

pub returns-in-WatchSums : goal.returns-in-WatchSums
returns-in-WatchSums g c =
    read-of c.args.input c.in-WatchSums.is
    (told-ran of_counts c.plain-in-WatchSums.ensures (sums-of c.args.input c.in-WatchSums.style
    c.in-WatchSums.every c.period.result (c.period.ensures.period ∙ ap period (omega arith)) c.watch_sums.ensures.run))
