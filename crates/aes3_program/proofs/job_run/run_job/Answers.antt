use Rattle.aes3_program.specs.Outcomes.{of_samples, of_words}
use Rattle.aes3_program.proofs.Flushes.{answered-of, told-ran, wave-of}
use Rattle.aes3_program.proofs.job_run.run_job.Goals as goal

pub returns-in-Encode : goal.returns-in-Encode
returns-in-Encode g c =
    answered-of _ _ c.in-Encode.is
    (c.outcome_of_words.result, told-ran of_words c.outcome_of_words.ensures c.encode_words.ensures.run, c.of_run.ensures)

pub returns-in-Stream : goal.returns-in-Stream
returns-in-Stream g c =
    answered-of _ _ c.in-Stream.is (c.run_stream.result, c.run_stream.ensures, c.of_run-in-Stream.ensures)

pub returns-in-Read : goal.returns-in-Read
returns-in-Read g c =
    answered-of _ _ c.in-Read.is (c.run_read.result, c.run_read.ensures, c.of_run-in-Read.ensures)

pub returns-in-FromPcm : goal.returns-in-FromPcm
returns-in-FromPcm g c =
    answered-of _ _ c.in-FromPcm.is
    (c.outcome_of_samples.result, told-ran (of_samples c.in-FromPcm.change) c.outcome_of_samples.ensures c.from_pcm_words.ensures.run, c.of_run-in-FromPcm.ensures)

pub returns-in-FromWav : goal.returns-in-FromWav
returns-in-FromWav g c =
    answered-of _ _ c.in-FromWav.is
    (wave-of c.in-FromWav.channels c.in-FromWav.mono c.in-FromWav.exact c.in-FromWav.professional c.in-FromWav.change
    c.in-FromWav.words c.status_use.result c.status_use.ensures
    (c.from_wav.result, c.from_wav.ensures.run, c.of_file.ensures))
