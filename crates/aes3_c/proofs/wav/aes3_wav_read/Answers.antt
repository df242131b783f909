use Rattle.std.proofs.Common.{◌≡◌, ◌∙◌, Some, Ok, ap, arith, sym}
use Rattle.aes3_wave.specs.declared.chunk.WaveHeader.{WaveHeader}
use Rattle.aes3_wave.specs.Headers.{Judged}
use Rattle.aes3_c.specs.Wav.{header_in, wav_of}
use Rattle.aes3_c.proofs.WavNumbers.{header-back}
use Rattle.aes3_c.proofs.wav.aes3_wav_read.Goals as goal

pub returns-in-Ok-Some-clause-told : goal.returns-in-Ok-Some-clause-told
returns-in-Ok-Some-clause-told c = λ header j.
    let same : c.in-Ok-Some.header ≡ header
    = given c.in-Ok-Some.header header (ap (λ o. Ok o) (sym c.in-Ok-Some.field-0-is) ∙ c.in-Ok-Some.ensures.judged ∙ j) in
    ap header_in (c.wav_of.ensures ∙ ap wav_of same)
    ∙ header-back c.args.octets.now header (λ i. let fits = c.type_inv.octets i in omega arith) j
  where
    given : (h k : WaveHeader) → ◌≡◌ {A = Judged} (Ok (Some h)) (Ok (Some k)) → h ≡ k
    given h k e = cc
