use Rattle.std.proofs.Common.{◌∙◌, ap, ap₂, arith}
use Rattle.aes3_info.specs.declared.samples.SampleFacts.{SampleFacts}
use Rattle.aes3_info.specs.Pages.{full_energy}
use Rattle.aes3_c.specs.Codes.{channel_of}
use Rattle.aes3_c.specs.Levels.{kept_levels, level_number, samples_in}
use Rattle.aes3_c.proofs.SampleLevels.{whole-count}
use Rattle.aes3_c.proofs.audio_level_calls.aes3_levels_rms.Goals as goal

pub returns-clause-page : goal.returns-clause-page
returns-clause-page c = λ _ r h.
    c.number_of.ensures
    ∙ ap₂ level_number
    (ap (λ (s : SampleFacts). s.energy)
    (c.samples_of_channel-samples.ensures
    ∙ ap (λ k. samples_in (kept_levels c.args.levels.now k)) c.channel_of_number.ensures
    ∙ h.samples_is (channel_of c.args.channel)))
    (c.full_energy.ensures ∙ ap full_energy (omega (arith, h.blocks_is, whole-count r)))
