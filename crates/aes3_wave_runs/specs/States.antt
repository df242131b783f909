-- The input of frames, as a state of its fields.
use Rattle.std.specs.Prelude.{take}
use Rattle.aes3_input.specs.Running.{InputState}
use Rattle.aes3_engine.specs.Sampling.{sampling_state}
use Rattle.aes3_engine.specs.declared.sampling.SampleInput.{SampleInput}
use Rattle.aes3_status.specs.declared.change.Change.{Change}
use Rattle.aes3_wave_runs.specs.declared.wave_state.WaveInput.{WaveInput}
use Rattle.aes3_wave_runs.specs.Wave.{frames_state}

abbrev pub samples_state : SampleInput → Change → InputState
samples_state i change = sampling_state i.format i.exact i.words i.seen i.at i.begun change

abbrev pub state_of : WaveInput → Change → InputState
state_of i change = frames_state i.format i.channels i.len i.left (take i.at i.begun) (samples_state i.samples change)
