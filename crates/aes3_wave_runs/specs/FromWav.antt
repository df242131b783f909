-- A WAV file as the block file of its samples.
use Rattle.std.specs.Prelude.{ℕ, List, Bool, Option, Some, None, Result, Ok, Err, ◌≡◌, ◌≤◌, ◌+◌, ◌⊎◌, ◌&&◌, true, false}
use Rattle.std.specs.Prelude.{if◌then◌else◌, length, nat_lt, unwrap_or}
use Rattle.aes3_cell.specs.Ends.{Grew}
use Rattle.aes3_cell.specs.declared.counts.Counts.{Counts}
use Rattle.aes3_refusals.specs.declared.run_error.RunError.{RunError}
use Rattle.aes3_input.specs.Running.{Ends, InputRan, Movement, Promise, Quiet}
use Rattle.aes3_status.specs.declared.change.Change.{Change}
use Rattle.aes3_wave.specs.declared.chunk.WaveHeader.{WaveHeader}
use Rattle.aes3_wave.specs.declared.wave_format.WaveFormat.{WaveFormat}
use Rattle.aes3_wave.specs.declared.wave_format.Container.{Container}
use Rattle.aes3_wave.specs.declared.wave_format.Container.TheVariants.{Octets1, Octets2, Octets3, Octets4}
use Rattle.aes3_wave.specs.declared.wave_format.Width.{Width}
use Rattle.aes3_wave.specs.declared.wave_format.Width.TheVariants.{Bits8, Bits16, Bits24, Bits32}
use Rattle.aes3_wave.specs.declared.channels.Channels.{Channels}
use Rattle.aes3_wave.specs.Headers.{judged}
use Rattle.aes3_wave.specs.Samples.{usual_channels}
use Rattle.aes3_wave_runs.specs.declared.wave_error.WaveError.{WaveError}
use Rattle.aes3_wave_runs.specs.declared.wave_error.WaveError.TheVariants.{Header, NoChannel, Run}
use Rattle.aes3_wave_runs.specs.declared.options.Converted.{Converted}
use Rattle.aes3_wave_runs.specs.declared.options.WaveOptions.{WaveOptions}
use Rattle.aes3_wave_runs.specs.Headers.{HeaderRan, IsRefused}
use Rattle.aes3_wave_runs.specs.Status.{status_for}
use Rattle.aes3_wave_runs.specs.Wave.{limit_of, wave_file}

-- the channels that are taken: those that are chosen, or the usual ones
abbrev pub channels_for : WaveOptions → WaveFormat → Channels
channels_for options f = unwrap_or options.channels (usual_channels f options.mono)

-- whether a frame has both
abbrev pub has_second : WaveFormat → Option ℕ → Bool
has_second f None = true
has_second f (Some second) = nat_lt second f.channels

abbrev pub has_channels : WaveFormat → Channels → Bool
has_channels f channels = nat_lt channels.first f.channels && has_second f channels.second

-- a change whose channels begin with the status for the file's format where none is given
abbrev pub change_for : WaveOptions → WaveFormat → Change
change_for options f =
    record options.change {
      status1 = Some (unwrap_or options.change.status1 (status_for options.status_use f));
      status2 = Some (unwrap_or options.change.status2 (status_for options.status_use f));
    }

-- the width of all bits of a sample
abbrev pub full_width : Container → Width
full_width Octets1 = Bits8
full_width Octets2 = Bits16
full_width Octets3 = Bits24
full_width Octets4 = Bits32

-- the header by which samples are read: where they are taken exactly, with all of their bits, and else with those that
-- it says are valid
abbrev pub read_by : Bool → WaveHeader → WaveHeader
read_by exact header =
    record header {
      format = record header.format {
        width = if exact then full_width header.format.container else header.format.width;
      };
    }

-- what is promised of a file with this header
abbrev pub promise_for : WaveOptions → WaveHeader → Promise Counts
promise_for options header =
    wave_file (read_by options.exact header) (channels_for options header.format) options.exact options.words
    (change_for options header.format)

-- the run over a file of octets b that has this header
pub record RanOn (options : WaveOptions) (max : ℕ) (header : WaveHeader) (b : List ℕ) (ends : Ends)
    (result : Result Counts RunError) : Type 0 where
  pub header_is : judged b ≡ Ok (Some header)
  pub ran : InputRan (promise_for options header) (limit_of header max) b ends result

-- nothing was written
abbrev pub Unwritten : Movement → Type 0
Unwritten sink = Quiet sink × (sink.new ≡ sink.old)

-- What a run answers to the octets b of a file:
-- Ok: the header that it has, and what a run over its samples counts
-- a header error: its header is refused, and nothing is written
-- NoChannel: its frames have so many channels, and one that is asked for is none of them; nothing is written
-- a run error: reading its header is refused so and nothing is written, or the run over its samples is
abbrev pub WaveRan : WaveOptions → ℕ → List ℕ → Ends → Result Converted WaveError → Type 0
WaveRan options max b ends (Ok n) = RanOn options max n.header b ends (Ok n.counts)
WaveRan options max b ends (Err (Header e)) =
    IsRefused b ends.ended e × (length b ≤ max) × Quiet ends.source × Unwritten ends.sink
WaveRan options max b ends (Err (NoChannel n)) =
    ((header : WaveHeader) × (judged b ≡ Ok (Some header)) × (n ≡ header.format.channels)
    × (has_channels header.format (channels_for options header.format) ≡ false))
    × Quiet ends.source × Unwritten ends.sink
WaveRan options max b ends (Err (Run e)) =
    (HeaderRan max b ends.ended ends.source (Err (Run e)) × Unwritten ends.sink)
    ⊎ ((header : WaveHeader) × RanOn options max header b ends (Err e))

-- the octets that the source gave, at most one more than max, and what was answered to them
pub record WaveRun (options : WaveOptions) (max : ℕ) (ends : Ends) (result : Result Converted WaveError)
    : Type 0 where
  pub bytes : List ℕ
  pub given : Grew ends.source.old ends.source.new bytes
  pub few : length bytes ≤ max + 1
  pub ran : WaveRan options max bytes ends result
