-- The header of a WAV file, read from a source.
use Rattle.std.specs.Prelude.{ℕ, List, Bool, IsTrue, Some, None, Result, Ok, Err, ◌≡◌, ◌≤◌, ◌+◌, length, take}
use Rattle.aes3_cell.specs.Ends.{Grew}
use Rattle.aes3_refusals.specs.declared.run_error.RunError.TheVariants.{Read, TooLong}
use Rattle.aes3_input.specs.Running.{Failed, Movement, Quiet}
use Rattle.aes3_wave.specs.declared.chunk.WaveHeader.{WaveHeader}
use Rattle.aes3_wave.specs.declared.header_error.HeaderError.{HeaderError}
use Rattle.aes3_wave.specs.Headers.{judged, judged_at_end}
use Rattle.aes3_wave_runs.specs.declared.wave_error.WaveError.{WaveError}
use Rattle.aes3_wave_runs.specs.declared.wave_error.WaveError.TheVariants.{Header, Run}

-- the octets b have a header that is refused: by themselves, or because the source has ended behind them
pub record IsRefused (b : List ℕ) (ended : Bool) (e : HeaderError) : Type 0 where
  pub says : judged_at_end b ≡ Err e
  pub end : judged b ≡ Ok None → IsTrue ended

-- What reading a header answers, of at most max octets:
-- Ok: the octets that were read are exactly that header
-- a header error: they are refused
-- Read: no header is whole yet, and the source failed, once
-- TooLong: none is whole in the octets up to the limit, and one more has come
abbrev pub HeaderRan : ℕ → List ℕ → Bool → Movement → Result WaveHeader WaveError → Type 0
HeaderRan max b ended source (Ok header) =
    (judged b ≡ Ok (Some header)) × (length b ≡ header.start) × (length b ≤ max) × Quiet source
HeaderRan max b ended source (Err (Header e)) = IsRefused b ended e × (length b ≤ max) × Quiet source
HeaderRan max b ended source (Err (Run Read)) = (judged b ≡ Ok None) × (length b ≤ max) × Failed source
HeaderRan max b ended source (Err (Run TooLong)) =
    (judged (take max b) ≡ Ok None) × (length b ≡ max + 1) × Quiet source
HeaderRan max b ended source (Err e) = ⊥

-- the octets that the source gave, and what was answered to them
pub record HeaderRun (max : ℕ) (ended : Bool) (source : Movement) (result : Result WaveHeader WaveError) : Type 0 where
  pub bytes : List ℕ
  pub given : Grew source.old source.new bytes
  pub ran : HeaderRan max bytes ended source result
