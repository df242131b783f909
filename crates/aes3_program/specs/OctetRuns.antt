-- What the program does for a job whose octets are laid out in other ways than the job reads and writes them.
use Rattle.std.specs.Prelude.{ℕ, List, [], Bool, true, false, Option, None, IsTrue, map, ◌≡◌, ◌⊎◌, ◌&&◌}
use Rattle.aes3_level.specs.declared.level.Level.{Level}
use Rattle.aes3_cell.specs.Ends.{Grew}
use Rattle.aes3_cell.specs.Packed.{Packs}
use Rattle.aes3_refusals.specs.declared.run_error.RunError.TheVariants.{Read, Write}
use Rattle.aes3_input.specs.Running.{Movement, Quiet, Failed}
use Rattle.aes3_cell_octets.specs.Octets.{PacksReversed, reversed}
use Rattle.aes3_cell_octets.specs.Told.{all_reversed, only, raw_told, reversed_told}
use Rattle.aes3_status.specs.declared.typed_settings.TypedSettings.{TypedSettings}
use Rattle.aes3_cli_jobs.specs.Forms.{reads_packed, writes_packed}
use Rattle.aes3_cli_jobs.specs.declared.job.Job.{Job}
use Rattle.aes3_cli_jobs.specs.declared.wave_refusal.Refusal.TheVariants.{Run}
use Rattle.aes3_cli_arguments.specs.declared.layout.Octets.{Octets}
use Rattle.aes3_program.specs.JobRuns.{IsTold, JobRan, written_whole}
use Rattle.aes3_program.specs.Streams.{Streams}

-- how a source of raw octets moved, as the job reads them: with the octet that counts behind all of them, or without it
-- so far
abbrev pub as_raw : Bool → Movement → Movement
as_raw counted source = record {
  old = source.old;
  new = raw_told counted source.new;
  failed_old = source.failed_old;
  failed_new = source.failed_new;
}

-- how a source moved whose octets have their first cell in the lowest bit, as the job reads them: behind its first
-- octet, which is held back then, if there is one, up to the octet that is held back now, if one is
abbrev pub as_reversed : Option ℕ → Option ℕ → Movement → Movement
as_reversed first held source = record {
  old = reversed_told first source.old;
  new = reversed_told held source.new;
  failed_old = source.failed_old;
  failed_new = source.failed_new;
}

-- how a sink moved as the job wrote to it, where each octet is reversed on the way
abbrev pub written_by : Bool → Movement → Movement
written_by true sink = record {
  old = all_reversed sink.old;
  new = all_reversed sink.new;
  failed_old = sink.failed_old;
  failed_new = sink.failed_new;
}
written_by false sink = sink

-- the same streams, with what the job was told of the source
abbrev pub read_as : Bool → Movement → Streams → Streams
read_as told_end source streams = record streams { ended = told_end; source = source }

-- a run on raw octets: it is one on their packed form. The octet that counts came only once the source had ended, and
-- before the end was told.
pub record RawRan (Ran : Streams → Type 0) (streams : Streams) : Type 0 where
  pub counted : Bool
  pub told_end : Bool
  pub behind_all : IsTrue counted → IsTrue streams.ended
  pub before_end : IsTrue told_end → IsTrue counted
  pub ran : Ran (read_as told_end (as_raw counted streams.source) streams)

-- a job on packed cells with the first of each octet in the lowest bit, of which the first octet was read, if there is
-- one: it is run on the octets reversed, and the last, which counts, as it is. One octet is held back until the source
-- has ended, and none once the job was told the end.
pub record BehindRan (first : Option ℕ) (job : Job) (typed : TypedSettings) (streams : Streams) (status : ℕ) : Type 0 where
  pub held : Option ℕ
  pub told_end : Bool
  pub behind_all : held ≡ None → IsTrue streams.ended
  pub before_end : IsTrue told_end → held ≡ None
  pub ran : JobRan job typed (read_as told_end (as_reversed first held streams.source) streams) status

-- the same from the first octet on
pub record ReversedRan (job : Job) (typed : TypedSettings) (streams : Streams) (status : ℕ) : Type 0 where
  pub first : Option ℕ
  pub begun : Option (List ℕ)
  pub read : Grew streams.source.old begun (only first)
  pub ran : BehindRan first job typed (read_as streams.ended (record streams.source { old = begun }) streams) status

-- that the input can't be read is refused, or that the sink failed at its flush then; nothing is written
pub record ReadRefused (sink errors : Movement) (status : ℕ) : Type 0 where
  pub refused : status ≡ 3
  pub nothing : sink.new ≡ sink.old
  pub told : (Quiet sink × IsTold errors (Run Read)) ⊎ (Failed sink × IsTold errors (Run Write))

-- the source failed at its first octet
pub record FirstFailed (streams : Streams) (status : ℕ) : Type 0 where
  pub failed : Failed streams.source
  pub unread : Grew streams.source.old streams.source.new []
  pub refused : ReadRefused streams.sink streams.errors status

-- a job on packed cells whose octets are reversed, or on input as it is
abbrev pub PackedRan : Bool → Job → TypedSettings → Streams → ℕ → Type 0
PackedRan true job typed streams status = ReversedRan job typed streams status ⊎ FirstFailed streams status
PackedRan false job typed streams status = JobRan job typed streams status

-- a run on octets that are raw, or on input as it is
abbrev pub RawBy : Bool → (Streams → Type 0) → Streams → Type 0
RawBy true Ran streams = RawRan Ran streams
RawBy false Ran streams = Ran streams

-- a job on such octets, whose output is as it writes it
abbrev pub SourceRan : Octets → Job → TypedSettings → Streams → ℕ → Type 0
SourceRan octets job typed streams status =
    RawBy octets.raw_in
    (λ streams. PackedRan (octets.lsb_first && reads_packed job) job typed streams status) streams

-- a job whose octets are laid out so: packed cells are reversed where they are read and where they are written, and
-- nothing else is
abbrev pub OctetsRan : Octets → Job → TypedSettings → Streams → ℕ → Type 0
OctetsRan octets job typed streams status =
    SourceRan octets job typed
    (record streams { sink = written_by (octets.lsb_first && writes_packed job) streams.sink }) status

-- octets that pack cells, and reversed with the last of them pack the same with the first of each octet in the lowest bit
pub record PackBoth (octets : List ℕ) : Type 0 where
  pub cells : List Level
  pub packs : Packs octets cells
  pub reversed : PacksReversed (map reversed octets) cells

-- whatever a job writes as packed cells can be reversed with the last octet: it is whole octets of cells
abbrev pub OutputsCanBeReversed : Type 0
OutputsCanBeReversed =
    (job : Job) → IsTrue (writes_packed job) → (bytes : List ℕ) → PackBoth (written_whole job bytes)
