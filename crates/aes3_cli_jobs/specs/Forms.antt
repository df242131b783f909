-- What a job reads and writes, and whether it looks for faults.
use Rattle.std.specs.Prelude.{ℕ, Bool, true, false, Option, Some, None}
use Rattle.aes3_cell.specs.declared.form.Form.{Form}
use Rattle.aes3_cell.specs.declared.form.Form.TheVariants.{Text, Packed}
use Rattle.aes3_forms_samples.specs.Formats as formats
use Rattle.aes3_cli_jobs.specs.declared.job.Job.{Job}
use Rattle.aes3_cli_jobs.specs.declared.job.Job.TheVariants.{Encode, Stream, Read, FromPcm, FromWav}
use Rattle.aes3_cli_jobs.specs.declared.work.ReadWork.{ReadWork}
use Rattle.aes3_cli_jobs.specs.declared.work.ReadWork.TheVariants.{Check, Account, Watch, WatchSums, Info}
use Rattle.aes3_cli_jobs.specs.declared.work.ReadWork.TheVariants.{ToWav, ToExactWav, ToFilledWav}
use Rattle.aes3_wave.specs.declared.header_writing.Depth.{Depth}

-- whether it is the packed form
abbrev pub is_packed : Form → Bool
is_packed Text = false
is_packed Packed = true

-- whether the job reads packed cells
abbrev pub reads_packed : Job → Bool
reads_packed (Encode output words) = false
reads_packed (Stream input output work) = is_packed input
reads_packed (Read input work) = is_packed input
reads_packed (FromPcm format exact change words) = false
reads_packed (FromWav channels mono exact professional change words) = false

-- whether the job writes packed cells
abbrev pub writes_packed : Job → Bool
writes_packed (Encode output words) = is_packed output
writes_packed (Stream input output work) = is_packed output
writes_packed (Read input work) = false
writes_packed (FromPcm format exact change words) = false
writes_packed (FromWav channels mono exact professional change words) = false

-- how many bytes of cells in a form make a block: eight cells a byte; none of text, whose line ends don't count
abbrev pub cells_len : Form → Option ℕ
cells_len Text = None
cells_len Packed = Some 3072

-- how many bytes of its input make a block: 384 words of four in a block file, cells, or the samples of a block; of a
-- WAV file its header says that
abbrev pub block_len : Job → Option ℕ
block_len (Encode output words) = Some 1536
block_len (Stream input output work) = cells_len input
block_len (Read input work) = cells_len input
block_len (FromPcm format exact change words) = Some (formats.block_len format)
block_len (FromWav channels mono exact professional change words) = None

-- whether the job looks for faults, so that its exit status is 1 if it finds any
abbrev pub read_finds_faults : ReadWork → Bool
read_finds_faults (Check lines) = true
read_finds_faults (Account lines) = true
read_finds_faults (Watch style) = true
read_finds_faults (WatchSums style every) = true
read_finds_faults (Info notation) = true
read_finds_faults work = false

abbrev pub finds_faults : Job → Bool
finds_faults (Read input work) = read_finds_faults work
finds_faults job = false

-- the width of the samples of the WAV file that it writes, if it writes one
abbrev pub wave_depth : ReadWork → Option Depth
wave_depth (ToWav depth rate valid) = Some depth
wave_depth (ToExactWav depth rate) = Some depth
wave_depth (ToFilledWav depth rate fill marked) = Some depth
wave_depth work = None
