-- The numbers of a recovery.
use Rattle.std.specs.Prelude.{ℕ, Option, None, Some, cond, unwrap_or, ◌==◌}
use Rattle.std.specs.Option.{is_some}
use Rattle.aes3_cell.specs.declared.form.Form.{Form}
use Rattle.aes3_cell.specs.declared.form.Form.TheVariants.{Text, Packed}
use Rattle.aes3_capture.specs.Parts.{parts_of}
use Rattle.aes3_capture_recovery.specs.Flags.{flag}
use Rattle.aes3_capture_recovery.specs.declared.queue.CellQueue.{CellQueue}
use Rattle.aes3_capture_recovery.specs.declared.queue.parts.QueueParts.{QueueParts}
use Rattle.aes3_capture_recovery.specs.declared.line_follower.LineFollower.{LineFollower}
use Rattle.aes3_capture_recovery.specs.declared.line_follower.parts.LineParts.{LineParts}
use Rattle.aes3_capture_recovery.specs.declared.recovery.Recovery.{Recovery}
use Rattle.aes3_capture_recovery.specs.declared.recovery.State.{State}
use Rattle.aes3_capture_recovery.specs.declared.recovery.State.TheVariants.{Still, Measuring, Following}
use Rattle.aes3_capture_recovery.specs.declared.recovery.parts.RecoveryParts.{RecoveryParts}

-- the form of cells, and an octet that says it
abbrev pub form_of : ℕ → Form
form_of packed = cond (packed == 0) Text Packed

abbrev pub packed_flag : Form → ℕ
packed_flag Text = 0
packed_flag Packed = 1

abbrev pub queue_parts : CellQueue → QueueParts
queue_parts q = record { words = q.words; count = q.count; word = q.word; len = q.len; packed = packed_flag q.form }

abbrev pub line_parts : LineFollower → LineParts
line_parts l = record {
  follower = parts_of l.follower;
  queue = queue_parts l.queue;
  cells = l.cells;
  run = l.edges.run;
  high = flag l.edges.high;
}

-- how long a cell is, if that is given
abbrev pub known_of : ℕ → ℕ → Option ℕ
known_of is_known known = cond (is_known == 0) None (Some known)

-- the code of a state, and the state of any octet
abbrev pub state_code : State → ℕ
state_code Still = 0
state_code Measuring = 1
state_code Following = 2

abbrev pub state_of : ℕ → State
state_of code = cond (code == 2) Following (cond (code == 1) Measuring Still)

abbrev pub recovery_parts : Recovery → RecoveryParts
recovery_parts r = record {
  line = line_parts r.line;
  figures = r.figures;
  known = unwrap_or r.known 0;
  held = r.held;
  spread = r.spread;
  count = r.count;
  runs = r.runs;
  is_known = flag (is_some r.known);
  found = flag r.found;
  state = state_code r.state;
}
