-- The lines of preambles.
use Rattle.std.specs.Prelude.{ℕ, List, [], ◌∷◌, ◌++◌, length, drop, ◌≡◌}
use Rattle.aes3_level.specs.declared.level.Level.{Level}
use Rattle.aes3_cell.specs.declared.form.Form.{Form}
use Rattle.aes3_cell.specs.declared.counts.Counts.{Counts}
use Rattle.aes3_slot.specs.declared.mark.Mark.{Mark}
use Rattle.aes3_lock.specs.Preambles.{marks}
use Rattle.aes3_lock.specs.Following.{ScanState, ScanFollows}
use Rattle.aes3_input.specs.Taking.{TakerState, Writing}
use Rattle.aes3_input.specs.Inputs.{cells_of}
use Rattle.aes3_text_lines.specs.MarkLines.{mark_lines}

-- what a run counts that tells preambles
unfoldable pub scan_counts : Form → List ℕ → Counts
scan_counts form b = record {
  bytes = length b;
  cells = length (cells_of form b);
  blocks = 0;
  faults = 0;
  unfinished = 0;
  marks = length (marks (cells_of form b));
}

-- the preambles that one more cell ends, and a taker that writes their lines
abbrev pub marks_by : List Level → Level → List (ℕ × Mark × Level)
marks_by c l = drop (length (marks c)) (marks (c ++ l ∷ []))

unfoldable pub marking : Writing Level
marking = record { adds = λ c l. mark_lines (marks_by c l); ends = λ c. [] }

-- a scan that has taken the cells c, with the number of its preambles
pub record Scanned (scan : ScanState) (count : ℕ) (c : List Level) : Type 0 where
  pub follows : ScanFollows scan c
  pub count_is : count ≡ length (marks c)

-- a taker of these, with the lines that it holds
abbrev pub mark_state : List ℕ → ScanState → ℕ → TakerState Level
mark_state lines scan count = record {
  writes = marking;
  follows = λ c. (lines ≡ []) × Scanned scan count c;
  finished = Scanned scan count;
}
