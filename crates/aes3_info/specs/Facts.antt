-- What the page of a recording tells of its cells: reports, gaps and samples counted.
use Rattle.std.specs.Prelude.{ℕ, List, [], ◌∷◌, Bool, Option, Some, None, length, map, min, max, nat_lt, take}
use Rattle.std.specs.Prelude.{◌+◌, ◌*◌, ◌-◌, ◌^◌, if◌then◌else◌}
use Rattle.std.specs.List.{flat_map, sum_by}
use Rattle.std.specs.Str.{bytes_eq}
use Rattle.aes3_level.specs.declared.level.Level.{Level}
use Rattle.aes3_bits.specs.Bits.{number}
use Rattle.aes3_frame.specs.declared.block.Channel.{Channel}
use Rattle.aes3_frame.specs.declared.block.Channel.TheVariants.{First, Second}
use Rattle.aes3_frame.specs.Statuses.{of_channel, status_of, validity_of}
use Rattle.aes3_frame.specs.Subframes.{audio_len}
use Rattle.aes3_lock.specs.declared.report.Report.{Report}
use Rattle.aes3_lock.specs.declared.report.Report.TheVariants.{Whole, Marked, Fault, Unfinished}
use Rattle.aes3_lock.specs.Reports.{reports, wholes}
use Rattle.aes3_lock_gaps.specs.Gaps.{Entry, reported, lost, cut, account}
use Rattle.aes3_watch.specs.Sums.{is_biphase as by_biphase, is_preamble as by_preamble, is_unclosed as by_unclosed}
use Rattle.aes3_frame.specs.Ones.{ones_in}
use Rattle.aes3_info.specs.declared.reports.ReportFacts.{ReportFacts}
use Rattle.aes3_info.specs.declared.gaps.GapFacts.{GapFacts}
use Rattle.aes3_info.specs.declared.samples.SampleFacts.{SampleFacts}
use Rattle.aes3_info.specs.declared.channel_facts.ChannelFacts.{ChannelFacts}
use Rattle.aes3_info.specs.declared.facts.Facts.{Facts}

-- the greatest count of 64 bits, and the greatest sum of 128; what is counted stays there
unfoldable pub most_count : ℕ
most_count = 2 ^ 64 - 1

unfoldable pub most_energy : ℕ
most_energy = 2 ^ 128 - 1

-- the sum of what f gives of each of some things, `most` at most
unfoldable pub total : {A : Type 0} → ℕ → (A → ℕ) → List A → ℕ
total most f xs = min (sum_by f xs) most

-- whether a report is of a whole block, of one with wrong parity bits, a fault, a fault of each cause, or of a block
-- that the end cuts, as a number
abbrev pub is_whole : Report → ℕ
is_whole (Whole at s b) = 1
is_whole (Marked at s wrong) = 0
is_whole (Fault at cell why) = 0
is_whole (Unfinished at cells) = 0

abbrev pub is_marked : Report → ℕ
is_marked (Whole at s b) = 0
is_marked (Marked at s wrong) = 1
is_marked (Fault at cell why) = 0
is_marked (Unfinished at cells) = 0

abbrev pub is_fault : Report → ℕ
is_fault (Whole at s b) = 0
is_fault (Marked at s wrong) = 0
is_fault (Fault at cell why) = 1
is_fault (Unfinished at cells) = 0

abbrev pub is_preamble : Report → ℕ
is_preamble (Whole at s b) = 0
is_preamble (Marked at s wrong) = 0
is_preamble (Fault at cell why) = by_preamble why
is_preamble (Unfinished at cells) = 0

abbrev pub is_biphase : Report → ℕ
is_biphase (Whole at s b) = 0
is_biphase (Marked at s wrong) = 0
is_biphase (Fault at cell why) = by_biphase why
is_biphase (Unfinished at cells) = 0

abbrev pub is_unclosed : Report → ℕ
is_unclosed (Whole at s b) = 0
is_unclosed (Marked at s wrong) = 0
is_unclosed (Fault at cell why) = by_unclosed why
is_unclosed (Unfinished at cells) = 0

abbrev pub is_unfinished : Report → ℕ
is_unfinished (Whole at s b) = 0
is_unfinished (Marked at s wrong) = 0
is_unfinished (Fault at cell why) = 0
is_unfinished (Unfinished at cells) = 1

-- more of what is counted
unfoldable pub more : ℕ → ℕ → ℕ
more n k = min (n + k) most_count

unfoldable pub more_energy : ℕ → ℕ → ℕ
more_energy n k = min (n + k) most_energy

-- reports by their kinds, and with one more
abbrev pub report_facts : List Report → ReportFacts
report_facts r = record {
  whole = total most_count is_whole r;
  marked = total most_count is_marked r;
  fault = total most_count is_fault r;
  preamble = total most_count is_preamble r;
  biphase = total most_count is_biphase r;
  unclosed = total most_count is_unclosed r;
  unfinished = total most_count is_unfinished r;
}

abbrev pub with_report : ReportFacts → Report → ReportFacts
with_report f x = record {
  whole = more f.whole (is_whole x);
  marked = more f.marked (is_marked x);
  fault = more f.fault (is_fault x);
  preamble = more f.preamble (is_preamble x);
  biphase = more f.biphase (is_biphase x);
  unclosed = more f.unclosed (is_unclosed x);
  unfinished = more f.unfinished (is_unfinished x);
}

-- whether an entry of an account is a gap that counts, as a number; how many cells it has; and how many has a gap
-- where the input is cut
abbrev pub is_gap : Entry → ℕ
is_gap (reported x) = 0
is_gap (lost at cells) = 1
is_gap (cut at cells) = 0

abbrev pub lost_cells : Entry → ℕ
lost_cells (reported x) = 0
lost_cells (lost at cells) = cells
lost_cells (cut at cells) = 0

abbrev pub cut_cells : Entry → ℕ
cut_cells (reported x) = 0
cut_cells (lost at cells) = 0
cut_cells (cut at cells) = cells

-- the gaps of an account, and those of two
abbrev pub gap_facts : List Entry → GapFacts
gap_facts e = record {
  gaps = total most_count is_gap e;
  lost = total most_count lost_cells e;
  cut = total most_count cut_cells e;
}

abbrev pub both_gaps : GapFacts → GapFacts → GapFacts
both_gaps f g = record { gaps = more f.gaps g.gaps; lost = more f.lost g.lost; cut = more f.cut g.cut }

-- the magnitude of the sample of 24 bits that a payload carries, and those of a channel of a block
abbrev pub magnitude_of : ℕ → ℕ
magnitude_of n = if nat_lt n (2 ^ 23) then n else 2 ^ 24 - n

unfoldable pub magnitude : List Bool → ℕ
magnitude p = magnitude_of (number (take audio_len p))

unfoldable pub magnitudes : Channel → List (List Bool) → List ℕ
magnitudes channel b = map magnitude (of_channel channel b)

-- those of blocks, one behind the other
abbrev pub all_magnitudes : Channel → List (List (List Bool)) → List ℕ
all_magnitudes channel bs = flat_map (magnitudes channel) bs

abbrev pub square : ℕ → ℕ
square m = m * m

abbrev pub greatest : List ℕ → ℕ
greatest [] = 0
greatest (m ∷ ms) = max m (greatest ms)

-- the samples of a channel of blocks, and those with the samples of one more
abbrev pub sample_facts : Channel → List (List (List Bool)) → SampleFacts
sample_facts channel bs = record {
  greatest = greatest (all_magnitudes channel bs);
  energy = total most_energy square (all_magnitudes channel bs);
}

abbrev pub with_samples : SampleFacts → Channel → List (List Bool) → SampleFacts
with_samples f channel b = record {
  greatest = max f.greatest (greatest (magnitudes channel b));
  energy = more_energy f.energy (sum_by square (magnitudes channel b));
}

-- how many validity bits of a channel of a block are 1
abbrev pub invalid_in : Channel → List (List Bool) → ℕ
invalid_in channel b = ones_in (validity_of b channel)

-- the statuses of a channel of blocks; the first and the last of them, if there are any; and how many of them are not
-- the one before
abbrev pub statuses : Channel → List (List (List Bool)) → List (List ℕ)
statuses channel bs = map (λ b. status_of b channel) bs

abbrev pub first_of : List (List ℕ) → Option (List ℕ)
first_of [] = None
first_of (s ∷ ss) = Some s

abbrev pub last_of : Option (List ℕ) → List (List ℕ) → Option (List ℕ)
last_of before [] = before
last_of before (s ∷ ss) = last_of (Some s) ss

abbrev pub differs : Option (List ℕ) → List ℕ → ℕ
differs None s = 0
differs (Some t) s = if bytes_eq t s then 0 else 1

abbrev pub changes_behind : Option (List ℕ) → List (List ℕ) → ℕ
changes_behind before [] = 0
changes_behind before (s ∷ ss) = differs before s + changes_behind (Some s) ss

-- a channel of blocks, and of one more
abbrev pub channel_facts : Channel → List (List (List Bool)) → ChannelFacts
channel_facts channel bs = record {
  first = first_of (statuses channel bs);
  latest = last_of None (statuses channel bs);
  changes = min (changes_behind None (statuses channel bs)) most_count;
  invalid = total most_count (invalid_in channel) bs;
  samples = sample_facts channel bs;
}

abbrev pub first_with : Option (List ℕ) → List ℕ → Option (List ℕ)
first_with None s = Some s
first_with (Some t) s = Some t

abbrev pub with_block : ChannelFacts → Channel → List (List Bool) → ChannelFacts
with_block f channel b = record {
  first = first_with f.first (status_of b channel);
  latest = Some (status_of b channel);
  changes = more f.changes (differs f.latest (status_of b channel));
  invalid = more f.invalid (invalid_in channel b);
  samples = with_samples f.samples channel b;
}

-- what is known of n cells with these reports, in this account
abbrev pub facts_with : ℕ → List Report → List Entry → Facts
facts_with n r e = record {
  cells = n;
  reports = report_facts r;
  gaps = gap_facts e;
  first = channel_facts First (wholes r);
  second = channel_facts Second (wholes r);
}

-- and of all cells
unfoldable pub facts_of : List Level → Facts
facts_of c = facts_with (length c) (reports c) (account c)
