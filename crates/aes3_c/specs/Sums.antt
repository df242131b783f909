-- What C keeps of a line whose sums are told, and is told of its sums.
use Rattle.std.specs.Prelude.{ℕ, List, ◌∷◌, ◌++◌, length, map, ◌≡◌, ◌+◌, ◌-◌, ◌*◌, ◌<◌, ◌≤◌, ◌^◌}
use Rattle.aes3_level.specs.declared.level.Level.{Level}
use Rattle.aes3_lock.specs.declared.report.Report.{Report}
use Rattle.aes3_lock.specs.Remains.{place_of}
use Rattle.aes3_lock.specs.Reports.{reports}
use Rattle.aes3_text_lines.specs.declared.sum.Figures.{Figures}
use Rattle.aes3_text_lines.specs.declared.sum.Sum.{Sum}
use Rattle.aes3_watch.specs.declared.period.Period.{Period}
use Rattle.aes3_watch.specs.declared.summed.Summed.{Summed}
use Rattle.aes3_watch.specs.Sums.{behind_sums, begun_notices, on_to, periods, periods_told, sums_from, sums_in}
use Rattle.aes3_watch.specs.Sums.{summed_by, unsummed, with_period}
use Rattle.aes3_c.specs.Watches.{uncounted, watched_in}
use Rattle.aes3_c.specs.declared.sum_calls.Aes3Sum.{Aes3Sum}
use Rattle.aes3_c.specs.declared.sum_calls.Aes3Sums.{Aes3Sums}

-- the counts that these numbers keep, the open period, and the line: all but how often cells were told as lost, or a
-- block as slipped
abbrev pub figures_in : Aes3Sum → Figures
figures_in n = record {
  whole = n.whole;
  marked = n.marked;
  fault = n.fault;
  preamble = n.preamble;
  biphase = n.biphase;
  unclosed = n.unclosed;
  lost = n.lost;
  invalid_first = n.invalid_first;
  invalid_second = n.invalid_second;
  changes = n.changes;
}

abbrev pub period_in : Aes3Sums → Period
period_in k = record { from = k.current.from; place = k.place; figures = figures_in k.current }

abbrev pub summed_in : Aes3Sums → Summed
summed_in k = with_period (watched_in k.watch) (period_in k)

abbrev pub uncounted_sum : Summed → Summed
uncounted_sum u = summed_by (uncounted u.watched) u.from u.place u.figures

-- the numbers of a sum
abbrev pub sum_numbers : Sum → Aes3Sum
sum_numbers s = record {
  from = s.from;
  to = s.to;
  whole = s.figures.whole;
  marked = s.figures.marked;
  fault = s.figures.fault;
  preamble = s.figures.preamble;
  biphase = s.figures.biphase;
  unclosed = s.figures.unclosed;
  lost = s.figures.lost;
  invalid_first = s.figures.invalid_first;
  invalid_second = s.figures.invalid_second;
  changes = s.figures.changes;
}

-- the sum of the open period, where it ends: the one among those that period_told tells
abbrev pub period_sum : ℕ → Summed → Sum
period_sum every u =
    record { from = u.from; to = u.from + every; figures = (on_to u (u.from + every)).figures }

-- A line whose sums are told, of whose cells c the reports r were given, the first ones. Some periods ended behind the
-- last of them, at the next report or before, and within the cells. What was put are the numbers of the sums that stand
-- among what is told of those reports and of the ends of these periods.
pub record HasSummed (every : ℕ) (k : Aes3Sums) (c : List Level) (r : List Report) (put : List Aes3Sum) : Type 0 where
  pub some : 0 < every
  pub few : length c ≤ 2 ^ 43
  pub every_is : k.every ≡ every
  pub more : List Report
  pub begins : reports c ≡ r ++ more
  pub ended : ℕ
  pub within : every * ended ≤ length c - (behind_sums every unsummed r).from
  pub later : (x : Report) (rest : List Report) → more ≡ x ∷ rest
      → every * ended ≤ place_of x - (behind_sums every unsummed r).from
  pub state_is : summed_in k ≡ uncounted_sum (periods every ended (behind_sums every unsummed r))
  pub put_is : put ≡ map sum_numbers (sums_in (sums_from every unsummed r
      ++ periods_told every ended (behind_sums every unsummed r)))

-- the numbers of all sums that stand whatever cells follow these are among those put
abbrev pub HasBegunSums : ℕ → List Level → List Aes3Sum → Type 0
HasBegunSums every c put = (more : List Sum) × (put ≡ map sum_numbers (sums_in (begun_notices every c) ++ more))
