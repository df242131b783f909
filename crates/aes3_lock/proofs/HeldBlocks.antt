-- What a lock holds of the block of an ending.
use Rattle.std.proofs.Common.{◌≡◌, ℕ, ◌+◌, ◌-◌, ◌/◌, ◌^◌, ◌<◌, ◌≤◌, ◌⊎◌, inl, inr, Bool, List, [], ◌∷◌, ◌++◌, Option}
use Rattle.std.proofs.Common.{Some, None, length, drop, ap, ◌∙◌, sym, subst, arith, append-nil, lt-ltb}
use Rattle.std.proofs.lemmas.Bool.{cases_lt}
use Rattle.std.proofs.lemmas.List.{drop-append-le}
use Rattle.aes3_level.specs.declared.level.Level.{Level}
use Rattle.aes3_level.specs.Words.{low_cells}
use Rattle.aes3_slot.specs.Reading.{read_slots}
use Rattle.aes3_slot.specs.ReadWords.{read_words}
use Rattle.aes3_frame.specs.Blocks.{block_subframes, block_len}
use Rattle.aes3_lock.specs.declared.candidate.Candidate.{Candidate}
use Rattle.aes3_lock.specs.declared.report.Ending.{Ending}
use Rattle.aes3_lock.specs.declared.report.Ending.TheVariants.{Whole, Marked, Fault, Unfinished}
use Rattle.aes3_lock.specs.declared.report.Report.{Report}
use Rattle.aes3_lock.specs.declared.report.Report.TheVariants.{Fault as Refuted, Unfinished as Cut}
use Rattle.aes3_lock.specs.declared.report.Why.{Why}
use Rattle.aes3_lock.specs.Following.{LockState, Follows, HeldBlock}
use Rattle.aes3_lock.specs.Remains.{place_of}
use Rattle.aes3_lock.specs.Reports.{ending_report, report_of}
use Rattle.aes3_lock.specs.Steps.{ended, left}
use Rattle.aes3_lock.proofs.Deciding.{block_len_64, read_slots-append}
use Rattle.aes3_lock.proofs.Following.{hand, offset}
use Rattle.aes3_lock.proofs.Gathering.{words-whole}
use Rattle.aes3_lock.proofs.PushedWords.{parts}
use Rattle.aes3_lock.proofs.ReportPlaces.{place-report}

-- no ending, and one of no block
pub none-held : (words : List ℕ) (c : List Level) (o : Option Ending) → o ≡ None → HeldBlock words c o
none-held words c o e = subst (HeldBlock words c) (sym e) tt

pub fault-held : (words : List ℕ) (c : List Level) (o : Option Ending) (at cell : ℕ) (why : Why)
    → o ≡ Some (Fault at cell why) → HeldBlock words c o
fault-held words c o at cell why e = subst (HeldBlock words c) (sym e) tt

-- of some more cells of a word
pub more-held : (words : List ℕ) (c : List Level) (a b w : ℕ) (o : Option Ending)
    → HeldBlock words ((c ++ low_cells a w) ++ low_cells b (w / 2 ^ a)) o
    → HeldBlock words (c ++ low_cells (a + b) w) o
more-held words c a b w o h = subst (λ v. HeldBlock words v o) (parts c a b w) h

-- the candidate in hand, where a block's cells have come of it
module _ (k : LockState) (t : Candidate) (c : List Level) (f : Follows k c) (n : length k.words ≡ block_subframes)
    (s : k.candidate ≡ Some t) where
  held : (d : List Level) (at : ℕ) → at ≡ t.at → block_len ≤ k.seen - t.at
      → read_words k.words ≡ read_slots block_subframes (drop at (c ++ d))
  held d at e h =
      let o = offset k t c f s in
      let w = (hand k t c f s).within in
      let l = block_len_64 in
      words-whole k.words (drop t.at c) n (omega (arith, o, h)) (hand k t c f s).gathered.whole
      ∙ sym (read_slots-append block_subframes (drop t.at c) d (omega (arith, o, l, h)))
      ∙ ap (read_slots block_subframes) (sym (drop-append-le t.at c d (omega (arith, w))))
      ∙ ap (λ p. read_slots block_subframes (drop p (c ++ d))) (sym e)

  abbrev reading : List (List Bool)
  reading = read_words k.words

  -- a cell ends it
  late : (x : Report) (equal : Bool) → ((p o : ℕ) (why : Why) → x ≡ Refuted p o why → ⊥)
      → x ≡ report_of t.at (ended t.before (k.seen - t.at) equal reading) → block_len ≤ k.seen - t.at
  late x equal none q = go (cases_lt (k.seen - t.at) block_len)
    where
      go : (k.seen - t.at < block_len) ⊎ (block_len ≤ k.seen - t.at) → block_len ≤ k.seen - t.at
      go (inl g) = let z = lt-ltb (k.seen - t.at) block_len g in absurd (none _ _ _ (rw z at q))
      go (inr g) = g

  pub held-last : (l : Level) (e : Ending) (equal : Bool)
      → ending_report reading e ≡ report_of t.at (ended t.before (k.seen - t.at) equal reading)
      → HeldBlock k.words (c ++ l ∷ []) (Some e)
  held-last l (Whole at s) equal q =
      held (l ∷ []) at (ap place_of q ∙ place-report t.at (ended t.before (k.seen - t.at) equal reading))
      (late (ending_report reading (Whole at s)) equal (λ p o why z. cc) q)
  held-last l (Marked at s wrong) equal q =
      held (l ∷ []) at (ap place_of q ∙ place-report t.at (ended t.before (k.seen - t.at) equal reading))
      (late (ending_report reading (Marked at s wrong)) equal (λ p o why z. cc) q)
  held-last l (Fault at cell why) equal q = tt
  held-last l (Unfinished at cells) equal q = tt

  -- the end does
  full : (x : Report) → ((p n : ℕ) → x ≡ Cut p n → ⊥)
      → x ≡ report_of t.at (left t.before (k.seen - t.at) reading) → block_len ≤ k.seen - t.at
  full x none q = go (cases_lt (k.seen - t.at) block_len)
    where
      go : (k.seen - t.at < block_len) ⊎ (block_len ≤ k.seen - t.at) → block_len ≤ k.seen - t.at
      go (inl g) = let z = lt-ltb (k.seen - t.at) block_len g in absurd (none _ _ (rw z at q))
      go (inr g) = g

  here : (at : ℕ) → at ≡ t.at → block_len ≤ k.seen - t.at → reading ≡ read_slots block_subframes (drop at c)
  here at e h = held [] at e h ∙ ap (λ v. read_slots block_subframes (drop at v)) (append-nil c)

  pub held-end : (e : Ending) → ending_report reading e ≡ report_of t.at (left t.before (k.seen - t.at) reading)
      → HeldBlock k.words c (Some e)
  held-end (Whole at s) q =
      here at (ap place_of q ∙ place-report t.at (left t.before (k.seen - t.at) reading))
      (full (ending_report reading (Whole at s)) (λ p n z. cc) q)
  held-end (Marked at s wrong) q =
      here at (ap place_of q ∙ place-report t.at (left t.before (k.seen - t.at) reading))
      (full (ending_report reading (Marked at s wrong)) (λ p n z. cc) q)
  held-end (Fault at cell why) q = tt
  held-end (Unfinished at cells) q = tt
