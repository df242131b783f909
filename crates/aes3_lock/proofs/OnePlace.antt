-- One place tried by itself, cell by cell.
use Rattle.std.proofs.Common.{◌≡◌, ℕ, suc, ◌+◌, ◌-◌, ◌*◌, ◌/◌, ◌%◌, ◌^◌, ◌<◌, ◌≤◌, ◌⊎◌, inl, inr, min, List, [], ◌∷◌}
use Rattle.std.proofs.Common.{◌++◌, Bool, true, false, cond, ltb, Some, None, refl, length, take, drop, set, get_or, ap}
use Rattle.std.proofs.Common.{ap₂, ◌∙◌, sym, subst, arith, length-drop, length-take-le, take-append-drop, take_all}
use Rattle.std.proofs.Common.{drop-cons, append_assoc, lt-ltb, le-ltb}
use Rattle.std.proofs.lemmas.List.{take_more}
use Rattle.std.proofs.lemmas.Bool.{cases_eq, cases_lt, false_from_ne_true}
use Rattle.aes3_level.specs.declared.level.Level.{Level}
use Rattle.aes3_level.specs.declared.level.Level.TheVariants.{Low}
use Rattle.aes3_level.specs.Words.{low_cells}
use Rattle.aes3_slot.specs.Rules.{at, before, rule}
use Rattle.aes3_slot.specs.Reading.{same, read_slots}
use Rattle.aes3_slot.specs.ReadWords.{read_words}
use Rattle.aes3_frame.specs.Blocks.{mark_at, block_subframes, block_len}
use Rattle.aes3_lock.specs.declared.report.Report.{Report}
use Rattle.aes3_lock.specs.declared.candidate.Candidate.{Candidate}
use Rattle.aes3_slot.specs.Preambles.{entry}
use Rattle.aes3_lock.specs.Candidates.{begins_block, keeps, front}
use Rattle.aes3_lock.specs.Outcomes.{outcome}
use Rattle.aes3_lock.specs.Reports.{told, outcome_at, reports_from, reports}
use Rattle.aes3_lock.specs.Steps.{last_eight, eight_with, begun, ended, left}
use Rattle.aes3_lock.specs.Following.{Filled, Gathered}
use Rattle.aes3_slot.specs.declared.mark.Mark.TheVariants.{Z}
use Rattle.aes3_slot.proofs.Beginnings.{begins-append, begins-room, entry-append}
use Rattle.aes3_lock.proofs.Deciding.{block_len_64, outcome_by, outcome_is, read_slots-append}
use Rattle.aes3_lock.proofs.Fronts.{front-is, front-unique}
use Rattle.aes3_lock.proofs.LastEight.{last_eight-with, last_eight-is}
use Rattle.aes3_lock.proofs.Gathering.{words-whole}
use Rattle.aes3_lock.proofs.TakenWords.{next-inside, next-whole}
use Rattle.aes3_frame.proofs.CellLaws.{block_len_24576}

-- the first cells as an octet
pub octet-more : (c recent new : List Level) (i : ℕ) → i < length c → recent ≡ last_eight (take i c)
    → new ≡ eight_with recent (get_or c i Low)
    → new ≡ last_eight (take (i + 1) c)
octet-more c recent new i h e f =
    f ∙ ap (λ x. eight_with x (get_or c i Low)) e ∙ sym (last_eight-with (take i c) (get_or c i Low))
    ∙ ap last_eight (sym (take_more c i Low h))

pub octet-all : (c recent : List Level) (i : ℕ) → length c ≡ 8 → length c ≤ i → recent ≡ last_eight (take i c)
    → recent ≡ c
octet-all c recent i h g e =
    e ∙ ap last_eight (take_all i c g) ∙ last_eight-is c (omega arith)
    ∙ ap (λ n. drop n c) (let z : length c - 8 ≡ 0 = omega arith in z)

-- a place tried as far as cell o
pub record Walked (s : Level) (c : List Level) (subframe : ℕ) (words : List ℕ) (u v : Level) (o : ℕ) : Type 0 where
  pub few : o ≤ block_len
  pub kept : (i : ℕ) → i < o → keeps s c i ≡ true
  pub level : u ≡ before s c (64 * (o / 64))
  pub previous : v ≡ before s c o
  pub gathered : Gathered u subframe words s (take o c)

-- the rule of the next cell
pub walk-keeps : (s : Level) (c : List Level) (subframe : ℕ) (words : List ℕ) (level previous : Level) (o : ℕ)
    (b : Bool) → Walked s c subframe words level previous o
    → rule mark_at o (at c o) level previous ≡ b → keeps s c o ≡ b
unfolding keeps
walk-keeps s c subframe words level previous o b w e = ap₂ (rule mark_at o (at c o)) (sym w.level) (sym w.previous) ∙ e

module _ (s : Level) (c : List Level) (subframe new : ℕ) (words : List ℕ) (level previous : Level) (o : ℕ)
    (w : Walked s c subframe words level previous o)
    (h : o < length c) (g : o < block_len) (e : rule mark_at o (at c o) level previous ≡ true)
    (cells : subframe < 2 ^ (o % 64) → low_cells (o % 64 + 1) new ≡ low_cells (o % 64) subframe ++ at c o ∷ []) where
  n : o ≡ length (take o c)
  n = sym (length-take-le o c (omega arith))

  more : take (o + 1) c ≡ take o c ++ at c o ∷ []
  more = take_more c o Low h

  kept : (i : ℕ) → i < o + 1 → keeps s c i ≡ true
  kept i l = go (cases_eq i o)
    where
      go : (i ≡ o) ⊎ (i ≡ o → ⊥) → keeps s c i ≡ true
      go (inl q) = ap (keeps s c) q ∙ walk-keeps s c subframe words level previous o true w e
      go (inr q) = w.kept i (omega arith)

  -- the next cell inside a subframe, and its last
  pub walk-inside : o % 64 < 63 → (subframe < 2 ^ (o % 64) → new < 2 ^ (o % 64 + 1))
      → Walked s c new words level (at c o) (o + 1)
  walk-inside l few = record {
    few = omega arith;
    kept = kept;
    level = w.level ∙ ap (λ k. before s c (64 * k)) (omega (arith, l));
    previous = ap (before s c) (let q : suc o ≡ o + 1 = omega arith in q);
    gathered = subst (Gathered level new words s) (sym more)
        (next-inside level subframe new words s (take o c) o (at c o) l cells few w.gathered n);
  }

  pub walk-whole : length words ≡ block_subframes → o % 64 ≡ 63
      → Walked s c 0 (set words (o / 64) new) (at c o) (at c o) (o + 1)
  walk-whole lw l = record {
    few = omega arith;
    kept = kept;
    level = ap (before s c) (let q : suc o ≡ 64 * ((o + 1) / 64) = omega (arith, l) in q);
    previous = ap (before s c) (let q : suc o ≡ o + 1 = omega arith in q);
    gathered = subst (Gathered (at c o) 0 (set words (o / 64) new) s) (sym more)
        (next-whole level subframe new words s (take o c) o (at c o) lw g l cells w.gathered n);
  }

-- as the code has it
pub walk-same : (s : Level) (c : List Level)
    (o : ℕ) {subframe subframe' : ℕ} {words words' : List ℕ} {u v u' v' : Level} → Walked s c subframe words u v o
    → subframe' ≡ subframe → words' ≡ words → u' ≡ u → v' ≡ v → Walked s c subframe' words' u' v' o
walk-same s c o {subframe = x} {subframe' = x'} {words = y} {words' = y'} {u = u} {u' = u'} w a b d e = record {
  few = w.few;
  kept = w.kept;
  level = d ∙ w.level;
  previous = e ∙ w.previous;
  gathered = subst (λ l. Gathered l x' y' s (take o c)) (sym d)
      (subst (λ m. Gathered u m y' s (take o c)) (sym a) (subst (λ l. Gathered u x l s (take o c)) (sym b) w.gathered));
}

-- where it ends
pub walk-front : (s : Level) (c : List Level) (subframe : ℕ) (words : List ℕ) (level previous : Level) (o : ℕ)
    → Walked s c subframe words level previous o → o ≤ length c
    → (o < min block_len (length c) → keeps s c o ≡ false) → o ≡ front s c
walk-front s c subframe words level previous o w h e =
    front-unique s c o (front s c) (record { within = let f = w.few in omega (arith, f, h); kept = w.kept; stops = e })
    (front-is s c)

pub walk-full : (s : Level) (c : List Level) (subframe : ℕ) (words : List ℕ) (level previous : Level) (o : ℕ)
    → Walked s c subframe words level previous o → o < length c
    → o ≡ 24576 → o ≡ front s c
walk-full s c subframe words level previous o w h e =
    walk-front s c subframe words level previous o w (omega arith)
    (λ g. let n = block_len_24576 in absurd (omega (arith, n, g, e)))

pub walk-stops : (s : Level) (c : List Level) (subframe : ℕ) (words : List ℕ) (level previous : Level) (o : ℕ)
    → Walked s c subframe words level previous o → o < length c
    → rule mark_at o (at c o) level previous ≡ false → o ≡ front s c
walk-stops s c subframe words level previous o w h e =
    walk-front s c subframe words level previous o w (omega arith)
    (λ g. walk-keeps s c subframe words level previous o false w e)

pub walk-all : (s : Level) (c : List Level) (subframe : ℕ) (words : List ℕ) (level previous : Level) (o : ℕ)
    → Walked s c subframe words level previous o → o ≡ length c
    → o ≡ front s c
walk-all s c subframe words level previous o w e = walk-front s c subframe words level previous o w (omega arith)
    (λ g. absurd (omega (arith, g, e)))

-- the outcome by the bits that were gathered
module _ (c : List Level) (words : List ℕ) (lw : length words ≡ block_subframes)
    (f : Filled words (take (front (entry c) c) c)) where
  read-all : block_len ≤ front (entry c) c → read_slots block_subframes c ≡ read_words words
  read-all h =
      let w = (front-is (entry c) c).within in
      let n : length (take (front (entry c) c) c) ≡ front (entry c) c =
      length-take-le (front (entry c) c) c (omega (arith, w)) in
      let b = block_len_64 in
      ap (read_slots block_subframes) (sym (take-append-drop (front (entry c) c) c))
      ∙ read_slots-append block_subframes (take (front (entry c) c) c) (drop (front (entry c) c) c) (omega (arith, n, b, h))
      ∙ sym (words-whole words (take (front (entry c) c) c) lw (omega (arith, n, h)) f)

  pub outcome-ended : front (entry c) c < length c
      → outcome c ≡ ended (entry c) (front (entry c) c)
      (same (at c (front (entry c) c)) (before (entry c) c (front (entry c) c))) (read_words words)
  outcome-ended h = outcome_is c ∙ go (cases_lt (front (entry c) c) block_len)
    where
      t : ltb (front (entry c) c) (length c) ≡ true
      t = lt-ltb _ _ h

      go : (front (entry c) c < block_len) ⊎ (block_len ≤ front (entry c) c)
          → outcome_by (entry c) (front (entry c) c) (length c)
          (same (at c (front (entry c) c)) (before (entry c) c (front (entry c) c))) (read_slots block_subframes c)
          ≡ ended (entry c) (front (entry c) c)
          (same (at c (front (entry c) c)) (before (entry c) c (front (entry c) c))) (read_words words)
      go (inl g) = let u = lt-ltb _ _ g in rw (t, u) refl
      go (inr g) = let u = le-ltb _ _ g in let r = read-all g in rw (t, u, r) refl

  pub outcome-left : length c ≤ front (entry c) c → outcome c ≡ left (entry c) (front (entry c) c) (read_words words)
  outcome-left h = outcome_is c ∙ go (cases_lt (front (entry c) c) block_len)
    where
      t : ltb (front (entry c) c) (length c) ≡ false
      t = le-ltb _ _ h

      go : (front (entry c) c < block_len) ⊎ (block_len ≤ front (entry c) c)
          → outcome_by (entry c) (front (entry c) c) (length c)
          (same (at c (front (entry c) c)) (before (entry c) c (front (entry c) c))) (read_slots block_subframes c)
          ≡ left (entry c) (front (entry c) c) (read_words words)
      go (inl g) = let u = lt-ltb _ _ g in rw (t, u) refl
      go (inr g) = let u = le-ltb _ _ g in let r = read-all g in rw (t, u, r) refl

-- by the values that the code has
module _ (c : List Level) (s : Level) (words : List ℕ) (f : ℕ) (p : Level) (es : s ≡ entry c) (ef : f ≡ front s c)
    (ep : p ≡ before s c f)
    (k : Filled words (take f c)) (lw : length words ≡ block_subframes) where
  front-entry : f ≡ front (entry c) c
  front-entry = ef ∙ ap (λ s. front s c) es

  filled-front : Filled words (take (front (entry c) c) c)
  filled-front = subst (λ n. Filled words (take n c)) front-entry k

  pub place-ended : f < length c → outcome c ≡ ended s f (same (at c f) p) (read_words words)
  place-ended h =
      outcome-ended c words lw filled-front (let e = front-entry in omega (arith, e, h))
      ∙ ap₂ (λ s f. ended s f (same (at c f) (before s c f)) (read_words words)) (sym es) (sym front-entry)
      ∙ ap (λ b. ended s f (same (at c f) b) (read_words words)) (sym ep)

  pub place-left : length c ≤ f → outcome c ≡ left s f (read_words words)
  place-left h =
      outcome-left c words lw filled-front (let e = front-entry in omega (arith, e, h))
      ∙ ap₂ (λ s f. left s f (read_words words)) (sym es) (sym front-entry)

-- what the first eight cells show
begins-take : (c : List Level) → 8 ≤ length c → (begins_block (take 8 c) ≡ begins_block c)
    × (entry (take 8 c) ≡ entry c)
begins-take c h =
    let n : length (take 8 c) ≡ 8 = length-take-le 8 c h in (
      sym (ap begins_block (sym (take-append-drop 8 c)) ∙ begins-append Z (take 8 c) (drop 8 c) (omega (arith, n))),
      sym (ap entry (sym (take-append-drop 8 c)) ∙ entry-append (take 8 c) (drop 8 c) (omega (arith, n))),
    )

pub outcome_at-short : (c : List Level) → length c < 8 → outcome_at c ≡ None
unfolding outcome_at
outcome_at-short c h =
    let b : begins_block c ≡ false =
    false_from_ne_true (begins_block c) (λ e. let r = begins-room Z c e in omega (arith, r, h)) in
    rw b refl

pub outcome_at-none : (c : List Level) → 8 ≤ length c → begun 8 (take 8 c) ≡ None → outcome_at c ≡ None
unfolding outcome_at begun
outcome_at-none c h e = go (begins_block (take 8 c)) refl
  where
    go : (b : Bool) → begins_block (take 8 c) ≡ b → cond (begins_block c) (Some (outcome c)) None ≡ None
    go true q = let z = rw q at e in cc
    go false q = let b = sym (begins-take c h).0 ∙ q in rw b refl

pub outcome_at-some : (c : List Level) (t : Candidate) → 8 ≤ length c → begun 8 (take 8 c) ≡ Some t
    → (outcome_at c ≡ Some (outcome c)) × (t.before ≡ entry c)
unfolding outcome_at begun
outcome_at-some c t h e = go (begins_block (take 8 c)) refl
  where
    go : (b : Bool) → begins_block (take 8 c) ≡ b → (cond (begins_block c) (Some (outcome c)) None ≡ Some (outcome c))
        × (t.before ≡ entry c)
    go true q =
        let b = sym (begins-take c h).0 ∙ q in
        let z = rw q at e in
        (rw b refl, sym (first z) ∙ (begins-take c h).1)
      where
        first : Some (record { at = 0; before = entry (take 8 c); level = entry (take 8 c) }) ≡ Some t
            → entry (take 8 c) ≡ t.before
        first z = cc
    go false q = let z = rw q at e in cc

-- the reports from a place on, and the reports so far
pub reports-more : (c : List Level) (done new : List Report) (p : ℕ) → p < length c
    → new ≡ told p (outcome_at (take (length c - p) (drop p c)))
    → done ++ reports_from p (drop p c) ≡ reports c → (done ++ new) ++ reports_from (p + 1) (drop (p + 1) c) ≡ reports c
reports-more c done new p h e f =
    let d : drop p c ≡ get_or c p Low ∷ drop (p + 1) c = drop-cons c p Low h
    ∙ ap (λ n. get_or c p Low ∷ drop n c) (let z : suc p ≡ p + 1 = omega arith in z) in
    let q : suc p ≡ p + 1 = omega arith in
    let all : take (length c - p) (drop p c) ≡ drop p c = take_all (length c - p) (drop p c) (let n = length-drop p c in
    omega (arith, n)) in
    append_assoc done new (reports_from (p + 1) (drop (p + 1) c))
    ∙ ap (λ x. done ++ x)
    (ap₂ (λ x n. x ++ reports_from n (drop (p + 1) c)) (e ∙ ap (λ x. told p (outcome_at x)) (all ∙ d)) (sym q)
    ∙ sym (ap (reports_from p) d))
    ∙ f

pub reports-none : (c : List Level) (done : List Report) → done ≡ [] → done ++ reports_from 0 c ≡ reports c
unfolding reports
reports-none c done e = ap (λ x. x ++ reports_from 0 c) e
