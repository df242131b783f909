-- Marks of a recovery: they are made, and they stay.
use Rattle.std.proofs.Common.{ℕ, List, [], ◌++◌, ◌≡◌, ◌≤◌, ◌<◌, ◌+◌, ◌*◌, Option, Some, inl, inr, refl, sym, ap, ◌∙◌}
use Rattle.std.proofs.Common.{◌≢◌, append-nil, append_assoc, arith, get_or, length, length-append, replicate, set, subst}
use Rattle.std.proofs.Common.{true, true≢false}
use Rattle.std.proofs.lemmas.Bool.{cases_lt}
use Rattle.std.proofs.lemmas.List.{get_or-set_other, get_or-set_same}
use Rattle.std.specs.List.{flat_map}
use Rattle.std.specs.Option.{option_map_or}
use Rattle.aes3_level.specs.declared.level.Level.{Level}
use Rattle.aes3_level.specs.Cells.{after, line, other}
use Rattle.aes3_level.specs.Words.{word_cells}
use Rattle.aes3_level.proofs.Runs.{other-other}
use Rattle.aes3_level.proofs.WordCells.{word_len_64}
use Rattle.aes3_cell.specs.declared.form.Form.TheVariants.{Packed}
use Rattle.aes3_cell.proofs.ManyWords.{length-words}
use Rattle.aes3_capture_recovery.specs.Endings.{level_if}
use Rattle.aes3_capture_recovery.specs.Queues.{Queued, waiting}
use Rattle.aes3_capture_recovery.specs.Recovering.{IsFound, Recovered, Setting, first_cells, first_level, runs_to_end, runs_waiting, sample_runs, samples_of}
use Rattle.aes3_capture_recovery.specs.declared.recovery.Recovery.{Recovery}
use Rattle.aes3_capture_recovery.proofs.Telling.{samples-append}
use Rattle.aes3_capture_places.specs.Marks.{IsPlaced, no_mark}
use Rattle.aes3_capture_places.specs.Placing.{AreGiven, IsMark, IsMarked, IsPlace}
use Rattle.aes3_capture_places.specs.declared.marks.Mark.{Mark}
use Rattle.aes3_capture_places.proofs.Runs.{first-more, length-packed, samples-runs, told-of-next}

-- a mark stays one, whatever samples come
pub mark-stays : (known : Option ℕ) (levels more : List Level) (m : Mark) → IsMark known levels m
    → IsMark known (levels ++ more) m
mark-stays known levels more m (inl e) = inl e
mark-stays known levels more m (inr i) =
    let l = length-append levels more in
    let some = i.some in
    inr (record {
      some = omega (arith, l, some);
      done = i.done;
      past = i.past;
      next = λ rest. i.next (more ++ rest);
      split = λ rest. ap sample_runs (append_assoc levels more rest) ∙ i.split (more ++ rest);
      begun = λ rest. i.begun (more ++ rest);
      samples_are = i.samples_are;
      given = i.given;
      given_are = subst (λ s. AreGiven known (other s) i.done i.past i.given) (sym (first-more levels more some))
          i.given_are;
      cells_are = i.cells_are;
    })

-- how a recovery that counts octets begins
abbrev pub counting : Option ℕ → Setting
counting known = record { begun = []; form = Packed; known = known }

-- how many cells were given
cells-given : (octets : List ℕ) (waits all : List Level) → Queued (Some octets) [] Packed waits all
    → length all ≡ 8 * length octets + length waits
cells-given octets waits all q =
    let e = ap (λ (o : Option (List ℕ)). option_map_or (λ l. l) o []) q.tells in
    let o = ap length e ∙ length-packed q.words in
    let n = length-words q.words ∙ ap (λ k. length q.words * k) word_len_64 in
    let l = ap length (sym q.cells) ∙ length-append (flat_map word_cells q.words) waits in
    omega (arith, o, n, l)

-- what was given of a line that was found
given-of : (known : Option ℕ) (octets : List ℕ) (level : Level) (done : List ℕ) (past : ℕ) (now : Recovery)
    → now.line.queue.form ≡ Packed → IsFound (Some octets) (counting known) level done past now
    → (given : List Level) × AreGiven known level done past given
    × (length given ≡ 8 * length octets + length (waiting now.line.queue))
given-of known octets level done past now form f =
    let all = first_cells level f.before f.start
    ++ (line (after level f.before) f.counts ++ replicate f.given (other (after level done))) in (
      all,
      record {
        before = f.before;
        behind = f.behind;
        runs_are = f.runs_are;
        start = f.start;
        at = f.at;
        last = now.line.follower;
        starts = f.starts;
        counts = f.counts;
        counted = f.counted;
        given = f.given;
        passed = f.passed;
        cells_are = refl;
      },
      cells-given octets (waiting now.line.queue) all
          (subst (λ form. Queued (Some octets) [] form (waiting now.line.queue) all) form f.cells),
    )

-- a mark behind all cells that were given
pub mark-made : (known : Option ℕ) (levels : List Level) (octets : List ℕ) (now : Recovery) (cells samples : ℕ)
    → Recovered (Some octets) (counting known) levels [] now → now.found ≡ true → 1 ≤ length levels
    → cells ≡ 8 * length octets + length (waiting now.line.queue)
    → samples + (samples_of (runs_waiting now) + now.line.edges.run) ≡ length levels
    → IsMarked known levels cells samples
mark-made known levels octets now cells samples r found some cells_are samples_are =
    let st = r.stands in
    let rest : List Level → List ℕ = λ more. runs_to_end (level_if now.line.edges.high) r.behind more in
    let split : (more : List Level) → sample_runs (levels ++ more) ≡ st.done ++ (runs_waiting now ++ rest more)
    = λ more. ap (λ s. runs_to_end s 0 (levels ++ more)) (first-more levels more some ∙ sym r.first)
    ∙ r.split more ∙ ap (λ l. l ++ rest more) (sym st.runs_are)
    ∙ append_assoc st.done (runs_waiting now) (rest more) in
    let all = samples-runs (first_level (levels ++ [])) 0 (levels ++ []) in
    let long = ap length (append-nil levels) in
    let parts = ap samples_of (split []) ∙ samples-append st.done (runs_waiting now ++ rest []) in
    let waits = samples-append (runs_waiting now) (rest []) in
    let last = samples-runs (level_if now.line.edges.high) r.behind [] in
    let behind = st.samples_are in
    let of = given-of known octets r.level st.done st.past now st.holds.told_is.form_is in
    elim st.holds.told_is.either [
      | inl u ↦ absurd (true≢false (sym found ∙ u.found_is))
      | inr f ↦ record {
        some = some;
        done = st.done;
        past = st.past;
        next = λ more. runs_waiting now ++ rest more;
        split = split;
        begun = λ more. told-of-next st.past now r.behind more (level_if now.line.edges.high) st.holds.order
            (omega (arith, behind));
        samples_are = omega (arith, all, long, parts, waits, last, behind, samples_are);
        given = (of f).0;
        given_are = subst (λ s. AreGiven known s st.done st.past (of f).0) (sym (other-other r.level) ∙ ap other r.first)
            (of f).1;
        cells_are = (of f).2 ∙ sym cells_are;
      }
    ]

-- one mark more, in place of another
pub marks-set : (known : Option ℕ) (levels : List Level) (kept : List Mark) (at : ℕ) (m : Mark) → at < length kept
    → IsMark known levels m → ((i : ℕ) → i < 4096 → IsMark known levels (get_or kept i no_mark))
    → (i : ℕ) → i < 4096 → IsMark known levels (get_or (set kept at m) i no_mark)
marks-set known levels kept at m within is all i few =
    let other : i ≢ at → IsMark known levels (get_or (set kept at m) i no_mark)
    = λ not. subst (IsMark known levels) (sym (get_or-set_other kept at i m no_mark not)) (all i few) in
    elim (cases_lt i at) [
      | inl below ↦ other (λ e. omega (arith, below, e))
      | inr above ↦ elim (cases_lt at i) [
        | inl over ↦ other (λ e. omega (arith, over, e))
        | inr same ↦
            let e : i ≡ at = omega (arith, above, same) in
            subst (IsMark known levels)
            (sym (ap (λ j. get_or (set kept at m) j no_mark) e ∙ get_or-set_same kept at m no_mark within)) is
      ]
    ]

-- marks of a capture stay such
pub marks-stay : (known : Option ℕ) (levels more : List Level) (kept : List Mark)
    → ((i : ℕ) → i < 4096 → IsMark known levels (get_or kept i no_mark))
    → (i : ℕ) → i < 4096 → IsMark known (levels ++ more) (get_or kept i no_mark)
marks-stay known levels more kept all i few = mark-stays known levels more (get_or kept i no_mark) (all i few)

-- no more samples wait than were taken
pub waits-less : (known : Option ℕ) (levels : List Level) (octets : List ℕ) (now : Recovery)
    → Recovered (Some octets) (counting known) levels [] now
    → samples_of (runs_waiting now) + now.line.edges.run ≤ length levels
waits-less known levels octets now r =
    let st = r.stands in
    let rest = runs_to_end (level_if now.line.edges.high) r.behind [] in
    let all = samples-runs (other r.level) 0 (levels ++ []) in
    let long = ap length (append-nil levels) in
    let parts = ap samples_of (r.split []) ∙ samples-append r.runs rest in
    let runs = ap samples_of (sym st.runs_are) ∙ samples-append st.done (runs_waiting now) in
    let last = samples-runs (level_if now.line.edges.high) r.behind [] in
    let behind = st.samples_are in
    omega (arith, all, long, parts, runs, last, behind)

-- the sample of a cell between two marks
pub place-of : (known : Option ℕ) (levels : List Level) (kept : List Mark) (cell : ℕ)
    → ((i : ℕ) → i < 4096 → IsMark known levels (get_or kept i no_mark)) → (sample : ℕ) → IsPlaced kept cell sample
    → IsPlace known levels cell sample
place-of known levels kept cell all sample p = record {
  before = p.before;
  after = p.after;
  is_before = subst (IsMark known levels) p.is_before.kept_is (all p.is_before.at p.is_before.within);
  is_after = subst (IsMark known levels) p.is_after.kept_is (all p.is_after.at p.is_after.within);
  from = p.is_before.before;
  to = p.is_after.after;
  sample_is = p.sample_is;
}
