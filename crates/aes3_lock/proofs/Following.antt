-- A lock goes on following the cells, and answers what each decides.
use Rattle.std.proofs.Common.{◌≡◌, ℕ, ◌+◌, ◌-◌, ◌*◌, ◌/◌, ◌%◌, ◌^◌, ◌<◌, ◌≤◌, ◌⊎◌, inl, inr, List, [], ◌∷◌, ◌++◌, Bool}
use Rattle.std.proofs.Common.{true, false, cond, leb, ltb, ◌&&◌, Option, Some, None, MatchOption, refl, length, drop}
use Rattle.std.proofs.Common.{ap, ap₂, ◌∙◌, sym, subst, arith, length-append, length-drop, le-leb, lt-ltb}
use Rattle.std.proofs.Common.{le-ltb, true≢false}
use Rattle.std.proofs.lemmas.List.{drop-append-le}
use Rattle.std.proofs.lemmas.Bool.{cases_eq, cases_lt, lt-leb, false_from_ne_true, cases_Bool}
use Rattle.aes3_level.specs.declared.level.Level.{Level}
use Rattle.aes3_level.specs.Words.{low_cells}
use Rattle.aes3_slot.specs.ReadWords.{read_words}
use Rattle.aes3_slot.specs.Rules.{at, before, rule}
use Rattle.aes3_slot.specs.Reading.{same, read_slots}
use Rattle.aes3_frame.specs.Blocks.{mark_at, block_subframes, block_len}
use Rattle.aes3_lock.specs.declared.candidate.Candidate.{Candidate}
use Rattle.aes3_slot.specs.Preambles.{entry}
use Rattle.aes3_lock.specs.Candidates.{begins_block, keeps, front}
use Rattle.aes3_lock.specs.Outcomes.{outcome}
use Rattle.aes3_lock.specs.Reports.{told, report_of, open_at, decided_at, decided_from, decided, reports}
use Rattle.aes3_lock.specs.Steps.{last_eight, eight_with, begun, ended, left}
use Rattle.aes3_lock.specs.Following.{LockState, Gathered, Follows, OpenAt, NoneOpen, Stops}
use Rattle.aes3_slot.proofs.Beginnings.{entry-append}
use Rattle.aes3_lock.proofs.Deciding.{decided-push, block_len_64, outcome_by, outcome_is, read_slots-append}
use Rattle.aes3_lock.proofs.Ends.{reports-split, final-none, final-open}
use Rattle.aes3_lock.proofs.Opens.{IsOpen, is-open, open-room, answer-none, answer-open, keeps-new, open-ends}
use Rattle.aes3_lock.proofs.Opens.{open-decides, open-eight, none-after, open-only, open-cells}
use Rattle.aes3_lock.proofs.LastEight.{last_eight-with, last_eight-is, last-before}
use Rattle.aes3_lock.proofs.Gathering.{words-whole}

-- a candidate that the last eight cells show, and none
pub begun-some : (n : ℕ) (recent : List Level) → 8 ≤ n → begins_block recent ≡ true
    → begun n recent ≡ Some (record { at = n - 8; before = entry recent; level = entry recent })
unfolding begun
begun-some n recent h b = let t = le-leb 8 n h in rw (t, b) refl

pub begun-none : (n : ℕ) (recent : List Level) → (8 ≤ n → begins_block recent ≡ false) → begun n recent ≡ None
unfolding begun
begun-none n recent h = go (cases_lt n 8)
  where
    go : (n < 8) ⊎ (8 ≤ n) → cond {A = Option Candidate} (leb 8 n && begins_block recent)
        (Some (record { at = n - 8; before = entry recent; level = entry recent })) None ≡ None
    go (inl g) = let t : leb 8 n ≡ false = lt-leb 8 n g in rw t refl
    go (inr g) = let t = le-leb 8 n g in let b = h g in rw (t, b) refl

-- none is open where none longer is and the last eight cells begin none
pub closed : (c : List Level) → ((q : ℕ) → 8 < length (drop q c) → open_at (drop q c) ≡ false)
    → (8 ≤ length c → begins_block (last_eight c) ≡ false) → NoneOpen c
closed c none b q = false_from_ne_true (open_at (drop q c)) (λ t. here t (cases_lt 8 (length (drop q c))))
  where
    here : open_at (drop q c) ≡ true → (8 < length (drop q c)) ⊎ (length (drop q c) ≤ 8) → ⊥
    here t (inl g) = true≢false (sym t ∙ none q g)
    here t (inr g) =
        let o = is-open (drop q c) t in
        let r = open-room (drop q c) o in
        let l = length-drop q c in
        let i : length c - 8 ≡ q = omega (arith, r, l, g) in
        let s : last_eight c ≡ drop q c = last_eight-is c (omega (arith, r, l)) ∙ ap (λ n. drop n c) i in
        true≢false (sym (ap begins_block s ∙ o.begins) ∙ b (omega (arith, r, l)))

-- what is in hand where the last eight cells alone can show it
restarted : (c : List Level) (subframe : ℕ) (words : List ℕ) → low_cells 8 subframe ≡ last_eight c → subframe < 2 ^ 8
    → ((q : ℕ) → 8 < length (drop q c) → open_at (drop q c) ≡ false)
    → MatchOption (begun (length c) (last_eight c)) (NoneOpen c) (λ t. OpenAt subframe words t c)
restarted c subframe words kept few none = go (cases_lt (length c) 8) (cases_Bool (begins_block (last_eight c)))
  where
    go : (length c < 8) ⊎ (8 ≤ length c) → (begins_block (last_eight c) ≡ true) ⊎ (begins_block (last_eight c) ≡ false)
        → MatchOption (begun (length c) (last_eight c)) (NoneOpen c) (λ t. OpenAt subframe words t c)
    go (inl g) b = rw (begun-none (length c) (last_eight c) (λ h. absurd (omega (arith, g, h))))
        (closed c none (λ h. absurd (omega (arith, g, h))))
    go (inr g) (inr b) = rw (begun-none (length c) (last_eight c) (λ h. b)) (closed c none (λ h. b))
    go (inr g) (inl b) =
        let s : last_eight c ≡ drop (length c - 8) c = last_eight-is c g in
        let l = length-drop (length c - 8) c in
        let m : length (drop (length c - 8) c) ≡ 8 = omega (arith, l, g) in
        let z : 64 * (length (drop (length c - 8) c) / 64) ≡ 0 = omega (arith, m) in
        rw (begun-some (length c) (last_eight c) g b) (record {
          within = omega (arith, g);
          opened = open-eight (drop (length c - 8) c) m (sym (ap begins_block s) ∙ b);
          first = ap entry s;
          gathered = record {
            level = ap entry s ∙ sym (ap (before (entry (drop (length c - 8) c)) (drop (length c - 8) c)) z);
            cells = ap (λ n. low_cells (n % 64) subframe) m ∙ kept ∙ s
                ∙ sym (ap (λ n. drop n (drop (length c - 8) c)) z);
            few = subst (λ n. subframe < 2 ^ (n % 64)) (sym m) few;
            whole = λ j h k. absurd (omega (arith, k, m));
          };
        })

-- what is left of the cells with one more
pub drop-push : (c : List Level) (l : Level) (q : ℕ) → 8 < length (drop q (c ++ l ∷ []))
    → (drop q (c ++ l ∷ []) ≡ drop q c ++ l ∷ []) × (8 ≤ length (drop q c))
drop-push c l q h =
    let a = length-append c (l ∷ []) in
    let b = length-drop q (c ++ l ∷ []) in
    let d = length-drop q c in
    (drop-append-le q c (l ∷ []) (omega (arith, a, b, h)), omega (arith, a, b, d, h))

-- a lock with one more cell
module _ (k k' : LockState) (c : List Level) (l : Level) (f : Follows k c) (n : k'.seen ≡ k.seen + 1)
    (r : k'.recent ≡ eight_with k.recent l) where
  seen-with : k'.seen ≡ length (c ++ l ∷ [])
  seen-with = let a = length-append c (l ∷ []) in let b = f.seen in omega (arith, a, b, n)

  recent-with : k'.recent ≡ last_eight (c ++ l ∷ [])
  recent-with = r ∙ ap (λ x. eight_with x l) f.recent ∙ sym (last_eight-with c l)

  anew : k'.recent ≡ low_cells 8 k'.subframe → k'.subframe < 2 ^ 8
      → ((q : ℕ) → 8 < length (drop q (c ++ l ∷ [])) → open_at (drop q (c ++ l ∷ [])) ≡ false)
      → k'.candidate ≡ begun k'.seen k'.recent → Follows k' (c ++ l ∷ [])
  anew e few none b = record {
    seen = seen-with;
    recent = recent-with;
    candidate = rw (b, seen-with, recent-with)
        (restarted (c ++ l ∷ []) k'.subframe k'.words (sym e ∙ recent-with) few none);
  }

-- no candidate was in hand
pub push-none : (k k' : LockState) (c : List Level) (l : Level) → Follows k c → k.candidate ≡ None
    → k'.seen ≡ k.seen + 1 → k'.recent ≡ eight_with k.recent l → k'.candidate ≡ begun k'.seen k'.recent
    → k'.recent ≡ low_cells 8 k'.subframe → k'.subframe < 2 ^ 8
    → Follows k' (c ++ l ∷ []) × (decided (c ++ l ∷ []) ≡ decided c ++ [])
unfolding decided
push-none k k' c l f s e1 e2 e3 e4 e5 = (
  anew k k' c l f e1 e2 e4 e5 (λ q g. let d = drop-push c l q g in ap open_at d.0 ∙ none-after c l q (none q) d.1) e3,
  decided-push 0 c l ∙ ap (λ x. decided_from 0 c ++ x) (answer-none 0 c l none),
)
  where
    none : NoneOpen c
    none = rw s at f.candidate

module _ (k : LockState) (t : Candidate) (c : List Level) (f : Follows k c) (s : k.candidate ≡ Some t) where
  pub hand : OpenAt k.subframe k.words t c
  hand = rw s at f.candidate

  pub hand-open : IsOpen (drop t.at c)
  hand-open = is-open (drop t.at c) hand.opened

  pub offset : k.seen - t.at ≡ length (drop t.at c)
  offset = let a = f.seen in let b = length-drop t.at c in omega (arith, a, b)

  previous : (s : Level) → at k.recent 7 ≡ before s (drop t.at c) (length (drop t.at c))
  previous s = let w = hand.within in ap (λ x. at x 7) f.recent ∙ last-before s c t.at (omega (arith, w))

module _ (k : LockState) (t : Candidate) (c : List Level) (l : Level) (f : Follows k c) (s : k.candidate ≡ Some t) where
  -- the code's test is the rule's
  pub tested : rule mark_at (k.seen - t.at) l t.level (at k.recent 7) ≡ keeps (entry (drop t.at c))
      (drop t.at c ++ l ∷ []) (length (drop t.at c))
  tested =
      ap₂ (λ o b. rule mark_at o l b (at k.recent 7)) (offset k t c f s) (hand k t c f s).gathered.level
      ∙ ap (rule mark_at (length (drop t.at c)) l
      (before (entry (drop t.at c)) (drop t.at c) (64 * (length (drop t.at c) / 64))))
      (previous k t c f s (entry (drop t.at c)))
      ∙ sym (keeps-new (entry (drop t.at c)) (drop t.at c) l)

  rest : drop t.at (c ++ l ∷ []) ≡ drop t.at c ++ l ∷ []
  rest = let w = (hand k t c f s).within in drop-append-le t.at c (l ∷ []) (omega (arith, w))

  answers : decided_from 0 (c ++ l ∷ []) ≡ decided_from 0 c ++ told (0 + t.at) (decided_at (drop t.at c ++ l ∷ []))
  answers = decided-push 0 c l ∙ ap (λ x. decided_from 0 c ++ x) (answer-open 0 c l t.at (hand k t c f s).opened)

-- the cells go on with the candidate in hand
pub goes-on : (k k' : LockState) (t u : Candidate) (c d : List Level) → Follows k c → k.candidate ≡ Some t
    → length (drop t.at c ++ d) ≤ block_len
    → ((i : ℕ) → i < length (drop t.at c ++ d) → keeps (entry (drop t.at c)) (drop t.at c ++ d) i ≡ true)
    → k'.seen ≡ length (c ++ d) → k'.recent ≡ last_eight (c ++ d) → k'.candidate ≡ Some u → u.at ≡ t.at
    → u.before ≡ t.before
    → Gathered u.level k'.subframe k'.words (entry (drop t.at c)) (drop t.at c ++ d)
    → Follows k' (c ++ d) × (decided (c ++ d) ≡ decided c)
unfolding decided
goes-on k k' t u c d f s h kept seen recent e same-at same-before g =
    let w = in-hand.within in
    let n = length-append c d in
    let rest : drop u.at (c ++ d) ≡ drop t.at c ++ d = ap (λ n. drop n (c ++ d)) same-at
    ∙ drop-append-le t.at c d (omega (arith, w)) in
    let first : entry (drop t.at c ++ d) ≡ entry (drop t.at c) =
    entry-append (drop t.at c) d (let l = length-drop t.at c in omega (arith, w, l)) in
    let o = open-cells c d t.at in-hand.opened h kept in (
      record {
        seen = seen;
        recent = recent;
        candidate = rw e (record {
          within = omega (arith, n, w, same-at);
          opened = ap open_at rest ∙ o.0;
          first = same-before ∙ in-hand.first ∙ sym (ap entry rest ∙ first);
          gathered = subst (λ v. Gathered u.level k'.subframe k'.words (entry v) v) (sym rest)
              (subst (λ x. Gathered u.level k'.subframe k'.words x (drop t.at c ++ d)) (sym first) g);
        });
      },
      o.1,
    )
  where
    in-hand : OpenAt k.subframe k.words t c
    in-hand = hand k t c f s

-- the cell ends the candidate in hand
pub push-last : (k k' : LockState) (t : Candidate) (c : List Level) (l : Level) → Follows k c
    → length k.words ≡ block_subframes → k.candidate ≡ Some t
    → (k.seen - t.at < block_len → rule mark_at (k.seen - t.at) l t.level (at k.recent 7) ≡ false)
    → k'.seen ≡ k.seen + 1 → k'.recent ≡ eight_with k.recent l → k'.candidate ≡ begun k'.seen k'.recent
    → k'.recent ≡ low_cells 8 k'.subframe → k'.subframe < 2 ^ 8
    → Follows k' (c ++ l ∷ []) × (decided (c ++ l ∷ []) ≡ decided c ++
    report_of t.at (ended t.before (k.seen - t.at) (same l (at k.recent 7)) (read_words k.words)) ∷ [])
unfolding decided
push-last k k' t c l f lw s r e1 e2 e3 e4 e5 = (
  anew k k' c l f e1 e2 e4 e5 (λ q g. let d = drop-push c l q g in ap open_at d.0 ∙ none q d.1 (cases_eq q t.at)) e3,
  answers k t c l f s ∙ ap (λ x. decided_from 0 c ++ told (0 + t.at) x) ends
      ∙ ap (λ p. decided_from 0 c ++ report_of p
      (ended t.before (k.seen - t.at) (same l (at k.recent 7)) (read_words k.words)) ∷ [])
      (let y : 0 + t.at ≡ t.at = omega arith in y),
)
  where
    in-hand : OpenAt k.subframe k.words t c
    in-hand = hand k t c f s

    off : k.seen - t.at ≡ length (drop t.at c)
    off = offset k t c f s

    wrong : length (drop t.at c) < block_len
        → keeps (entry (drop t.at c)) (drop t.at c ++ l ∷ []) (length (drop t.at c)) ≡ false
    wrong g = sym (tested k t c l f s) ∙ r (omega (arith, off, g))

    none : (q : ℕ) → 8 ≤ length (drop q c) → (q ≡ t.at) ⊎ (q ≡ t.at → ⊥) → open_at (drop q c ++ l ∷ []) ≡ false
    none q g (inl e) = ap (λ q. open_at (drop q c ++ l ∷ [])) e ∙ open-ends (drop t.at c) l (hand-open k t c f s) wrong
    none q g (inr e) =
        none-after c l q (false_from_ne_true (open_at (drop q c)) (λ z. e (open-only c q t.at z in-hand.opened))) g

    same-slots : (o : ℕ) (b : Bool) (ps qs : List (List Bool)) → (block_len ≤ o → ps ≡ qs)
        → ended t.before o b ps ≡ ended t.before o b qs
    same-slots o b ps qs z = go (cases_lt o block_len)
      where
        go : (o < block_len) ⊎ (block_len ≤ o) → ended t.before o b ps ≡ ended t.before o b qs
        go (inl g) = let t1 = lt-ltb o block_len g in rw t1 refl
        go (inr g) = ap (ended t.before o b) (z g)

    ends : decided_at (drop t.at c ++ l ∷ []) ≡ Some
        (ended t.before (k.seen - t.at) (same l (at k.recent 7)) (read_words k.words))
    ends = open-decides (drop t.at c) l (hand-open k t c f s) wrong
        ∙ ap Some (ap₂
        (λ s b. ended s (length (drop t.at c)) (same l b) (read_slots block_subframes (drop t.at c ++ l ∷ [])))
        (sym in-hand.first) (sym (previous k t c f s (entry (drop t.at c))))
        ∙ same-slots (length (drop t.at c)) (same l (at k.recent 7)) (read_slots block_subframes (drop t.at c ++ l ∷ []))
        (read_words k.words)
        (λ g. let b = block_len_64 in
        read_slots-append block_subframes (drop t.at c) (l ∷ []) (omega (arith, b, g))
        ∙ sym (words-whole k.words (drop t.at c) lw g in-hand.gathered.whole))
        ∙ ap (λ o. ended t.before o (same l (at k.recent 7)) (read_words k.words)) (sym off))

-- a new lock
pub follows-nil : (k : LockState) → k.seen ≡ 0 → k.recent ≡ last_eight [] → k.candidate ≡ None → Follows k []
follows-nil k a b s = record { seen = a; recent = b; candidate = rw s none }
  where
    none : NoneOpen []
    none q = false_from_ne_true (open_at (drop q [])) (λ t.
        let r = (open-room (drop q []) (is-open (drop q []) t)).0 in
        let n = length-drop {A = Level} q [] in
        omega (arith, r, n))

-- the end, where no candidate is in hand
pub finish-none : (k : LockState) (c : List Level) → Follows k c → k.candidate ≡ None → reports c ≡ decided c ++ []
unfolding reports decided
finish-none k c f s = reports-split 0 c ∙ ap (λ x. decided_from 0 c ++ x) (final-none 0 c none)
  where
    none : NoneOpen c
    none = rw s at f.candidate

-- the end, where one is
pub finish-open : (k : LockState) (t : Candidate) (c : List Level) → Follows k c → length k.words ≡ block_subframes
    → k.candidate ≡ Some t
    → reports c ≡ decided c ++ report_of t.at (left t.before (k.seen - t.at) (read_words k.words)) ∷ []
unfolding reports decided
finish-open k t c f lw s = reports-split 0 c
    ∙ ap (λ x. decided_from 0 c ++ x) (final-open 0 c t.at in-hand.opened
    ∙ ap₂ (λ p o. report_of p o ∷ []) (omega arith) says)
  where
    in-hand : OpenAt k.subframe k.words t c
    in-hand = rw s at f.candidate

    o : IsOpen (drop t.at c)
    o = is-open (drop t.at c) in-hand.opened

    off : k.seen - t.at ≡ length (drop t.at c)
    off = let a = f.seen in let b = length-drop t.at c in omega (arith, a, b)

    at-end : (s : Level) (f n : ℕ) (b : Bool) (ps qs : List (List Bool)) → f ≡ n → (block_len ≤ n → ps ≡ qs)
        → outcome_by s f n b ps ≡ left s n qs
    at-end s f n b ps qs e z = go (cases_lt n block_len)
      where
        t2 : ltb n n ≡ false
        t2 = le-ltb n n (omega arith)

        go : (n < block_len) ⊎ (block_len ≤ n) → outcome_by s f n b ps ≡ left s n qs
        go (inl g) = let t1 = lt-ltb n block_len g in rw (e, t2, t1) refl
        go (inr g) = let t1 = le-ltb n block_len g in rw (e, t2, t1, z g) refl

    says : outcome (drop t.at c) ≡ left t.before (k.seen - t.at) (read_words k.words)
    says = outcome_is (drop t.at c)
        ∙ at-end (entry (drop t.at c)) (front (entry (drop t.at c)) (drop t.at c))
        (length (drop t.at c)) _ (read_slots block_subframes (drop t.at c)) (read_words k.words) o.all
        (λ g. sym (words-whole k.words (drop t.at c) lw g in-hand.gathered.whole))
        ∙ ap₂ (λ s n. left s n (read_words k.words)) (sym in-hand.first) (sym off)

-- a cell behind a whole block ends its candidate
pub past-stops : (k : LockState) (t : Candidate) (l : Level) → k.candidate ≡ Some t
    → block_len ≤ k.seen - t.at → Stops k l
past-stops k t l s h = record { in_hand = t; is = s; stop = λ g. absurd (omega (arith, g, h)) }
