-- The first cells of a word behind those that a lock follows, inside the subframe in hand.
use Rattle.std.proofs.Common.{◌≡◌, ℕ, ◌+◌, ◌-◌, ◌*◌, ◌/◌, ◌%◌, ◌^◌, ◌<◌, ◌≤◌, ◌⊎◌, inl, inr, List, [], ◌∷◌, ◌++◌, true}
use Rattle.std.proofs.Common.{false, Some, refl, length, take, drop, set, ap, ap₂, ◌∙◌, sym, subst, arith}
use Rattle.std.proofs.Common.{length-append, length-take-le, take-append-drop, append_assoc, append-nil, drop-drop, w64}
use Rattle.std.specs.Prelude.{bit_and, if◌then◌else◌}
use Rattle.std.specs.Int.{bit_at, trailing_zeros}
use Rattle.std.proofs.Math.Seq.{take-append-add}
use Rattle.std.proofs.lemmas.Bool.{cases_lt}
use Rattle.std.proofs.lemmas.List.{drop-append-le}
use Rattle.std.proofs.lemmas.Nat.{shr_le, and_le_r, one_shl, pow_pos}
use Rattle.aes3_level.specs.declared.level.Level.{Level}
use Rattle.aes3_level.specs.Words.{level_of, low_cells, word_cells}
use Rattle.aes3_level.proofs.WordCells.{length-low_cells, low_cells-add, below-trailing}
use Rattle.aes3_level.proofs.Moves.{bit_at-shr}
use Rattle.aes3_slot.specs.declared.mark.Mark.{Mark}
use Rattle.aes3_slot.specs.ReadWords.{read_words}
use Rattle.aes3_slot.specs.Reading.{same}
use Rattle.aes3_slot.specs.Rules.{at, rule}
use Rattle.aes3_slot.specs.Fronts.{stands}
use Rattle.aes3_slot.specs.Preambles.{entry}
use Rattle.aes3_slot.proofs.RuleTests.{stands-append}
use Rattle.aes3_slot.proofs.WrongCells.{true-from_zero, false-from_one}
use Rattle.aes3_slot.proofs.ReadSubframes.{length-word}
use Rattle.aes3_frame.specs.Blocks.{mark_at, block_subframes, block_len}
use Rattle.aes3_lock.specs.declared.candidate.Candidate.{Candidate}
use Rattle.aes3_lock.specs.Candidates.{keeps}
use Rattle.aes3_lock.specs.declared.report.Report.TheVariants.{Fault}
use Rattle.aes3_lock.specs.Outcomes.{why_of}
use Rattle.aes3_lock.specs.Reports.{decided, report_of}
use Rattle.aes3_lock.specs.Steps.{begun, ended, eight_with}
use Rattle.aes3_lock.specs.Following.{LockState, Gathered, Follows, OpenAt, Stops}
use Rattle.aes3_lock.proofs.Codes.{ended-early}
use Rattle.aes3_lock.proofs.Deciding.{block_len_64}
use Rattle.aes3_lock.proofs.Fronts.{front-is, keeps-append}
use Rattle.aes3_lock.proofs.LastEight.{last_eight-more, length-last_eight}
use Rattle.aes3_lock.proofs.PushedWords.{parts as part-cells}
use Rattle.aes3_lock.proofs.SubframeWords.{take-low, take-word, cells-first}
use Rattle.aes3_lock.proofs.QuietWords.{lowest-one}
use Rattle.aes3_lock.proofs.WordSteps.{more-cells, made-whole, start, start-length, start-last, keeps-part}
use Rattle.aes3_lock.proofs.Following.{hand, hand-open, offset, tested, goes-on, push-last}
use Rattle.aes3_lock.proofs.TakenWords.{all-64}
use Rattle.std.proofs.lemmas.Option.{same_Some}
use Rattle.aes3_frame.proofs.CellLaws.{block_len_24576}

-- x has the first cells of the word w behind those of the subframe at offset o of the candidate, and there is room for
-- n of these
pub record Joined (k : LockState) (w x n o : ℕ) : Type 0 where
  pub cells : k.subframe < 2 ^ (o % 64)
      → word_cells x ≡ low_cells (o % 64) k.subframe ++ take (64 - o % 64) (word_cells w)
  pub fits : o % 64 + n ≤ 64
  pub room : o < block_len

-- and they stand as they may
abbrev pub AllRight : Candidate → ℕ → ℕ → ℕ → Type 0
AllRight t x n o = (i : ℕ) → i < n → stands t.level (mark_at (o / 64)) (word_cells x) (o % 64 + i) ≡ true

-- the subframe begun at offset o has these n cells more, and isn't whole
pub record Begun (sub x n o : ℕ) : Type 0 where
  pub short : o % 64 + n < 64
  pub cells : low_cells (o % 64 + n) sub ≡ low_cells (o % 64 + n) x
  pub few : sub < 2 ^ (o % 64 + n)

-- as the word m of the cells that don't says
module _ (t : Candidate) (x o m : ℕ) (mark : Mark) (few : m < 2 ^ 64) (is : mark ≡ mark_at (o / 64))
    (says : (i : ℕ) → i < 64 → bit_at m i ≡ (if stands t.level mark (word_cells x) i then 0 else 1)) where
  pub all-right : (n : ℕ) → n ≤ trailing_zeros w64 (m / 2 ^ (o % 64)) → o % 64 + n ≤ 64 → AllRight t x n o
  all-right n h fits i g =
      ap (λ y. stands t.level y (word_cells x) (o % 64 + i)) (sym is)
      ∙ true-from_zero _ (sym (says (o % 64 + i) (omega (arith, fits, g))) ∙ sym (bit_at-shr m (o % 64) i)
      ∙ below-trailing (m / 2 ^ (o % 64)) i (let d = shr_le m (o % 64) in omega (arith, d, few)) (omega (arith, h, g)))

  pub next-wrong : (n : ℕ) → n ≡ trailing_zeros w64 (m / 2 ^ (o % 64)) → o % 64 + n < 64
      → stands t.level (mark_at (o / 64)) (word_cells x) (o % 64 + n) ≡ false
  next-wrong n e h =
      ap (λ y. stands t.level y (word_cells x) (o % 64 + n)) (sym is)
      ∙ false-from_one _ (sym (says (o % 64 + n) h) ∙ sym (bit_at-shr m (o % 64) n)
      ∙ lowest-one (m / 2 ^ (o % 64)) n (let d = shr_le m (o % 64) in omega (arith, d, few)) e (omega (arith, h)))

module _ (k : LockState) (t : Candidate) (c : List Level) (w x n : ℕ) (f : Follows k c) (s : k.candidate ≡ Some t)
    (given : Joined k w x n (k.seen - t.at)) where
  abbrev d : List Level
  d = drop t.at c

  abbrev p : ℕ
  p = length (drop t.at c) % 64

  abbrev tail : List Level
  tail = drop (64 * (length (drop t.at c) / 64)) (drop t.at c)

  in-hand : OpenAt k.subframe k.words t c
  in-hand = hand k t c f s

  here : Joined k w x n (length d)
  here = subst (λ o. Joined k w x n o) (offset k t c f s) given

  len : length (low_cells n w) ≡ n
  len = length-low_cells n w

  parts : take (p + n) (word_cells x) ≡ low_cells p k.subframe ++ low_cells n w
  parts =
      let j = here.fits in
      ap (take (p + n)) (here.cells in-hand.gathered.few)
      ∙ ap (λ m. take (m + n) (low_cells p k.subframe ++ take (64 - p) (word_cells w)))
      (sym (length-low_cells p k.subframe))
      ∙ take-append-add (low_cells p k.subframe) (take (64 - p) (word_cells w)) n
      ∙ ap (λ b. low_cells p k.subframe ++ b) (ap (take n) (take-word (64 - p) w (omega arith))
      ∙ take-low n (64 - p) w (omega (arith, j)))

  part : take (p + n) (word_cells x) ≡ tail ++ low_cells n w
  part = parts ∙ ap (λ a. a ++ low_cells n w) in-hand.gathered.cells

  inside : (i : ℕ) → i < p + n
      → keeps (entry d) (d ++ low_cells n w) (64 * (length d / 64) + i) ≡ stands t.level (mark_at (length d / 64))
      (word_cells x) i
  inside i h =
      let j = here.fits in
      let m = length-word x in
      let l = length-take-le (p + n) (word_cells x) (omega (arith, j, m)) in
      ap (λ v. keeps (entry d) v (64 * (length d / 64) + i))
      (ap (λ v. v ++ low_cells n w) (sym (take-append-drop (64 * (length d / 64)) d))
      ∙ append_assoc (start (entry d) d) tail (low_cells n w))
      ∙ keeps-part (entry d) t.level (start (entry d) d) (tail ++ low_cells n w) (length d / 64) i
      (start-length (entry d) d)
      (sym (in-hand.gathered.level ∙ start-last (entry d) d)) (omega (arith, h, j))
      ∙ ap (λ v. stands t.level (mark_at (length d / 64)) v i) (sym part)
      ∙ sym (stands-append t.level (mark_at (length d / 64)) (take (p + n) (word_cells x))
      (drop (p + n) (word_cells x)) i (omega (arith, l, h)))
      ∙ ap (λ v. stands t.level (mark_at (length d / 64)) v i) (take-append-drop (p + n) (word_cells x))

  kept : AllRight t x n (length d) → (i : ℕ) → i < length (d ++ low_cells n w)
      → keeps (entry d) (d ++ low_cells n w) i ≡ true
  kept right i h = go (cases_lt i (length d))
    where
      go : (i < length d) ⊎ (length d ≤ i) → keeps (entry d) (d ++ low_cells n w) i ≡ true
      go (inl g) =
          let a = (hand-open k t c f s).all in
          keeps-append (entry d) d (low_cells n w) i g ∙ (front-is (entry d) d).kept i (omega (arith, a, g))
      go (inr g) =
          let a = length-append d (low_cells n w) in
          let l = len in
          let e : i ≡ 64 * (length d / 64) + (p + (i - length d)) = omega (arith, g) in
          ap (keeps (entry d) (d ++ low_cells n w)) e ∙ inside (p + (i - length d)) (omega (arith, a, l, h, g))
          ∙ right (i - length d) (omega (arith, a, l, h, g))

  on : AllRight t x n (k.seen - t.at) → (k' : LockState) (u : Candidate) → k'.seen ≡ k.seen + n
      → k'.recent ≡ drop n (k.recent ++ low_cells n w) → k'.candidate ≡ Some u → u.at ≡ t.at → u.before ≡ t.before
      → Gathered u.level k'.subframe k'.words (entry d) (d ++ low_cells n w) → Follows k' (c ++ low_cells n w)
      × (decided (c ++ low_cells n w) ≡ decided c)
  on right k' u e1 e2 e3 e4 e5 g =
      let a = length-append d (low_cells n w) in
      let b = length-append c (low_cells n w) in
      let l = len in
      let j = here.fits in
      let r = here.room in
      let z = block_len_64 in
      let q = f.seen in
      goes-on k k' t u c (low_cells n w) f s (omega (arith, a, l, j, r, z))
      (kept (subst (AllRight t x n) (offset k t c f s) right)) (omega (arith, b, l, q, e1))
      (e2 ∙ ap₂ (λ m r. drop m (r ++ low_cells n w)) (sym len) f.recent
      ∙ sym (last_eight-more c (low_cells n w))) e3 e4 e5 g

  -- the subframe isn't whole then
  pub part-next : AllRight t x n (k.seen - t.at) → (k' : LockState) → k'.seen ≡ k.seen + n
      → k'.recent ≡ drop n (k.recent ++ low_cells n w) → k'.candidate ≡ Some t → k'.words ≡ k.words
      → Begun k'.subframe x n (k.seen - t.at) → Follows k' (c ++ low_cells n w)
      × (decided (c ++ low_cells n w) ≡ decided c)
  part-next right k' e1 e2 e3 e4 b =
      on right k' t e1 e2 e3 refl refl
      (subst (λ v. Gathered t.level k'.subframe v (entry d) (d ++ low_cells n w)) (sym e4)
      (more-cells t.level k.subframe k'.subframe k.words (entry d) d (low_cells n w) in-hand.gathered (let l = len in
      let q = r.short in omega (arith, l, q))
      (λ g. ap (λ m. low_cells (p + m) k'.subframe) len ∙ r.cells
      ∙ sym (take-word (p + n) x (let q = r.short in omega (arith, q))) ∙ parts)
      (λ g. subst (λ m. k'.subframe < 2 ^ (p + m)) (sym len) r.few)))
    where
      r : Begun k'.subframe x n (length d)
      r = subst (λ o. Begun k'.subframe x n o) (offset k t c f s) b

  -- or it is
  pub part-whole : AllRight t x n (k.seen - t.at) → (k' : LockState) → k'.seen ≡ k.seen + n
      → k'.recent ≡ drop n (k.recent ++ low_cells n w)
      → k'.candidate ≡ Some (record { at = t.at; before = t.before; level = at (word_cells x) 63 }) → k'.subframe ≡ 0
      → k'.words ≡ set k.words ((k.seen - t.at) / 64) x → length k.words ≡ block_subframes → (k.seen - t.at) % 64 + n ≡ 64
      → Follows k' (c ++ low_cells n w) × (decided (c ++ low_cells n w) ≡ decided c)
  part-whole right k' e1 e2 e3 e4 e5 lw h =
      on right k' (record { at = t.at; before = t.before; level = at (word_cells x) 63 }) e1 e2 e3 refl refl
      (subst (λ y. Gathered (at (word_cells x) 63) y k'.words (entry d) (d ++ low_cells n w)) (sym e4)
      (subst (λ y. Gathered (at (word_cells x) 63) 0 y (entry d) (d ++ low_cells n w))
      (sym (e5 ∙ ap (λ o. set k.words (o / 64) x) off))
      (subst (λ y. Gathered (at (word_cells x) 63) 0 (set k.words (length d / 64) x) (entry d) (d ++ y))
      (append-nil (low_cells n w))
      (made-whole (entry d) d (low_cells n w) [] (word_cells x) (sym (all-64 x)
      ∙ ap (λ m. take m (word_cells x)) (let e : 64 ≡ p + n = omega (arith, h, off) in e) ∙ part) (length-word x)
      t.level k.subframe 0 x k.words in-hand.gathered lw here.room (omega arith) refl (omega arith) refl))))
    where
      off : k.seen - t.at ≡ length d
      off = offset k t c f s

  -- and of the same cells the others of the word come next
  part-behind : (k' : LockState) → Begun k'.subframe x n (k.seen - t.at) → Joined k' (w / 2 ^ n) x 1 (k.seen - t.at + n)
  part-behind k' b = subst (λ o. Joined k' (w / 2 ^ n) x 1 (o + n)) (sym (offset k t c f s)) (record {
    cells = λ _. rw m next;
    fits = let q = r.short in omega (arith, m, q);
    room = let q = r.short in let z = block_len_64 in let h = here.room in omega (arith, q, z, h);
  })
    where
      r : Begun k'.subframe x n (length d)
      r = subst (λ o. Begun k'.subframe x n o) (offset k t c f s) b

      m : (length d + n) % 64 ≡ p + n
      m = let q = r.short in omega (arith, q)

      others : List Level
      others = low_cells (64 - (p + n)) (w / 2 ^ n)

      rest : take (64 - p) (word_cells w) ≡ low_cells n w ++ others
      rest =
          let q = r.short in
          take-word (64 - p) w (omega arith)
          ∙ ap (λ j. low_cells j w) (let e : 64 - p ≡ n + (64 - (p + n)) = omega (arith, q) in e)
          ∙ low_cells-add n (64 - (p + n)) w

      next : word_cells x ≡ low_cells (p + n) k'.subframe ++ take (64 - (p + n)) (word_cells (w / 2 ^ n))
      next =
          let q = r.short in
          here.cells in-hand.gathered.few ∙ ap (λ b. low_cells p k.subframe ++ b) rest
          ∙ sym (append_assoc (low_cells p k.subframe) (low_cells n w) others)
          ∙ ap (λ a. a ++ others) (sym parts ∙ take-word (p + n) x (omega (arith, q)) ∙ sym r.cells)
          ∙ ap (λ b. low_cells (p + n) k'.subframe ++ b) (sym (take-word (64 - (p + n)) (w / 2 ^ n) (omega arith)))

-- a cell that does not stand as it may ends the candidate
pub part-stops : (k : LockState) (t : Candidate) (c : List Level) (w x : ℕ) → Follows k c → k.candidate ≡ Some t
    → Joined k w x 1 (k.seen - t.at)
    → stands t.level (mark_at ((k.seen - t.at) / 64)) (word_cells x) ((k.seen - t.at) % 64) ≡ false
    → Stops k (level_of (w % 2))
part-stops k t c w x f s given wrong =
    let o = offset k t c f s in record {
      in_hand = t;
      is = s;
      stop = λ h. tested k t c (level_of (w % 2)) f s
          ∙ ap (keeps (entry (drop t.at c)) (drop t.at c ++ low_cells 1 w)) (omega arith)
          ∙ inside k t c w x 1 f s given (length (drop t.at c) % 64) (omega arith)
          ∙ ap (λ o. stands t.level (mark_at (o / 64)) (word_cells x) (o % 64)) (sym o) ∙ wrong;
    }

-- nor does one behind some that do
pub part-ends : (k k' : LockState) (t : Candidate) (c : List Level) (w x n : ℕ) → Follows k c → k.candidate ≡ Some t
    → Joined k w x n (k.seen - t.at)
    → Follows k' (c ++ low_cells n w) → k'.seen ≡ k.seen + n → k'.candidate ≡ Some t
    → Begun k'.subframe x n (k.seen - t.at)
    → stands t.level (mark_at ((k.seen - t.at) / 64)) (word_cells x) ((k.seen - t.at) % 64 + n) ≡ false
    → Stops k' (level_of (w / 2 ^ n % 2))
part-ends k k' t c w x n f s given f' e s' b wrong =
    let i = (in-hand k t c w x n f s given).within in
    let z = f.seen in
    let q = b.short in
    let o : k.seen - t.at + n ≡ k'.seen - t.at = omega (arith, i, z, e) in
    let d : (k'.seen - t.at) / 64 ≡ (k.seen - t.at) / 64 = omega (arith, o, q) in
    let r : (k'.seen - t.at) % 64 ≡ (k.seen - t.at) % 64 + n = omega (arith, o, q) in
    part-stops k' t (c ++ low_cells n w) (w / 2 ^ n) x f' s'
    (subst (λ j. Joined k' (w / 2 ^ n) x 1 j) o (part-behind k t c w x n f s given k' b))
    (ap₂ (λ u v. stands t.level (mark_at u) (word_cells x) v) d r ∙ wrong)

-- and that cell ends the candidate
module _ (k k' : LockState) (t : Candidate) (c : List Level) (w x n : ℕ) (f : Follows k c) (s : k.candidate ≡ Some t)
    (lw : length k.words ≡ block_subframes)
    (given : Joined k w x n (k.seen - t.at)) (short : (k.seen - t.at) % 64 + n < 64)
    (right : AllRight t x n (k.seen - t.at))
    (wrong : stands t.level (mark_at ((k.seen - t.at) / 64)) (word_cells x) ((k.seen - t.at) % 64 + n) ≡ false) where
  last : Level
  last = level_of (w / 2 ^ n % 2)

  -- what is kept between them
  abbrev between : LockState
  between = record {
    seen = k.seen + n;
    recent = drop n (k.recent ++ low_cells n w);
    candidate = Some t;
    subframe = bit_and x (1 * 2 ^ ((k.seen - t.at) % 64 + n) % 2 ^ 64 - 1);
    words = k.words;
  }

  begun-so-far : Begun between.subframe x n (k.seen - t.at)
  begun-so-far = record {
    short = short;
    cells = cells-first ((k.seen - t.at) % 64 + n) x short;
    few =
        let a = and_le_r x (1 * 2 ^ ((k.seen - t.at) % 64 + n) % 2 ^ 64 - 1) in
        let e = one_shl ((k.seen - t.at) % 64 + n) 64 short in
        let z = pow_pos ((k.seen - t.at) % 64 + n) in
        omega (arith, a, e, z);
  }

  so-far : Follows between (c ++ low_cells n w) × (decided (c ++ low_cells n w) ≡ decided c)
  so-far = part-next k t c w x n f s given right between refl refl refl refl begun-so-far

  ends-there : Stops between last
  unfolding last
  ends-there = part-ends k between t c w x n f s given so-far.0 refl refl begun-so-far wrong

  same-hand : ends-there.in_hand ≡ t
  same-hand = same_Some _ _ (sym ends-there.is)

  with-last : low_cells (n + 1) w ≡ low_cells n w ++ last ∷ []
  unfolding last
  with-last = low_cells-add n 1 w

  pub part-refuted : k'.seen ≡ k.seen + (n + 1) → k'.recent ≡ drop (n + 1) (k.recent ++ low_cells (n + 1) w)
      → k'.candidate ≡ begun k'.seen k'.recent
      → low_cells 8 k'.subframe ≡ k'.recent → k'.subframe < 2 ^ 8
      → Follows k' (c ++ low_cells (n + 1) w)
      × (decided (c ++ low_cells (n + 1) w) ≡ decided c ++ Fault t.at (k.seen + n) (why_of (k.seen + n - t.at)) ∷ [])
      × (decided (c ++ low_cells n w) ≡ decided c)
  unfolding last
  part-refuted e1 e2 e3 e4 e5 = (
    subst (Follows k') cells both.0,
    ap decided (sym cells) ∙ both.1 ∙ ap₂ (λ d r. d ++ r ∷ []) so-far.1 told,
    so-far.1,
  )
    where
      cells : (c ++ low_cells n w) ++ last ∷ [] ≡ c ++ low_cells (n + 1) w
      cells = part-cells c n 1 w

      long : length (k.recent ++ low_cells n w) ≡ 8 + n
      long = length-append k.recent (low_cells n w)
          ∙ ap₂ (λ a b. a + b) (ap length f.recent ∙ length-last_eight c) (length-low_cells n w)

      recent : k'.recent ≡ eight_with between.recent last
      recent =
          e2 ∙ ap (λ v. drop (n + 1) (k.recent ++ v)) with-last
          ∙ ap (drop (n + 1)) (sym (append_assoc k.recent (low_cells n w) (last ∷ [])))
          ∙ drop-append-le (n + 1) (k.recent ++ low_cells n w) (last ∷ []) (let l = long in omega (arith, l))
          ∙ ap (λ v. v ++ last ∷ []) (sym (drop-drop 1 n (k.recent ++ low_cells n w)))

      rule-broken : between.seen - t.at < block_len
          → rule mark_at (between.seen - t.at) last t.level (at between.recent 7) ≡ false
      rule-broken =
          subst (λ (u : Candidate). between.seen - u.at < block_len
          → rule mark_at (between.seen - u.at) last u.level (at between.recent 7) ≡ false) same-hand ends-there.stop

      both : Follows k' ((c ++ low_cells n w) ++ last ∷ [])
          × (decided ((c ++ low_cells n w) ++ last ∷ []) ≡ decided (c ++ low_cells n w) ++
          report_of t.at
          (ended t.before (between.seen - t.at) (same last (at between.recent 7)) (read_words k.words)) ∷ [])
      both = push-last between k' t (c ++ low_cells n w) last so-far.0 lw refl rule-broken
          (omega (arith, e1)) recent e3 (sym e4) e5

      told : report_of t.at
          (ended t.before (between.seen - t.at) (same last (at between.recent 7)) (read_words k.words)) ≡ Fault t.at
          (k.seen + n) (why_of (k.seen + n - t.at))
      told =
          let i = (hand k t c f s).within in
          let z = f.seen in
          let r = given.room in
          let b = block_len_24576 in
          let q = short in
          ap (report_of t.at)
          (ended-early t.before (between.seen - t.at) (same last (at between.recent 7)) (read_words k.words)
          (omega (arith, i, z, r, b, q)))
          ∙ ap (λ v. Fault t.at v (why_of (k.seen + n - t.at))) (let e : t.at + (k.seen + n - t.at) ≡ k.seen + n =
          omega (arith, i, z) in e)
