-- A word of cells behind those that a lock follows.
use Rattle.std.proofs.Common.{◌≡◌, ℕ, suc, ◌+◌, ◌-◌, ◌*◌, ◌/◌, ◌%◌, ◌^◌, ◌<◌, ◌≤◌, List, [], ◌∷◌, ◌++◌, true, Some}
use Rattle.std.proofs.Common.{refl, length, take, drop, set, ap, ap₂, ◌∙◌, sym, subst, arith, length-append}
use Rattle.std.proofs.Common.{length-drop, take-append-drop, take_all, add-one}
use Rattle.std.proofs.lemmas.List.{drop-append-le}
use Rattle.std.proofs.Math.Seq.{get_or-append_seam}
use Rattle.aes3_level.specs.declared.level.Level.{Level}
use Rattle.aes3_level.specs.declared.level.Level.TheVariants.{Low}
use Rattle.aes3_level.specs.Words.{low_cells, word_cells, word_len}
use Rattle.aes3_slot.specs.Rules.{at, AllKept}
use Rattle.aes3_slot.specs.Fronts.{IsFrontOf}
use Rattle.aes3_slot.proofs.Fronts.{kept-from-front, front-from-kept}
use Rattle.aes3_lock.proofs.SubframeWords.{take-word}
use Rattle.aes3_slot.proofs.ReadSubframes.{length-word}
use Rattle.aes3_frame.specs.Blocks.{mark_at, block_subframes, block_len}
use Rattle.aes3_lock.specs.declared.candidate.Candidate.{Candidate}
use Rattle.aes3_slot.specs.Preambles.{entry}
use Rattle.aes3_lock.specs.Candidates.{keeps}
use Rattle.aes3_lock.specs.Reports.{open_at, decided}
use Rattle.aes3_lock.specs.Following.{LockState, Gathered, Follows, OpenAt}
use Rattle.aes3_slot.proofs.Beginnings.{entry-append}
use Rattle.aes3_lock.proofs.Fronts.{front-is}
use Rattle.aes3_lock.proofs.Opens.{IsOpen, is-open, open-room}
use Rattle.aes3_lock.proofs.LastEight.{last_eight-word}
use Rattle.aes3_lock.proofs.WordSteps.{more-cells, made-whole, all-keep, begins-whole, begins-next}
use Rattle.aes3_lock.proofs.Following.{hand, hand-open, offset, goes-on}

-- x has the first cells of the word w behind those of the subframe at offset o of the candidate, and y the others
pub record Parted (k : LockState) (w x y o : ℕ) : Type 0 where
  pub whole : k.subframe < 2 ^ (o % 64)
      → word_cells x ≡ low_cells (o % 64) k.subframe ++ take (64 - o % 64) (word_cells w)
  pub rest : low_cells (o % 64) y ≡ drop (64 - o % 64) (word_cells w)
  pub few : y < 2 ^ (o % 64)

-- x is a subframe where it stands, and y begins the next one
pub record Fits (t : Candidate) (x y o : ℕ) : Type 0 where
  pub room : o + 64 ≤ block_len
  pub whole : IsFrontOf t.level (mark_at (o / 64)) (take 64 (word_cells x))
  pub next : IsFrontOf (at (word_cells x) 63) (mark_at (o / 64 + 1)) (take (o % 64) (word_cells y))

pub all-64 : (x : ℕ) → take 64 (word_cells x) ≡ word_cells x
all-64 x = let l = length-word x in take_all 64 (word_cells x) (omega (arith, l))

module _ (k : LockState) (t : Candidate) (c : List Level) (w x y : ℕ) (f : Follows k c) (s : k.candidate ≡ Some t)
    (given : Parted k w x y (k.seen - t.at)) where
  abbrev d : List Level
  d = drop t.at c

  abbrev p : ℕ
  p = length (drop t.at c) % 64

  abbrev first : List Level
  first = take (64 - length (drop t.at c) % 64) (word_cells w)

  abbrev rest : List Level
  rest = drop (64 - length (drop t.at c) % 64) (word_cells w)

  in-hand : OpenAt k.subframe k.words t c
  in-hand = hand k t c f s

  parted : Parted k w x y (length d)
  parted = subst (λ o. Parted k w x y o) (offset k t c f s) given

  is-whole : word_cells x ≡ drop (64 * (length d / 64)) d ++ first
  is-whole = parted.whole in-hand.gathered.few ∙ ap (λ v. v ++ first) in-hand.gathered.cells

  rest-length : length rest ≡ p
  rest-length = let l = length-word w in let m = length-drop (64 - p) (word_cells w) in omega (arith, l, m)

  rest-cells : low_cells p y ≡ rest
  rest-cells = parted.rest

  both : first ++ rest ≡ word_cells w
  both = take-append-drop (64 - p) (word_cells w)

  so-far : (i : ℕ) → i < length d → keeps (entry d) d i ≡ true
  so-far i h = let a = (hand-open k t c f s).all in (front-is (entry d) d).kept i (omega (arith, a, h))

  -- where it fits, the lock goes on
  pub word-next : (k' : LockState) → length k.words ≡ block_subframes → Fits t x y (k.seen - t.at)
      → k'.seen ≡ k.seen + 64 → k'.recent ≡ drop 56 (word_cells w)
      → k'.candidate ≡ Some (record { at = t.at; before = t.before; level = at (word_cells x) 63 })
      → k'.subframe ≡ y → k'.words ≡ set k.words ((k.seen - t.at) / 64) x
      → Follows k' (c ++ word_cells w) × (decided (c ++ word_cells w) ≡ decided c)
  word-next k' lw fits e1 e2 e3 e4 e5 =
      goes-on k k' t (record { at = t.at; before = t.before; level = at (word_cells x) 63 }) c (word_cells w) f s
      (omega (arith, n, l, room)) kept
      (let a = f.seen in let b = length-append c (word_cells w) in omega (arith, a, b, e1, l))
      (e2 ∙ sym (last_eight-word c (word_cells w) l)) e3 refl refl
      (subst (λ u. Gathered (at (word_cells x) 63) u k'.words (entry d) (d ++ word_cells w)) (sym e4)
      (subst (λ u. Gathered (at (word_cells x) 63) y u (entry d) (d ++ word_cells w)) (sym e5 ∙ refl) gathered))
    where
      l : length (word_cells w) ≡ 64
      l = length-word w

      off : k.seen - t.at ≡ length d
      off = offset k t c f s

      n : length (d ++ word_cells w) ≡ length d + length (word_cells w)
      n = length-append d (word_cells w)

      here : Fits t x y (length d)
      here = subst (λ o. Fits t x y o) off fits

      room : length d + 64 ≤ block_len
      room = here.room

      k1 : AllKept (λ _. mark_at (length d / 64)) t.level (word_cells x)
      k1 = subst (AllKept (λ _. mark_at (length d / 64)) t.level) (all-64 x)
          (kept-from-front t.level (mark_at (length d / 64)) (take 64 (word_cells x)) here.whole)

      k2 : AllKept (λ _. mark_at (suc (length d / 64))) (at (word_cells x) 63) rest
      k2 = subst (λ j. AllKept (λ _. mark_at j) (at (word_cells x) 63) rest) (add-one (length d / 64))
          (subst (AllKept (λ _. mark_at (length d / 64 + 1)) (at (word_cells x) 63)) (take-word p y (omega arith)
          ∙ rest-cells)
          (kept-from-front (at (word_cells x) 63) (mark_at (length d / 64 + 1)) (take p (word_cells y)) here.next))

      small : length rest < 64
      small = let r = rest-length in omega (arith, r)

      kept : (i : ℕ) → i < length (d ++ word_cells w) → keeps (entry d) (d ++ word_cells w) i ≡ true
      kept = subst (λ u. (i : ℕ) → i < length (d ++ u) → keeps (entry d) (d ++ u) i ≡ true) both
          (all-keep (entry d) t.level d first rest (word_cells x) is-whole
          (length-word x) in-hand.gathered.level so-far k1 k2 small)

      gathered : Gathered (at (word_cells x) 63) y (set k.words ((k.seen - t.at) / 64) x) (entry d) (d ++ word_cells w)
      gathered = subst
          (λ o. Gathered (at (word_cells x) 63) y (set k.words (o / 64) x) (entry d) (d ++ word_cells w)) (sym off)
          (subst (λ u. Gathered (at (word_cells x) 63) y (set k.words (length d / 64) x) (entry d) (d ++ u)) both
          (made-whole (entry d) d first rest (word_cells x) is-whole
          (length-word x) t.level k.subframe y x k.words in-hand.gathered lw (omega (arith, room)) small
          (ap (λ m. low_cells m y) rest-length ∙ rest-cells)
          (subst (λ m. y < 2 ^ m) (sym rest-length) parted.few) refl))

-- a candidate in hand behind the word has room there
pub word-room : (k : LockState) (t : Candidate) (c : List Level) (w : ℕ) → Follows k c → k.candidate ≡ Some t
    → open_at (drop t.at (c ++ word_cells w)) ≡ true
    → k.seen - t.at + 64 ≤ block_len
word-room k t c w f s o =
    let h = (hand k t c f s).within in
    let r = open-room (drop t.at (c ++ word_cells w)) (is-open (drop t.at (c ++ word_cells w)) o) in
    let n = length-drop t.at (c ++ word_cells w) in
    let m = length-append c (word_cells w) in
    let l = length-word w in
    let q = f.seen in
    omega (arith, h, r, n, m, l, q)

-- and the word fits
module _ (k : LockState) (t : Candidate) (c : List Level) (w x y : ℕ) (f : Follows k c) (s : k.candidate ≡ Some t)
    (given : Parted k w x y (k.seen - t.at)) (o : open_at (drop t.at (c ++ word_cells w)) ≡ true) where
  abbrev e : List Level
  e = drop t.at c

  pub word-fits : Fits t x y (k.seen - t.at)
  word-fits = subst (λ o. Fits t x y o) (sym (offset k t c f s)) (record {
    room = subst (λ o. o + 64 ≤ block_len) (offset k t c f s) (word-room k t c w f s o);
    whole = subst (IsFrontOf t.level (mark_at (length e / 64))) (sym (all-64 x))
        (front-from-kept t.level (mark_at (length e / 64)) (word_cells x) (let l = length-word x in omega (arith, l))
        (begins-whole (entry e) t.level e (first k t c w x y f s given) (rest k t c w x y f s given) (word_cells x)
        (is-whole k t c w x y f s given) (length-word x) in-hand.gathered.level kept));
    next = subst (λ j. IsFrontOf (at (word_cells x) 63) (mark_at j) (take (length e % 64) (word_cells y)))
        (sym (add-one (length e / 64)))
        (subst (IsFrontOf (at (word_cells x) 63) (mark_at (suc (length e / 64))))
        (sym (take-word (length e % 64) y (omega arith) ∙ rest-cells k t c w x y f s given))
        (front-from-kept (at (word_cells x) 63) (mark_at (suc (length e / 64))) (rest k t c w x y f s given)
        (omega (arith, r))
        (begins-next (entry e) t.level e (first k t c w x y f s given) (rest k t c w x y f s given) (word_cells x)
        (is-whole k t c w x y f s given) (length-word x) in-hand.gathered.level
        (omega (arith, r)) kept)));
  })
    where
      in-hand : OpenAt k.subframe k.words t c
      in-hand = hand k t c f s

      r : length (rest k t c w x y f s given) ≡ length e % 64
      r = rest-length k t c w x y f s given

      tail : drop t.at (c ++ word_cells w) ≡ e ++ word_cells w
      tail = let h = in-hand.within in drop-append-le t.at c (word_cells w) (omega (arith, h))

      opened : IsOpen (drop t.at (c ++ word_cells w))
      opened = is-open (drop t.at (c ++ word_cells w)) o

      same : entry (drop t.at (c ++ word_cells w)) ≡ entry e
      same = ap entry tail ∙ entry-append e (word_cells w) (let h = in-hand.within in let l = length-drop t.at c in
          omega (arith, h, l))

      kept-word : (i : ℕ) → i < length (e ++ word_cells w) → keeps (entry e) (e ++ word_cells w) i ≡ true
      kept-word i h =
          let a = opened.all in
          let n = ap length tail in
          ap₂ (λ u v. keeps u v i) (sym same) (sym tail)
          ∙ (front-is (entry (drop t.at (c ++ word_cells w))) (drop t.at (c ++ word_cells w))).kept i
          (omega (arith, a, n, h))

      kept : (i : ℕ) → i < length (e ++ (first k t c w x y f s given ++ rest k t c w x y f s given))
          → keeps (entry e) (e ++ (first k t c w x y f s given ++ rest k t c w x y f s given)) i ≡ true
      kept = subst (λ u. (i : ℕ) → i < length (e ++ u) → keeps (entry e) (e ++ u) i ≡ true)
          (sym (both k t c w x y f s given)) kept-word

-- one more cell of a subframe
pub next-inside : (u : Level) (sub new : ℕ) (words : List ℕ) (s : Level) (d : List Level) (o : ℕ) (l : Level)
    → o % 64 < 63
    → (sub < 2 ^ (o % 64) → low_cells (o % 64 + 1) new ≡ low_cells (o % 64) sub ++ l ∷ [])
    → (sub < 2 ^ (o % 64) → new < 2 ^ (o % 64 + 1))
    → Gathered u sub words s d → o ≡ length d → Gathered u new words s (d ++ l ∷ [])
next-inside u sub new words s d o l h cells few g e =
    more-cells u sub new words s d (l ∷ []) g (omega (arith, e, h))
    (subst (λ n. sub < 2 ^ (n % 64) → low_cells (n % 64 + 1) new ≡ low_cells (n % 64) sub ++ l ∷ []) e cells)
    (subst (λ n. sub < 2 ^ (n % 64) → new < 2 ^ (n % 64 + 1)) e few)

-- its last cell
pub next-whole : (u : Level) (sub new : ℕ) (words : List ℕ) (s : Level) (d : List Level) (o : ℕ) (l : Level)
    → length words ≡ block_subframes → o < block_len → o % 64 ≡ 63
    → (sub < 2 ^ (o % 64) → low_cells (o % 64 + 1) new ≡ low_cells (o % 64) sub ++ l ∷ [])
    → Gathered u sub words s d → o ≡ length d → Gathered l 0 (set words (o / 64) new) s (d ++ l ∷ [])
unfolding word_cells word_len
next-whole u sub new words s d o l lw room h cells g e =
    subst (λ n. Gathered l 0 (set words (n / 64) new) s (d ++ l ∷ [])) (sym e)
    (subst (λ a. Gathered a 0 (set words (length d / 64) new) s (d ++ l ∷ [])) last-is
    (made-whole s d (l ∷ []) [] (word_cells new) is (length-word new) u sub 0 new words g lw (omega (arith, e, room))
    (omega arith) refl (omega arith) refl))
  where
    here : length d % 64 ≡ 63
    here = omega (arith, e, h)

    is : word_cells new ≡ drop (64 * (length d / 64)) d ++ l ∷ []
    is =
        ap (λ n. low_cells n new) (let q : 64 ≡ length d % 64 + 1 = omega (arith, here) in q)
        ∙ subst (λ n. sub < 2 ^ (n % 64) → low_cells (n % 64 + 1) new ≡ low_cells (n % 64) sub ++ l ∷ []) e cells g.few
        ∙ ap (λ v. v ++ l ∷ []) g.cells

    last-is : at (word_cells new) 63 ≡ l
    last-is =
        let n = length-drop (64 * (length d / 64)) d in
        let q : length (drop (64 * (length d / 64)) d) ≡ 63 = omega (arith, n, here) in
        ap₂ at is (sym q) ∙ get_or-append_seam (drop (64 * (length d / 64)) d) l [] Low
