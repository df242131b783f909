-- Eight words of cells at once, behind those that a lock follows.
use Rattle.std.proofs.Common.{◌≡◌, ℕ, zero, suc, ◌+◌, ◌-◌, ◌*◌, ◌/◌, ◌%◌, ◌==◌, ◌^◌, ◌<◌, ◌≤◌, ◌⊎◌, inl, inr, List, []}
use Rattle.std.proofs.Common.{◌∷◌, ◌++◌, Bool, true, false, not, ◌&&◌, Some, refl, length, take, drop, set, get_or}
use Rattle.std.proofs.Common.{replicate, ap, ap₂, ◌∙◌, sym, subst, arith, length-drop, take-append-drop, take_all}
use Rattle.std.proofs.Common.{append_assoc, add-one, get_or-drop, Option, get_or-set_same, get_or-set_other}
use Rattle.std.specs.Prelude.{bit_or, if◌then◌else◌}
use Rattle.std.specs.Int.{bit_at}
use Rattle.std.specs.List.{flat_map}
use Rattle.std.specs.Simd.Lanes.{zip2, fold_l, pick_l}
use Rattle.std.proofs.lemmas.Bool.{cases_eq, cases_lt, false≢true}
use Rattle.std.proofs.lemmas.List.{take_at, get_or-take, get_or_past}
use Rattle.std.proofs.lemmas.Nat.{le_or_l, le_or_r}
use Rattle.std.proofs.lemmas.Nat.Bits.{bit_at-zero}
use Rattle.aes3_level.specs.declared.level.Level.{Level}
use Rattle.aes3_level.specs.Words.{low_cells, word_cells, word_len}
use Rattle.aes3_slot.specs.declared.mark.Mark.{Mark}
use Rattle.aes3_slot.specs.declared.mark.Mark.TheVariants.{X, Y}
use Rattle.aes3_slot.specs.Rules.{at}
use Rattle.aes3_slot.specs.Reading.{same}
use Rattle.aes3_slot.specs.Preambles.{InLanes}
use Rattle.aes3_slot.specs.Fronts.{IsFrontOf, stands, stands_even}
use Rattle.aes3_slot.proofs.RuleTests.{same-true}
use Rattle.aes3_slot.proofs.Fronts.{front-before}
use Rattle.aes3_slot.proofs.ReadSubframes.{length-word}
use Rattle.aes3_slot.proofs.WrongCells.{true-from_zero}
use Rattle.aes3_frame.specs.Blocks.{mark_at, block_subframes, block_len}
use Rattle.aes3_frame.specs.Gathered.{IsRight, with_first}
use Rattle.aes3_frame.proofs.GatheredWords.{length-with_first}
use Rattle.aes3_frame.proofs.ReadCells.{right-subframe, none-wrong, even-by-last}
use Rattle.aes3_lock.specs.declared.candidate.Candidate.{Candidate}
use Rattle.aes3_lock.specs.Reports.{decided}
use Rattle.aes3_lock.specs.Following.{LockState, Follows}
use Rattle.aes3_lock.specs.Eights.{begun_before}
use Rattle.aes3_lock.proofs.Following.{hand, offset}
use Rattle.aes3_lock.proofs.SubframeWords.{cells-rest, rest-few, take-word}
use Rattle.aes3_lock.proofs.TakenWords.{Parted, Fits, all-64, word-next}
use Rattle.aes3_lock.proofs.PushedWords.{next-word, no-words}

-- one more subframe is made whole
pub one-completed : (len begun x front : ℕ) (words subframes : List ℕ) (i : ℕ) → i < length subframes
    → low_cells len front ≡ begun_before len begun words i
    → word_cells x ≡ low_cells len front ++ take (64 - len) (word_cells (get_or words i 0))
    → ((j : ℕ) → j < i
    → word_cells (get_or subframes j 0) ≡ begun_before len begun words j ++ take (64 - len)
    (word_cells (get_or words j 0)))
    → (j : ℕ) → j < i + 1
    → word_cells (get_or (set subframes i x) j 0) ≡ begun_before len begun words j ++ take (64 - len)
    (word_cells (get_or words j 0))
one-completed len begun x front words subframes i h f is before j g = go (cases_eq j i)
  where
    go : (j ≡ i) ⊎ (j ≡ i → ⊥)
        → word_cells (get_or (set subframes i x) j 0) ≡ begun_before len begun words j ++ take (64 - len)
        (word_cells (get_or words j 0))
    go (inl e) =
        ap (λ n. word_cells (get_or (set subframes i x) n 0)) e ∙ ap word_cells (get_or-set_same subframes i x 0 h)
        ∙ is ∙ ap (λ v. v ++ take (64 - len) (word_cells (get_or words i 0))) f
        ∙ ap (λ n. begun_before len begun words n ++ take (64 - len) (word_cells (get_or words n 0))) (sym e)
    go (inr e) = ap word_cells (get_or-set_other subframes i j x 0 e) ∙ before j (omega (arith, g, e))

-- the preambles of subframes that are not a block's first
pub mark-behind : (slot i : ℕ) → 0 < slot
    → (if (i % 2) == 0 then mark_at slot else mark_at (slot + 1)) ≡ mark_at (slot + i)
unfolding mark_at
mark-behind zero i h = absurd (omega arith)
mark-behind (suc s) i h = go (cases_eq (i % 2) 0)
  where
    by : ℕ → Mark
    by n = if n == 0 then Y else X

    here : mark_at (suc s + i) ≡ (if ((s + i) % 2) == 0 then Y else X)
    here = ap mark_at (let e : suc s + i ≡ suc (s + i) = omega arith in e)

    next : mark_at (suc s + 1) ≡ (if ((s + 1) % 2) == 0 then Y else X)
    next = ap mark_at (let e : suc s + 1 ≡ suc (s + 1) = omega arith in e)

    go : (i % 2 ≡ 0) ⊎ (i % 2 ≡ 0 → ⊥)
        → (if (i % 2) == 0 then mark_at (suc s) else mark_at (suc s + 1)) ≡ mark_at (suc s + i)
    go (inl e) =
        ap (λ n. if n == 0 then mark_at (suc s) else mark_at (suc s + 1)) e
        ∙ ap (λ n. if n == 0 then Y else X) (let q : s % 2 ≡ (s + i) % 2 = omega (arith, e) in q) ∙ sym here
    go (inr e) =
        ap (λ n. if n == 0 then mark_at (suc s) else mark_at (suc s + 1)) (let q : i % 2 ≡ 1 = omega (arith, e) in q)
        ∙ next ∙ ap (λ n. if n == 0 then Y else X) (let q : (s + 1) % 2 ≡ (s + i) % 2 = omega (arith, e) in
        q) ∙ sym here

pub right-front : (s : Level) (m : Mark) (c w : ℕ) → w ≡ 0
    → ((i : ℕ) → i < 64 → bit_at w i ≡ (if stands s m (word_cells c) i then 0 else 1))
    → IsFrontOf s m (take 64 (word_cells c))
right-front s m c w z h =
    front-before s m (word_cells c) 64 (length-word c) (omega arith) (λ i g.
    true-from_zero (stands s m (word_cells c) i) (sym (h i g) ∙ ap (λ x. bit_at x i) z ∙ bit_at-zero i))

-- with right parity it is the subframe of its payload
pub right-word : (s : Level) (m : Mark) (c w : ℕ) → w ≡ 0
    → ((i : ℕ) → i < 64 → bit_at w i ≡ (if stands s m (word_cells c) i then 0 else 1))
    → at (word_cells c) 63 ≡ s → IsRight s m c
right-word s m c w z h e =
    let n = none-wrong s m c w z h in
    right-subframe s m c n (even-by-last s m c n e)

-- numbers whose or is zero
or-zero : (a : ℕ) (xs : List ℕ) → fold_l bit_or a xs ≡ 0 → (a ≡ 0) × ((i : ℕ) → get_or xs i 0 ≡ 0)
or-zero a [] e = (e, λ i. refl)
or-zero a (x ∷ xs) e =
    let rest = or-zero (bit_or a x) xs e in
    let z = rest.0 in
    let p = le_or_l a x in
    let q = le_or_r a x in
    (omega (arith, z, p), each x xs (omega (arith, z, q)) rest.1)
  where
    each : (x : ℕ) (xs : List ℕ) → x ≡ 0 → ((i : ℕ) → get_or xs i 0 ≡ 0) → (i : ℕ) → get_or (x ∷ xs) i 0 ≡ 0
    each x xs z f zero = z
    each x xs z f (suc i) = f i

not-one : (b : Bool) → ◌≡◌ {A = ℕ} 0 (if not b then 1 else 0) → b ≡ true
not-one true e = refl
not-one false e = absurd (omega arith)

-- no cell of number i is wrong
pub lane-stands : (s : Level) (m : ℕ → Mark) (v lanes : List ℕ)
    → InLanes lanes (λ i k. not (stands_even s (m i) (word_cells (get_or v i 0)) k)) → fold_l bit_or 0 lanes ≡ 0
    → (i k : ℕ) → i < 8 → k < 64 → stands_even s (m i) (word_cells (get_or v i 0)) k ≡ true
lane-stands s m v lanes told e i k h g =
    not-one (stands_even s (m i) (word_cells (get_or v i 0)) k) (sym (bit_at-zero k)
    ∙ ap (λ x. bit_at x k) (sym ((or-zero 0 lanes e).1 i)) ∙ told.bits i k h g)

and-first : (a b : Bool) → a && b ≡ true → a ≡ true
and-first true b e = refl
and-first false b e = e

and-second : (a b : Bool) → a && b ≡ true → b ≡ true
and-second true b e = e
and-second false b e = absurd (false≢true e)

stands-bit : (b : Bool) → b ≡ true → ◌≡◌ {A = ℕ} 0 (if b then 0 else 1)
stands-bit b e = ap (λ b. if b then 0 else 1) (sym e)

-- the subframes all of whose cells stand, with the level s last
module _ (s : Level) (m : Mark) (c : ℕ) (all : (k : ℕ) → k < 64 → stands_even s m (word_cells c) k ≡ true) where
  none : (k : ℕ) → k < 64 → bit_at 0 k ≡ (if stands s m (word_cells c) k then 0 else 1)
  none k g = bit_at-zero k ∙ stands-bit (stands s m (word_cells c) k) (and-first _ _ (all k g))

  pub even-front : IsFrontOf s m (take 64 (word_cells c))
  even-front = right-front s m c 0 refl none

  pub even-last : at (word_cells c) 63 ≡ s
  even-last = same-true (at (word_cells c) 63) s
      (and-second (stands s m (word_cells c) 63) (same (at (word_cells c) 63) s) (all 63 (omega arith)))

  pub even-word : IsRight s m c
  even-word = right-word s m c 0 refl none even-last

-- the preamble of a subframe is that of one an even number behind it
pub mark-even : (slot n i : ℕ) → 0 < slot → n % 2 ≡ 0 → mark_at (slot + i) ≡ mark_at (slot + n + i)
unfolding mark_at
mark-even zero n i h e = absurd (omega arith)
mark-even (suc s) n i h e =
    ap mark_at (let q : suc s + i ≡ suc (s + i) = omega arith in q)
    ∙ ap (λ n. if n == 0 then Y else X) (let q : (s + i) % 2 ≡ (s + n + i) % 2 = omega (arith, e) in q)
    ∙ ap mark_at (let q : suc (s + n + i) ≡ suc s + n + i = omega arith in q)

front-take : (s : Level) (m : Mark) (v : List Level) (p : ℕ) → IsFrontOf s m v → IsFrontOf s m (take p v)
front-take s m v p f = record {
  bits = f.bits;
  count = f.count;
  rest = drop p v ++ f.rest;
  is = f.is ∙ ap (λ x. x ++ f.rest) (sym (take-append-drop p v)) ∙ append_assoc (take p v) (drop p v) f.rest;
}

rest-cells : (p w : ℕ) → p < 64 → low_cells p (w / 2 ^ 1 / 2 ^ (63 - p)) ≡ drop (64 - p) (word_cells w)
unfolding word_cells word_len
rest-cells p w h = cells-rest p w h

-- the last cells of each of eight words, moved down, one word on, with others before them
abbrev pub moved_on : ℕ → ℕ → List ℕ → List ℕ
moved_on len begun ws =
    let rests = zip2 (λ x s. x / 2 ^ s) (zip2 (λ x s. x / 2 ^ s) ws (replicate 8 1)) (replicate 8 (63 - len)) in
    set (pick_l 0 (rests ++ rests) (7 ∷ 0 ∷ 1 ∷ 2 ∷ 3 ∷ 4 ∷ 5 ∷ 6 ∷ [])) 0 begun

pub moved-cells : (len begun : ℕ) (ws : List ℕ) → length ws ≡ 8 → len < 64 → (i : ℕ) → i < 8
    → low_cells len (get_or (moved_on len begun ws) i 0) ≡ begun_before len begun ws i
moved-cells len begun (a ∷ b ∷ c ∷ d ∷ e ∷ f ∷ g ∷ h ∷ []) l m zero k = refl
moved-cells len begun (a ∷ b ∷ c ∷ d ∷ e ∷ f ∷ g ∷ h ∷ []) l m (suc zero) k = rest-cells len a m
moved-cells len begun (a ∷ b ∷ c ∷ d ∷ e ∷ f ∷ g ∷ h ∷ []) l m (suc (suc zero)) k = rest-cells len b m
moved-cells len begun (a ∷ b ∷ c ∷ d ∷ e ∷ f ∷ g ∷ h ∷ []) l m (suc (suc (suc zero))) k = rest-cells len c m
moved-cells len begun (a ∷ b ∷ c ∷ d ∷ e ∷ f ∷ g ∷ h ∷ []) l m (suc (suc (suc (suc zero)))) k = rest-cells len d m
moved-cells len begun (a ∷ b ∷ c ∷ d ∷ e ∷ f ∷ g ∷ h ∷ []) l m (suc (suc (suc (suc (suc zero))))) k = rest-cells len e m
moved-cells len begun (a ∷ b ∷ c ∷ d ∷ e ∷ f ∷ g ∷ h ∷ []) l m (suc (suc (suc (suc (suc (suc zero)))))) k =
    rest-cells len f m
moved-cells len begun (a ∷ b ∷ c ∷ d ∷ e ∷ f ∷ g ∷ h ∷ []) l m (suc (suc (suc (suc (suc (suc (suc zero))))))) k =
    rest-cells len g m
moved-cells len begun (a ∷ b ∷ c ∷ d ∷ e ∷ f ∷ g ∷ h ∷ []) l m (suc (suc (suc (suc (suc (suc (suc (suc i)))))))) k =
    absurd (omega arith)
moved-cells len begun _ l m i k = absurd (omega arith)

pub moved-few : (len begun : ℕ) (ws : List ℕ) → length ws ≡ 8 → len < 64 → begun < 2 ^ len
    → ((i : ℕ) → i < 8 → get_or ws i 0 < 2 ^ 64)
    → (i : ℕ) → i < 8 → get_or (moved_on len begun ws) i 0 < 2 ^ len
moved-few len begun (a ∷ b ∷ c ∷ d ∷ e ∷ f ∷ g ∷ h ∷ []) l m q fit zero k = q
moved-few len begun (a ∷ b ∷ c ∷ d ∷ e ∷ f ∷ g ∷ h ∷ []) l m q fit (suc zero) k = rest-few len a m (fit 0 (omega arith))
moved-few len begun (a ∷ b ∷ c ∷ d ∷ e ∷ f ∷ g ∷ h ∷ []) l m q fit (suc (suc zero)) k =
    rest-few len b m (fit 1 (omega arith))
moved-few len begun (a ∷ b ∷ c ∷ d ∷ e ∷ f ∷ g ∷ h ∷ []) l m q fit (suc (suc (suc zero))) k =
    rest-few len c m (fit 2 (omega arith))
moved-few len begun (a ∷ b ∷ c ∷ d ∷ e ∷ f ∷ g ∷ h ∷ []) l m q fit (suc (suc (suc (suc zero)))) k =
    rest-few len d m (fit 3 (omega arith))
moved-few len begun (a ∷ b ∷ c ∷ d ∷ e ∷ f ∷ g ∷ h ∷ []) l m q fit (suc (suc (suc (suc (suc zero))))) k =
    rest-few len e m (fit 4 (omega arith))
moved-few len begun (a ∷ b ∷ c ∷ d ∷ e ∷ f ∷ g ∷ h ∷ []) l m q fit (suc (suc (suc (suc (suc (suc zero)))))) k =
    rest-few len f m (fit 5 (omega arith))
moved-few len begun (a ∷ b ∷ c ∷ d ∷ e ∷ f ∷ g ∷ h ∷ []) l m q fit (suc (suc (suc (suc (suc (suc (suc zero))))))) k =
    rest-few len g m (fit 6 (omega arith))
moved-few len begun (a ∷ b ∷ c ∷ d ∷ e ∷ f ∷ g ∷ h ∷ []) l m q fit (suc (suc (suc (suc (suc (suc (suc (suc i)))))))) k =
    absurd (omega arith)
moved-few len begun _ l m q fit i k = absurd (omega arith)

-- the cells begun are few
pub begun-few : (k : LockState) (t : Candidate) (c : List Level) → Follows k c → k.candidate ≡ Some t
    → k.subframe < 2 ^ ((k.seen - t.at) % 64)
begun-few k t c f s = subst (λ n. k.subframe < 2 ^ (n % 64)) (sym (offset k t c f s)) (hand k t c f s).gathered.few

-- words ws that make the subframes xs whole, which are right
module _ (k : LockState) (t : Candidate) (c : List Level) (ws xs : List ℕ) (f : Follows k c) (s : k.candidate ≡ Some t)
    (lw : length k.words ≡ block_subframes)
    (count : length ws ≡ 8) (fit : (i : ℕ) → get_or ws i 0 < 2 ^ 64) (room : k.seen - t.at + 512 ≤ block_len)
    (joined : (i : ℕ) → i < 8
    → word_cells (get_or xs i 0) ≡ begun_before ((k.seen - t.at) % 64) k.subframe ws i ++ take
    (64 - (k.seen - t.at) % 64) (word_cells (get_or ws i 0)))
    (fronts : (i : ℕ) → i < 8
    → IsFrontOf t.level (mark_at ((k.seen - t.at) / 64 + i)) (take 64 (word_cells (get_or xs i 0))))
    (levels : (i : ℕ) → i < 8 → at (word_cells (get_or xs i 0)) 63 ≡ t.level) where
  abbrev o : ℕ
  o = k.seen - t.at

  abbrev p : ℕ
  p = (k.seen - t.at) % 64

  abbrev so_far : ℕ → List Level
  so_far n = c ++ flat_map word_cells (take n ws)

  -- the cells behind the last whole subframe begin the next one
  abbrev rest : ℕ → ℕ
  rest n = get_or ws n 0 / 2 ^ 1 / 2 ^ (63 - (k.seen - t.at) % 64)

  rest-is : (n : ℕ) → low_cells p (rest n) ≡ drop (64 - p) (word_cells (get_or ws n 0))
  rest-is n = rest-cells p (get_or ws n 0) (omega arith)

  next-front : (n : ℕ) → suc n < 8 → IsFrontOf t.level (mark_at (o / 64 + suc n)) (take p (word_cells (rest n)))
  next-front n h =
      let w = get_or ws n 0 in
      let x = get_or xs (suc n) 0 in
      let a = length-drop (64 - p) (word_cells w) in
      let l = length-word w in
      subst (IsFrontOf t.level (mark_at (o / 64 + suc n)))
      (ap (take p) (joined (suc n) h)
      ∙ take_at (drop (64 - p) (word_cells w)) (take (64 - p) (word_cells (get_or ws (suc n) 0))) p
      (omega (arith, a, l))
      ∙ sym (rest-is n) ∙ sym (take-word p (rest n) (omega arith)))
      (front-take t.level (mark_at (o / 64 + suc n)) (word_cells x) p
      (subst (IsFrontOf t.level (mark_at (o / 64 + suc n))) (all-64 x) (fronts (suc n) h)))

  -- a lock behind the first n words takes one more
  step : (n : ℕ) → n < 8 → (kn : LockState) → Follows kn (so_far n) → decided (so_far n) ≡ decided c
      → kn.candidate ≡ Some t → kn.seen ≡ k.seen + 64 * n
      → kn.words ≡ with_first (o / 64) k.words xs n
      → (kn.subframe < 2 ^ p → low_cells p kn.subframe ≡ begun_before p k.subframe ws n)
      → (y : ℕ) → low_cells p y ≡ drop (64 - p) (word_cells (get_or ws n 0)) → y < 2 ^ p
      → IsFrontOf t.level (mark_at (o / 64 + suc n)) (take p (word_cells y))
      → (k' : LockState) → k'.seen ≡ k.seen + 64 * suc n → k'.recent ≡ drop 56 (word_cells (get_or ws n 0))
      → k'.candidate ≡ Some t → k'.subframe ≡ y
      → k'.words ≡ with_first (o / 64) k.words xs (suc n)
      → Follows k' (so_far (suc n)) × (decided (so_far (suc n)) ≡ decided c)
  step n h kn fn dn sn seen words begun y yc yf next k' e1 e2 e3 e4 e5 =
      (subst (Follows k') more one.0, ap decided (sym more) ∙ one.1 ∙ dn)
    where
      w : ℕ
      w = get_or ws n 0

      x : ℕ
      x = get_or xs n 0

      within : t.at ≤ k.seen
      within = let a = (hand k t c f s).within in let b = f.seen in omega (arith, a, b)

      off : kn.seen - t.at ≡ o + 64 * n
      off = omega (arith, within, seen)

      place : o / 64 + n ≡ (kn.seen - t.at) / 64
      place = omega (arith, off)

      part : p ≡ (kn.seen - t.at) % 64
      part = omega (arith, off)

      more : so_far n ++ word_cells w ≡ so_far (suc n)
      more = next-word c ws n (omega (arith, count, h)) ∙ ap so_far (add-one n)

      parted : Parted kn w x y (kn.seen - t.at)
      parted = record {
        whole = subst
            (λ q. kn.subframe < 2 ^ q → word_cells x ≡ low_cells q kn.subframe ++ take (64 - q) (word_cells w)) part
            (λ b. joined n h ∙ ap (λ v. v ++ take (64 - p) (word_cells w)) (sym (begun b)));
        rest = subst (λ q. low_cells q y ≡ drop (64 - q) (word_cells w)) part yc;
        few = subst (λ q. y < 2 ^ q) part yf;
      }

      fits : Fits t x y (kn.seen - t.at)
      fits = record {
        room = omega (arith, off, room, h);
        whole = subst (λ q. IsFrontOf t.level (mark_at q) (take 64 (word_cells x))) place (fronts n h);
        next = subst
            (λ u. IsFrontOf u (mark_at ((kn.seen - t.at) / 64 + 1)) (take ((kn.seen - t.at) % 64) (word_cells y)))
            (sym (levels n h))
            (subst (λ q. IsFrontOf t.level (mark_at q) (take ((kn.seen - t.at) % 64) (word_cells y)))
            (let q : o / 64 + suc n ≡ (kn.seen - t.at) / 64 + 1 = omega (arith, place) in q)
            (subst (λ q. IsFrontOf t.level (mark_at (o / 64 + suc n)) (take q (word_cells y))) part next));
      }

      one : Follows k' (so_far n ++ word_cells w) × (decided (so_far n ++ word_cells w) ≡ decided (so_far n))
      one = word-next kn t (so_far n) w x y fn sn parted k' (ap length words
          ∙ length-with_first (o / 64) k.words xs n ∙ lw) fits
          (omega (arith, e1, seen)) e2
          (e3 ∙ ap (λ v. Some (record { at = t.at; before = t.before; level = v })) (sym (levels n h))) e4
          (e5 ∙ ap₂ (λ v q. set v q x) (sym words) place)

  behind : (n : ℕ) → n < 8
      → (y : ℕ) → low_cells p y ≡ drop (64 - p) (word_cells (get_or ws n 0)) → y < 2 ^ p
      → IsFrontOf t.level (mark_at (o / 64 + suc n)) (take p (word_cells y))
      → (k' : LockState) → k'.seen ≡ k.seen + 64 * suc n → k'.recent ≡ drop 56 (word_cells (get_or ws n 0))
      → k'.candidate ≡ Some t → k'.subframe ≡ y
      → k'.words ≡ with_first (o / 64) k.words xs (suc n)
      → Follows k' (so_far (suc n)) × (decided (so_far (suc n)) ≡ decided c)
  behind zero h =
      step 0 h k (subst (Follows k) (sym (no-words c ws)) f) (ap decided (no-words c ws)) s
      (omega arith) refl (λ b. refl)
  behind (suc n) h =
      let a = behind n (omega arith) (rest n) (rest-is n) (rest-few p (get_or ws n 0) (omega arith) (fit n))
      (next-front n h) (mid n) refl refl refl refl refl in
      step (suc n) h (mid n) a.0 a.1 refl refl refl (λ b. rest-is n)
    where
      mid : ℕ → LockState
      mid n = record {
        seen = k.seen + 64 * suc n;
        recent = drop 56 (word_cells (get_or ws n 0));
        candidate = Some t;
        subframe = rest n;
        words = with_first (o / 64) k.words xs (suc n);
      }

  pub eight-next : (y : ℕ) → low_cells p y ≡ drop (64 - p) (word_cells (get_or ws 7 0)) → y < 2 ^ p
      → IsFrontOf t.level (mark_at (o / 64 + 8)) (take p (word_cells y))
      → (k' : LockState) → k'.seen ≡ k.seen + 512 → k'.recent ≡ drop 56 (word_cells (get_or ws 7 0))
      → k'.candidate ≡ Some t → k'.subframe ≡ y
      → k'.words ≡ with_first (o / 64) k.words xs 8
      → Follows k' (c ++ flat_map word_cells ws) × (decided (c ++ flat_map word_cells ws) ≡ decided c)
  eight-next y yc yf next k' e1 e2 e3 e4 e5 =
      subst (λ v. Follows k' (c ++ flat_map word_cells v) × (decided (c ++ flat_map word_cells v) ≡ decided c))
      (take_all 8 ws (omega (arith, count)))
      (behind 7 (omega arith) y yc yf next k' e1 e2 e3 e4 e5)

-- the lock behind so many words more
abbrev pub lock_behind : ℕ → ℕ → Candidate → ℕ → List ℕ → ℕ → LockState
lock_behind seen recent t subframe words n = record {
  seen = seen + 64 * n;
  recent = low_cells 8 recent;
  candidate = Some t;
  subframe = subframe;
  words = words;
}

pub behind-none : (seen recent subframe : ℕ) (words : List ℕ) (t : Candidate) (k : Option Candidate) (c : List Level)
    → k ≡ Some t
    → Follows (record { seen = seen; recent = low_cells 8 recent; candidate = k; subframe = subframe; words = words }) c
    → Follows (lock_behind seen recent t subframe words 0) c
behind-none seen recent subframe words t k c e f =
    subst (λ n. Follows (record {
      seen = n;
      recent = low_cells 8 recent;
      candidate = Some t;
      subframe = subframe;
      words = words;
    }) c)
    (let q : seen ≡ seen + 64 * 0 = omega arith in q)
    (subst (λ x. Follows (record {
      seen = seen;
      recent = low_cells 8 recent;
      candidate = x;
      subframe = subframe;
      words = words;
    }) c) e f)

pub behind-is : (seen recent subframe : ℕ) (words : List ℕ) (n : ℕ) (t : Candidate) (k : Option Candidate)
    (c : List Level) → k ≡ Some t
    → Follows (lock_behind seen recent t subframe words n) c
    → Follows (record {
      seen = seen + 64 * n;
      recent = low_cells 8 recent;
      candidate = k;
      subframe = subframe;
      words = words;
    }) c
behind-is seen recent subframe words n t k c e f =
    subst (λ x. Follows (record {
      seen = seen + 64 * n;
      recent = low_cells 8 recent;
      candidate = x;
      subframe = subframe;
      words = words;
    }) c) (sym e) f

-- eight words of others fit as they do
pub front-fits : (ws words : List ℕ) (at : ℕ) → length ws ≡ 8 → ws ≡ take 8 (drop at words)
    → ((i : ℕ) → get_or words i 0 < 2 ^ 64) → (i : ℕ) → get_or ws i 0 < 2 ^ 64
front-fits ws words at l e f i = go (cases_lt i 8)
  where
    go : (i < 8) ⊎ (8 ≤ i) → get_or ws i 0 < 2 ^ 64
    go (inl h) =
        subst (λ x. x < 2 ^ 64)
        (sym (ap (λ v. get_or v i 0) e ∙ get_or-take 8 (drop at words) i 0 h ∙ get_or-drop at words i 0)) (f (at + i))
    go (inr h) = let p = get_or_past ws i 0 (omega (arith, l, h)) in omega (arith, p)

-- the same where their marks are told as those of earlier slots, n before
pub eight-later : (k : LockState) (t : Candidate) (c : List Level) (ws xs : List ℕ) → Follows k c → k.candidate ≡ Some t
    → length k.words ≡ block_subframes
    → length ws ≡ 8 → ((i : ℕ) → get_or ws i 0 < 2 ^ 64) → (slot n len : ℕ) → 0 < slot → n % 2 ≡ 0
    → (k.seen - t.at) / 64 ≡ slot + n → (k.seen - t.at) % 64 ≡ len
    → k.seen - t.at + 512 ≤ block_len
    → ((i : ℕ) → i < 8
    → word_cells (get_or xs i 0) ≡ begun_before len k.subframe ws i ++ take (64 - len) (word_cells (get_or ws i 0)))
    → ((i : ℕ) → i < 8 → IsFrontOf t.level (mark_at (slot + i)) (take 64 (word_cells (get_or xs i 0))))
    → ((i : ℕ) → i < 8 → at (word_cells (get_or xs i 0)) 63 ≡ t.level)
    → (y : ℕ) → low_cells len y ≡ drop (64 - len) (word_cells (get_or ws 7 0)) → y < 2 ^ len
    → IsFrontOf t.level (mark_at (slot + 8)) (take len (word_cells y))
    → (k' : LockState) → k'.seen ≡ k.seen + 512 → k'.recent ≡ drop 56 (word_cells (get_or ws 7 0))
    → k'.candidate ≡ Some t → k'.subframe ≡ y
    → k'.words ≡ with_first (slot + n) k.words xs 8
    → Follows k' (c ++ flat_map word_cells ws) × (decided (c ++ flat_map word_cells ws) ≡ decided c)
eight-later k t c ws xs f s lw count fit slot n len some even place part room joined fronts levels y yc few next k' e1
    e2 e3 e4 e5 =
    let front = λ (i : ℕ) (v : List Level) (g : IsFrontOf t.level (mark_at (slot + i)) v).
    subst (λ m. IsFrontOf t.level m v) (mark-even slot n i some even ∙ ap (λ q. mark_at (q + i)) (sym place)) g in
    eight-next k t c ws xs f s lw count fit room
    (subst (λ p. (i : ℕ) → i < 8
    → word_cells (get_or xs i 0) ≡ begun_before p k.subframe ws i ++ take (64 - p) (word_cells (get_or ws i 0)))
    (sym part) joined)
    (λ i h. front i (take 64 (word_cells (get_or xs i 0))) (fronts i h)) levels y
    (subst (λ p. low_cells p y ≡ drop (64 - p) (word_cells (get_or ws 7 0))) (sym part) yc)
    (subst (λ p. y < 2 ^ p) (sym part) few)
    (front 8 _ (subst (λ p. IsFrontOf t.level (mark_at (slot + 8)) (take p (word_cells y))) (sym part) next))
    k' e1 e2 e3 e4 (e5 ∙ ap (λ q. with_first q k.words xs 8) (sym place))
