-- Cells in which no preamble of a block ends, where no candidate is in hand.
use Rattle.std.proofs.Common.{◌≡◌, ℕ, suc, ◌+◌, ◌-◌, ◌/◌, ◌^◌, ◌<◌, ◌≤◌, ◌⊎◌, inl, inr, List, [], ◌∷◌, ◌++◌, Bool, true}
use Rattle.std.proofs.Common.{false, None, refl, length, take, drop, ap, ap₂, ◌∙◌, sym, subst, arith, length-append}
use Rattle.std.proofs.Common.{length-drop, length-take, min, drop-drop, append_assoc, append-nil, take-append-drop, w64}
use Rattle.std.proofs.Common.{add-one}
use Rattle.std.specs.Prelude.{if◌then◌else◌}
use Rattle.std.specs.Int.{bit_at, trailing_zeros}
use Rattle.std.specs.Int.Count.{trailing_of_zero}
use Rattle.std.proofs.lemmas.List.{drop-append-le}
use Rattle.std.proofs.lemmas.Bool.{cases_eq}
use Rattle.std.proofs.lemmas.Nat.Bits.{bit_at-trailing_zeros, bit_at-zero}
use Rattle.aes3_level.specs.declared.level.Level.{Level}
use Rattle.aes3_level.specs.Words.{level_of, low_cells, word_cells}
use Rattle.aes3_level.proofs.WordCells.{length-low_cells, drop-low_cells, low_cells-suc, below-trailing}
use Rattle.aes3_slot.specs.declared.mark.Mark.TheVariants.{Z}
use Rattle.aes3_slot.specs.Preambles.{with_seven}
use Rattle.aes3_slot.proofs.ReadSubframes.{length-word}
use Rattle.aes3_lock.specs.Candidates.{begins_block}
use Rattle.aes3_lock.specs.Reports.{open_at, decided_from, decided}
use Rattle.aes3_lock.specs.Steps.{last_eight, begun}
use Rattle.aes3_lock.specs.Following.{LockState, Follows, NoneOpen, BeginsIn}
use Rattle.aes3_slot.proofs.Beginnings.{begins-append}
use Rattle.aes3_lock.proofs.Deciding.{decided-push}
use Rattle.aes3_lock.proofs.Opens.{answer-none, none-after}
use Rattle.aes3_lock.proofs.LastEight.{length-last_eight, last_eight-more, last_eight-with, last_eight-word}
use Rattle.aes3_lock.proofs.SubframeWords.{take-low, take-word}
use Rattle.aes3_lock.proofs.Following.{closed, drop-push, push-none}

-- a property of eight cells that end with cell i of the cells d
pub window : {A : Type 0} (q : List Level → A) → ((x y : List Level) → 8 ≤ length x → q (x ++ y) ≡ q x)
    → (c d : List Level) (i : ℕ) → i < length d
    → q (drop i (drop 1 (last_eight c) ++ d)) ≡ q (last_eight (c ++ take (suc i) d))
window q stays c d i g =
    ap q parts ∙ stays (drop (suc i) (last_eight c ++ take (suc i) d)) (drop (suc i) d) (omega (arith, r, a, k, m, g))
    ∙ sym (ap q (last_eight-more c (take (suc i) d) ∙ ap (λ n. drop n (last_eight c ++ take (suc i) d)) here))
  where
    r : length (last_eight c) ≡ 8
    r = length-last_eight c

    k : length (take (suc i) d) ≡ min (suc i) (length d)
    k = length-take (suc i) d

    here : length (take (suc i) d) ≡ suc i
    here = omega (arith, k, g)

    a : length (last_eight c ++ take (suc i) d) ≡ length (last_eight c) + length (take (suc i) d)
    a = length-append (last_eight c) (take (suc i) d)

    m : length (drop (suc i) (last_eight c ++ take (suc i) d)) ≡ length (last_eight c ++ take (suc i) d) - suc i
    m = length-drop (suc i) (last_eight c ++ take (suc i) d)

    parts : drop i (drop 1 (last_eight c) ++ d) ≡ drop (suc i) (last_eight c ++ take (suc i) d) ++ drop (suc i) d
    parts =
        ap (drop i) (sym (drop-append-le 1 (last_eight c) d (omega (arith, r)))) ∙ drop-drop i 1 (last_eight c ++ d)
        ∙ ap₂ drop (let q : 1 + i ≡ suc i = omega arith in q)
        (ap (λ x. last_eight c ++ x) (sym (take-append-drop (suc i) d))
        ∙ sym (append_assoc (last_eight c) (take (suc i) d) (drop (suc i) d)))
        ∙ drop-append-le (suc i) (last_eight c ++ take (suc i) d) (drop (suc i) d) (omega (arith, a, r, here))

quiet-cell : (c : List Level) (l : Level) → NoneOpen c → begins_block (last_eight (c ++ l ∷ [])) ≡ false
    → NoneOpen (c ++ l ∷ []) × (decided (c ++ l ∷ []) ≡ decided c)
unfolding decided
quiet-cell c l none b = (
  closed (c ++ l ∷ []) (λ q g. let d = drop-push c l q g in ap open_at d.0 ∙ none-after c l q (none q) d.1) (λ h. b),
  decided-push 0 c l ∙ ap (λ x. decided_from 0 c ++ x) (answer-none 0 c l none) ∙ append-nil (decided_from 0 c),
)

quiet-cells : (c d : List Level) → NoneOpen c
    → ((i : ℕ) → i < length d → begins_block (last_eight (c ++ take (suc i) d)) ≡ false)
    → NoneOpen (c ++ d) × (decided (c ++ d) ≡ decided c)
quiet-cells c [] none h = (subst NoneOpen (sym (append-nil c)) none, ap decided (append-nil c))
quiet-cells c (l ∷ d) none h =
    let e = append_assoc c (l ∷ []) d in
    let one = quiet-cell c l none (h 0 (omega arith)) in
    let rest = quiet-cells (c ++ l ∷ []) d one.0
    (λ i g. ap (λ x. begins_block (last_eight x)) (append_assoc c (l ∷ []) (take (suc i) d))
    ∙ h (suc i) (omega arith)) in
    (subst NoneOpen e rest.0, ap decided (sym e) ∙ rest.1 ∙ one.1)

-- the seven cells before a word and its own
pub seven-before : (r b w x y : ℕ) → b ≡ r / 2 ^ 1
    → (b < 2 ^ 7 → word_cells x ≡ low_cells 7 b ++ take 57 (word_cells w)) → low_cells 7 y ≡ drop 57 (word_cells w)
    → r < 2 ^ 8 → with_seven x y ≡ drop 1 (low_cells 8 r) ++ word_cells w
unfolding with_seven
seven-before r b w x y i a e h =
    ap₂ (λ c d. c ++ d) (a (omega (arith, i, h)) ∙ ap (λ v. low_cells 7 v ++ take 57 (word_cells w)) i) e
    ∙ append_assoc (low_cells 7 (r / 2 ^ 1)) (take 57 (word_cells w)) (drop 57 (word_cells w))
    ∙ ap₂ (λ c d. c ++ d) (sym (drop-low_cells 1 7 r)) (take-append-drop 57 (word_cells w))

-- a bit that says whether
pub says-no : (b : Bool) → ◌≡◌ {A = ℕ} (if b then 1 else 0) 0 → b ≡ false
says-no true q = absurd (omega arith)
says-no false q = refl

pub says-yes : (b : Bool) → ◌≡◌ {A = ℕ} (if b then 1 else 0) 1 → b ≡ true
says-yes true q = refl
says-yes false q = absurd (omega arith)

pub lowest-one : (m n : ℕ) → m < 2 ^ 64 → n ≡ trailing_zeros w64 m → n < 64 → bit_at m n ≡ 1
lowest-one m n few e h = go (cases_eq m 0)
  where
    go : (m ≡ 0) ⊎ (m ≡ 0 → ⊥) → bit_at m n ≡ 1
    go (inl z) = absurd (let t = ap (trailing_zeros w64) z ∙ trailing_of_zero 64 in omega (arith, t, e, h))
    go (inr s) = ap (bit_at m) e ∙ (bit_at-trailing_zeros w64 m (omega (arith, s)) few).1

-- of the cells of a word, by the places where eight cells with a property begin in the seven before it and its own
module _ (q : List Level → Bool) (stays : (x y : List Level) → 8 ≤ length x → q (x ++ y) ≡ q x) (c b : List Level)
    (m w : ℕ) (few : m < 2 ^ 64)
    (is : b ≡ drop 1 (last_eight c) ++ word_cells w) (found : (i : ℕ) → i < 64
    → bit_at m i ≡ (if q (drop i b) then 1 else 0)) where
  pub ends-at : (i : ℕ) → i < 64 → bit_at m i ≡ (if q (last_eight (c ++ low_cells (suc i) w)) then 1 else 0)
  ends-at i h =
      let l = length-word w in
      found i h ∙ ap (λ x. if q (drop i x) then 1 else 0) is
      ∙ ap (λ p. if p then 1 else 0) (window q stays c (word_cells w) i (omega (arith, l, h))
      ∙ ap (λ x. q (last_eight (c ++ x))) (take-word (suc i) w (omega arith)))

  pub quiet-at : (i : ℕ) → i < trailing_zeros w64 m → i < 64 → q (last_eight (c ++ low_cells (suc i) w)) ≡ false
  quiet-at i g h = says-no (q (last_eight (c ++ low_cells (suc i) w))) (sym (ends-at i h) ∙ below-trailing m i few g)

-- the first cells of a word and one more
pub with-last : (c : List Level) (n w : ℕ)
    → (c ++ low_cells n w) ++ level_of (bit_at w n) ∷ [] ≡ c ++ low_cells (n + 1) w
with-last c n w =
    append_assoc c (low_cells n w) (level_of (bit_at w n) ∷ [])
    ∙ ap (λ x. c ++ x) (sym (low_cells-suc n w) ∙ ap (λ k. low_cells k w) (sym (add-one n)))

-- a word in which no preamble of a block begins, and one in which one does
pub none-begins : (m : ℕ) (c d : List Level) → m ≡ 0
    → ((i : ℕ) → i < 64 → bit_at m i ≡ (if begins_block (drop i c) then 1 else 0)) → c ≡ d
    → (i : ℕ) → i < 64 → begins_block (drop i d) ≡ false
none-begins m c d z h e i g =
    subst (λ x. begins_block (drop i x) ≡ false) e
    (says-no (begins_block (drop i c)) (sym (h i g) ∙ ap (λ w. bit_at w i) z ∙ bit_at-zero i))

pub one-begins : (m : ℕ) (c d : List Level) → m < 2 ^ 64 → (m ≡ 0 → ⊥)
    → ((i : ℕ) → i < 64 → bit_at m i ≡ (if begins_block (drop i c) then 1 else 0)) → c ≡ d
    → BeginsIn d
one-begins m c d b n h e =
    let z = bit_at-trailing_zeros w64 m (omega (arith, n)) b in
    record {
      place = trailing_zeros w64 m;
      within = z.0;
      is = subst (λ x. begins_block (drop (trailing_zeros w64 m) x) ≡ true) e
          (says-yes (begins_block (drop (trailing_zeros w64 m) c)) (sym (h _ z.0) ∙ z.1));
    }

-- a lock with a word of such cells
module _ (k k' : LockState) (c : List Level) (w : ℕ) (f : Follows k c) (s : k.candidate ≡ None)
    (quiet : (i : ℕ) → i < 64 → begins_block (drop i (drop 1 k.recent ++ word_cells w)) ≡ false)
    (seen : k'.seen ≡ k.seen + 64) (recent : k'.recent ≡ drop 56 (word_cells w)) (still : k'.candidate ≡ None) where
  all : NoneOpen (c ++ word_cells w) × (decided (c ++ word_cells w) ≡ decided c)
  all =
      let l = length-word w in
      quiet-cells c (word_cells w) (rw s at f.candidate)
      (λ i h. sym (window begins_block (begins-append Z) c (word_cells w) i h)
      ∙ ap (λ r. begins_block (drop i (drop 1 r ++ word_cells w))) (sym f.recent) ∙ quiet i (omega (arith, l, h)))

  pub quiet-follows : Follows k' (c ++ word_cells w)
  quiet-follows = record {
    seen = let l = length-word w in let a = length-append c (word_cells w) in let b = f.seen in
        omega (arith, l, a, b, seen);
    recent = recent ∙ sym (last_eight-word c (word_cells w) (length-word w));
    candidate = rw still all.0;
  }

  pub quiet-none : decided (c ++ word_cells w) ≡ decided c
  quiet-none = all.1

-- a lock with the first cells of a word up to the first that ends such a preamble
module _ (k k' : LockState) (c b : List Level) (m w n : ℕ) (f : Follows k c) (s : k.candidate ≡ None) (few : m < 2 ^ 64)
    (is : b ≡ drop 1 k.recent ++ word_cells w) (found : (i : ℕ) → i < 64
    → bit_at m i ≡ (if begins_block (drop i b) then 1 else 0))
    (some : 0 < n) (within : n ≤ trailing_zeros w64 m + 1) (room : n ≤ 64)
    (seen : k'.seen ≡ k.seen + n) (recent : k'.recent ≡ drop n (k.recent ++ low_cells n w))
    (anew : k'.candidate ≡ begun k'.seen k'.recent)
    (kept : k'.recent ≡ low_cells 8 k'.subframe) (small : k'.subframe < 2 ^ 8) where
  quiet-before : NoneOpen (c ++ low_cells (n - 1) w) × (decided (c ++ low_cells (n - 1) w) ≡ decided c)
  quiet-before =
      let l = length-low_cells (n - 1) w in
      quiet-cells c (low_cells (n - 1) w) (rw s at f.candidate)
      (λ i h. ap (λ x. begins_block (last_eight (c ++ x))) (take-low (suc i) (n - 1) w (omega (arith, l, h)))
      ∙ quiet-at begins_block (begins-append Z) c b m w few (is ∙ ap (λ r. drop 1 r ++ word_cells w) f.recent) found i
      (omega (arith, l, h)) (omega (arith, l, h)))

  midst : LockState
  midst = record {
    seen = length (c ++ low_cells (n - 1) w);
    recent = last_eight (c ++ low_cells (n - 1) w);
    candidate = None;
    subframe = 0;
    words = k.words;
  }

  all-of : (c ++ low_cells (n - 1) w) ++ level_of (bit_at w (n - 1)) ∷ [] ≡ c ++ low_cells n w
  all-of = with-last c (n - 1) w ∙ ap (λ j. c ++ low_cells j w) (let e : n - 1 + 1 ≡ n = omega arith in e)

  recent-is : k'.recent ≡ last_eight (c ++ low_cells n w)
  recent-is =
      recent ∙ ap₂ (λ j r. drop j (r ++ low_cells n w)) (sym (length-low_cells n w)) f.recent
      ∙ sym (last_eight-more c (low_cells n w))

  pushed : Follows k' ((c ++ low_cells (n - 1) w) ++ level_of (bit_at w (n - 1)) ∷ [])
      × (decided ((c ++ low_cells (n - 1) w) ++ level_of (bit_at w (n - 1)) ∷ []) ≡ decided
      (c ++ low_cells (n - 1) w) ++ [])
  unfolding midst
  pushed =
      let l = length-low_cells (n - 1) w in
      let a = length-append c (low_cells (n - 1) w) in
      let g = f.seen in
      push-none midst k' (c ++ low_cells (n - 1) w) (level_of (bit_at w (n - 1)))
      (record { seen = refl; recent = refl; candidate = quiet-before.0 }) refl
      (omega (arith, l, a, g, seen))
      (recent-is ∙ ap last_eight (sym all-of)
      ∙ last_eight-with (c ++ low_cells (n - 1) w) (level_of (bit_at w (n - 1)))) anew kept small

  pub searched : Follows k' (c ++ low_cells n w) × (decided (c ++ low_cells n w) ≡ decided c)
  searched = (
    subst (Follows k') all-of pushed.0,
    ap decided (sym all-of) ∙ pushed.1 ∙ append-nil (decided (c ++ low_cells (n - 1) w)) ∙ quiet-before.1,
  )
