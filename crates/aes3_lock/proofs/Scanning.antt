-- The preamble that one more cell ends.
use Rattle.std.proofs.Common.{◌≡◌, ℕ, suc, ◌+◌, ◌-◌, ◌<◌, ◌≤◌, ◌⊎◌, inl, inr, List, [], ◌∷◌, ◌++◌, false, Some, None}
use Rattle.std.proofs.Common.{refl, length, take, drop, ap, ap₂, ◌∙◌, sym, arith, le-leb, length-append, append_assoc}
use Rattle.std.proofs.Common.{append-nil}
use Rattle.std.specs.Prelude.{option_to_list, option_map}
use Rattle.std.proofs.lemmas.Bool.{cases_lt, cases_order, lt-leb, false_from_ne_true}
use Rattle.std.proofs.lemmas.List.{drop-append-le}
use Rattle.aes3_level.specs.declared.level.Level.{Level}
use Rattle.aes3_level.specs.declared.level.Level.TheVariants.{Low, High}
use Rattle.aes3_level.specs.Cells.{line}
use Rattle.aes3_slot.specs.declared.mark.Mark.{Mark}
use Rattle.aes3_slot.specs.declared.mark.Mark.TheVariants.{X, Y, Z}
use Rattle.aes3_slot.specs.Slots.{mark_runs}
use Rattle.aes3_slot.specs.Preambles.{entry, begins_with}
use Rattle.aes3_lock.specs.Preambles.{first_mark, placed, marks_from, marks}
use Rattle.aes3_lock.specs.Steps.{last_eight, eight_with, ended_mark}
use Rattle.aes3_lock.specs.Following.{ScanState, ScanFollows}
use Rattle.aes3_slot.proofs.Beginnings.{begins-short, begins-append, entry-append, begins-stands}
use Rattle.aes3_lock.proofs.LastEight.{length-last_eight, last_eight-is, last_eight-more}

-- cells behind the eighth count for nothing
pub first_mark-append : (c d : List Level) → 8 ≤ length c → first_mark (c ++ d) ≡ first_mark c
unfolding first_mark
first_mark-append c d h =
    let x = begins-append X c d h in
    let y = begins-append Y c d h in
    let z = begins-append Z c d h in
    let e = entry-append c d (omega arith) in
    rw (x, y, z, e) refl

-- fewer than eight are no preamble
first_mark-short : (c : List Level) → length c < 8 → first_mark c ≡ None
unfolding first_mark
first_mark-short c h =
    let x = begins-short X c h in
    let y = begins-short Y c h in
    let z = begins-short Z c h in
    rw (x, y, z) refl

marks-short : (p : ℕ) (c : List Level) → length c < 8 → marks_from p c ≡ []
marks-short p [] h = refl
marks-short p (x ∷ c) h =
    let e = first_mark-short (x ∷ c) h in
    let r = marks-short (suc p) c (omega arith) in
    rw (e, r) refl

-- the preamble that the last eight cells are
abbrev pub ending : ℕ → List Level → List (ℕ × Mark × Level)
ending p c = option_to_list (option_map (placed (p + (length c - 8))) (first_mark (drop (length c - 8) c)))

pub marks-push : (p : ℕ) (c : List Level) (l : Level)
    → marks_from p (c ++ l ∷ []) ≡ marks_from p c ++ ending p (c ++ l ∷ [])
marks-push p [] l =
    let e = first_mark-short (l ∷ []) (omega arith) in
    rw e refl
marks-push p (x ∷ c) l = go (cases_order (length c) 6) (marks-push (suc p) c l)
  where
    n : length (c ++ l ∷ []) ≡ length c + 1
    n = length-append c (l ∷ [])

    go : (length c ≡ 6) ⊎ ((length c < 6) ⊎ (6 < length c))
        → marks_from (suc p) (c ++ l ∷ []) ≡ marks_from (suc p) c ++ ending (suc p) (c ++ l ∷ [])
        → marks_from p (x ∷ c ++ l ∷ []) ≡ marks_from p (x ∷ c) ++ ending p (x ∷ c ++ l ∷ [])
    go (inl g) ih =
        let a = marks-short (suc p) (c ++ l ∷ []) (omega (arith, n, g)) in
        let b = marks-short p (x ∷ c) (omega (arith, g)) in
        let z : suc (length (c ++ l ∷ [])) - 8 ≡ 0 = omega (arith, n, g) in
        let q : p + 0 ≡ p = omega arith in
        rw (a, b, z, q) (append-nil _)
    go (inr (inl g)) ih =
        let a = marks-short p (x ∷ c ++ l ∷ []) (omega (arith, n, g)) in
        let b = marks-short p (x ∷ c) (omega (arith, g)) in
        let z : suc (length (c ++ l ∷ [])) - 8 ≡ 0 = omega (arith, n, g) in
        let e = first_mark-short (x ∷ c ++ l ∷ []) (omega (arith, n, g)) in
        a ∙ sym (ap₂ (λ u v. u ++ v) b
        (ap (λ k. option_to_list (option_map (placed (p + k)) (first_mark (drop k (x ∷ c ++ l ∷ []))))) z
        ∙ ap (λ o. option_to_list (option_map (placed (p + 0)) o)) e))
    go (inr (inr g)) ih =
        let e = first_mark-append (x ∷ c) (l ∷ []) (omega (arith, g)) in
        let z : suc (length (c ++ l ∷ [])) - 8 ≡ suc (length (c ++ l ∷ []) - 8) = omega (arith, n, g) in
        let q : p + suc (length (c ++ l ∷ []) - 8) ≡ suc p + (length (c ++ l ∷ []) - 8) = omega arith in
        ap₂ (λ o r. option_to_list (option_map (placed p) o) ++ r) e ih
        ∙ sym (append_assoc (option_to_list (option_map (placed p) (first_mark (x ∷ c)))) (marks_from (suc p) c)
        (ending (suc p) (c ++ l ∷ [])))
        ∙ ap (λ r. marks_from p (x ∷ c) ++ r)
        (sym (ap (λ k. option_to_list (option_map (placed (p + k)) (first_mark (drop k (x ∷ c ++ l ∷ []))))) z
        ∙ ap (λ k. option_to_list
        (option_map (placed k) (first_mark (drop (length (c ++ l ∷ []) - 8) (c ++ l ∷ []))))) q))

-- eight cells that are a preamble, or none
pub first_mark-line : (m : Mark) (s : Level) (d : List Level) → d ≡ line s (mark_runs m) → first_mark d ≡ Some (m, s)
unfolding first_mark begins_with
first_mark-line m s d e = ap first_mark e ∙ go m s
  where
    go : (m : Mark) (s : Level) → first_mark (line s (mark_runs m)) ≡ Some (m, s)
    go X Low = refl
    go X High = refl
    go Y Low = refl
    go Y High = refl
    go Z Low = refl
    go Z High = refl

pub first_mark-none : (d : List Level) → take 8 d ≡ d → ((m : Mark) (s : Level) → d ≡ line s (mark_runs m) → ⊥)
    → first_mark d ≡ None
unfolding first_mark
first_mark-none d t f = rw (not X, not Y, not Z) refl
  where
    not : (m : Mark) → begins_with m d ≡ false
    not m = false_from_ne_true (begins_with m d)
        (λ b. f m (entry d) (sym t ∙ (begins-stands m d b).is))

-- the preamble that the last eight of all cells are
pub ended-short : (n : ℕ) (recent : List Level) → n < 8 → ended_mark n recent ≡ None
unfolding ended_mark
ended-short n recent h = let t = lt-leb 8 n h in rw t refl

pub ended-long : (n : ℕ) (recent : List Level) → 8 ≤ n
    → ended_mark n recent ≡ option_map (placed (n - 8)) (first_mark recent)
unfolding ended_mark
ended-long n recent h = let t = le-leb 8 n h in rw t refl

pub marks-last : (c : List Level) (l : Level)
    → marks (c ++ l ∷ []) ≡ marks c ++ option_to_list (ended_mark (length (c ++ l ∷ [])) (last_eight (c ++ l ∷ [])))
unfolding marks
marks-last c l = go (cases_lt (length (c ++ l ∷ [])) 8)
  where
    go : (length (c ++ l ∷ []) < 8) ⊎ (8 ≤ length (c ++ l ∷ []))
        → marks_from 0 (c ++ l ∷ []) ≡ marks_from 0 c ++ option_to_list
        (ended_mark (length (c ++ l ∷ [])) (last_eight (c ++ l ∷ [])))
    go (inl h) =
        let a = length-append c (l ∷ []) in
        marks-short 0 (c ++ l ∷ []) h
        ∙ sym (ap₂ (λ x o. x ++ option_to_list o) (marks-short 0 c (omega (arith, a, h)))
        (ended-short (length (c ++ l ∷ [])) (last_eight (c ++ l ∷ [])) h))
    go (inr h) =
        let q : 0 + (length (c ++ l ∷ []) - 8) ≡ length (c ++ l ∷ []) - 8 = omega arith in
        marks-push 0 c l ∙ ap₂ (λ p d. marks_from 0 c ++ option_to_list (option_map (placed p) (first_mark d))) q
        (sym (last_eight-is (c ++ l ∷ []) h))
        ∙ ap (λ o. marks_from 0 c ++ option_to_list o)
        (sym (ended-long (length (c ++ l ∷ [])) (last_eight (c ++ l ∷ [])) h))

-- a scan with more cells
module _ (k k' : ScanState) (c d : List Level) (f : ScanFollows k c) (n : k'.seen ≡ k.seen + length d)
    (r : k'.recent ≡ drop (length d) (k.recent ++ d)) where
  pub scan-follows : ScanFollows k' (c ++ d)
  scan-follows = record {
    seen = let a = length-append c d in let b = f.seen in omega (arith, a, b, n);
    recent = r ∙ ap (λ x. drop (length d) (x ++ d)) f.recent ∙ sym (last_eight-more c d);
  }

-- a scan with one more cell
module _ (k k' : ScanState) (c : List Level) (l : Level) (f : ScanFollows k c) (n : k'.seen ≡ k.seen + 1)
    (r : k'.recent ≡ eight_with k.recent l) where
  pub scan-next : ScanFollows k' (c ++ l ∷ [])
  scan-next = scan-follows k k' c (l ∷ []) f n
      (r ∙ let e = length-last_eight c in
      sym (drop-append-le 1 k.recent (l ∷ []) (omega (arith, e, ap length f.recent))))

  pub scan-mark : marks (c ++ l ∷ []) ≡ marks c ++ option_to_list (ended_mark k'.seen k'.recent)
  scan-mark = marks-last c l ∙ ap₂ (λ n d. marks c ++ option_to_list (ended_mark n d)) (sym scan-next.seen)
      (sym scan-next.recent)

pub scan-nil : (k : ScanState) → k.seen ≡ 0 → k.recent ≡ last_eight [] → ScanFollows k []
scan-nil k a b = record { seen = a; recent = b }
