-- Where the reports on cells stand.
use Rattle.std.proofs.Common.{◌≡◌, ℕ, zero, suc, ◌+◌, ◌-◌, ◌<◌, ◌≤◌, ◌⊎◌, inl, inr, Bool, true, false, cond, List, []}
use Rattle.std.proofs.Common.{◌∷◌, ◌++◌, Option, Some, None, length, drop, map, refl, sym, ap, ◌∙◌, subst, arith}
use Rattle.std.proofs.Common.{append_assoc}
use Rattle.std.proofs.lemmas.Bool.{cases_lt}
use Rattle.std.proofs.lemmas.List.{append_cancel_left}
use Rattle.aes3_level.specs.declared.level.Level.{Level}
use Rattle.aes3_slot.specs.declared.mark.Mark.TheVariants.{Z}
use Rattle.aes3_slot.specs.Slots.{with_parity}
use Rattle.aes3_slot.specs.Preambles.{entry}
use Rattle.aes3_slot.proofs.Beginnings.{begins-stands, begins-append, stands-drop}
use Rattle.aes3_frame.specs.Blocks.{block_len}
use Rattle.aes3_lock.specs.declared.report.Report.{Report}
use Rattle.aes3_lock.specs.declared.report.Report.TheVariants.{Whole, Marked, Fault, Unfinished}
use Rattle.aes3_lock.specs.Candidates.{begins_block}
use Rattle.aes3_lock.specs.Outcomes.{Outcome, whole, marked, fault, unfinished, outcome}
use Rattle.aes3_lock.specs.Reports.{told, report_of, outcome_at, reports_from, reports, decided_at, open_at}
use Rattle.aes3_lock.specs.Reports.{decided_from, decided}
use Rattle.aes3_lock.proofs.Fronts.{front-is}
use Rattle.aes3_lock.proofs.Deciding.{decided-from, decided-stays, none-from-begins, block_len_24576}
use Rattle.aes3_lock.proofs.Ends.{final, outcome_at-none, reports-split}
use Rattle.aes3_lock.proofs.Opens.{is-open, open-room}
use Rattle.aes3_lock.proofs.AllStanding.{at-standing, at-marked}
use Rattle.aes3_lock.proofs.StandingBlocks.{block-stands, standing-room}
use Rattle.aes3_lock.proofs.Overlap.{no-Z-within}
use Rattle.aes3_lock.specs.Remains.{place_of}
use Rattle.aes3_lock.specs.Standing.{IsClosed, SubframesStand}

-- all reports stand at place p or behind it; at place p or before it
abbrev pub From : ℕ → List Report → Type 0
From p [] = Unit {0}
From p (x ∷ r) = (p ≤ place_of x) × From p r

abbrev pub UpTo : ℕ → List Report → Type 0
UpTo p [] = Unit {0}
UpTo p (x ∷ r) = (place_of x ≤ p) × UpTo p r

-- each stands behind the one before it, and behind the whole of it if that is a whole block
abbrev pub next_place : Report → ℕ
next_place (Whole at s b) = at + block_len
next_place (Marked at s wrong) = suc at
next_place (Fault at cell why) = suc at
next_place (Unfinished at cells) = suc at

abbrev pub Spaced : ℕ → List Report → Type 0
Spaced p [] = Unit {0}
Spaced p (x ∷ r) = (p ≤ place_of x) × Spaced (next_place x) r

-- the same where a marked block is a block too, all of whose cells are among the first n
abbrev pub behind_block : Report → ℕ
behind_block (Whole at s b) = at + block_len
behind_block (Marked at s wrong) = at + block_len
behind_block (Fault at cell why) = suc at
behind_block (Unfinished at cells) = suc at

abbrev pub Parted : ℕ → ℕ → List Report → Type 0
Parted n p [] = Unit {0}
Parted n p (x ∷ r) = (p ≤ place_of x) × (behind_block x ≤ n) × Parted n (behind_block x) r

pub from-weaker : (p q : ℕ) (r : List Report) → p ≤ q → From q r → From p r
from-weaker p q [] h f = tt
from-weaker p q (x ∷ r) h f = (let a = f.0 in omega arith, from-weaker p q r h f.1)

from-join : (p : ℕ) (a b : List Report) → From p a → From p b → From p (a ++ b)
from-join p [] b f g = g
from-join p (x ∷ a) b f g = (f.0, from-join p a b f.1 g)

from-last : (p : ℕ) (r : List Report) (x : Report) → From p (r ++ x ∷ []) → p ≤ place_of x
from-last p [] x f = f.0
from-last p (y ∷ r) x f = from-last p r x f.1

upto-join : (p : ℕ) (a b : List Report) → UpTo p a → UpTo p b → UpTo p (a ++ b)
upto-join p [] b f g = g
upto-join p (x ∷ a) b f g = (f.0, upto-join p a b f.1 g)

pub upto-last : (p : ℕ) (r : List Report) (x : Report) → UpTo p (r ++ x ∷ []) → place_of x ≤ p
upto-last p [] x f = f.0
upto-last p (y ∷ r) x f = upto-last p r x f.1

pub spaced-weaker : (p q : ℕ) (r : List Report) → p ≤ q → Spaced q r → Spaced p r
spaced-weaker p q [] h s = tt
spaced-weaker p q (x ∷ r) h s = (let a = s.0 in omega arith, s.1)

pub spaced-front : (p : ℕ) (a b : List Report) → Spaced p (a ++ b) → Spaced p a
spaced-front p [] b s = tt
spaced-front p (x ∷ a) b s = (s.0, spaced-front (next_place x) a b s.1)

pub parted-weaker : (n p q : ℕ) (r : List Report) → p ≤ q → Parted n q r → Parted n p r
parted-weaker n p q [] h t = tt
parted-weaker n p q (x ∷ r) h t = (let a = t.0 in omega arith, t.1, t.2)

parted-later : (n p q : ℕ) (r : List Report) → From p r → Parted n q r → Parted n p r
parted-later n p q [] f t = tt
parted-later n p q (x ∷ r) f t = (f.0, t.1, t.2)

parted-front : (n p : ℕ) (a b : List Report) → Parted n p (a ++ b) → Parted n p a
parted-front n p [] b t = tt
parted-front n p (x ∷ a) b t = (t.0, t.1, parted-front n (behind_block x) a b t.2)

-- of one place
pub place-report : (p : ℕ) (o : Outcome) → place_of (report_of p o) ≡ p
place-report p (whole s b) = refl
place-report p (marked s wrong) = refl
place-report p (fault f) = refl
place-report p (unfinished n) = refl

told-from : (p q : ℕ) (o : Option Outcome) → p ≤ q → From p (told q o)
told-from p q None h = tt
told-from p q (Some o) h = (let e = place-report q o in omega arith, tt)

told-upto : (p q : ℕ) (o : Option Outcome) → q ≤ p → UpTo p (told q o)
told-upto p q None h = tt
told-upto p q (Some o) h = (let e = place-report q o in omega arith, tt)

-- of all
decided-own : (p : ℕ) (c : List Level) → From p (decided_from p c)
decided-own p [] = tt
decided-own p (x ∷ c) =
    from-join p (told p (decided_at (x ∷ c))) (decided_from (suc p) c)
    (told-from p p (decided_at (x ∷ c)) (omega arith))
    (from-weaker p (suc p) (decided_from (suc p) c) (omega arith) (decided-own (suc p) c))

reports-own : (p : ℕ) (c : List Level) → From p (reports_from p c)
reports-own p [] = tt
reports-own p (x ∷ c) =
    from-join p (told p (outcome_at (x ∷ c))) (reports_from (suc p) c)
    (told-from p p (outcome_at (x ∷ c)) (omega arith))
    (from-weaker p (suc p) (reports_from (suc p) c) (omega arith) (reports-own (suc p) c))

reports-upto : (m p : ℕ) (c : List Level) → p + length c ≤ m → UpTo m (reports_from p c)
reports-upto m p [] h = tt
reports-upto m p (x ∷ c) h =
    upto-join m (told p (outcome_at (x ∷ c))) (reports_from (suc p) c)
    (told-upto m p (outcome_at (x ∷ c)) (omega arith)) (reports-upto m (suc p) c (omega arith))

decided-upto : (m p : ℕ) (c : List Level) → p + length c ≤ m → UpTo m (decided_from p c)
decided-upto m p [] h = tt
decided-upto m p (x ∷ c) h =
    upto-join m (told p (decided_at (x ∷ c))) (decided_from (suc p) c)
    (told-upto m p (decided_at (x ∷ c)) (omega arith)) (decided-upto m (suc p) c (omega arith))

pub near-reports : (c : List Level) → UpTo (length c) (reports c)
unfolding reports
near-reports c = reports-upto (length c) 0 c (omega arith)

pub near-decided : (c : List Level) → UpTo (length c) (decided c)
unfolding decided
near-decided c = decided-upto (length c) 0 c (omega arith)

-- where no block begins at the first k places
none-before : (k q : ℕ) (c : List Level) → ((i : ℕ) → i < k → begins_block (drop i c) ≡ false)
    → From (q + k) (reports_from q c)
none-before zero q c h = from-weaker (q + 0) q (reports_from q c) (omega arith) (reports-own q c)
none-before (suc k) q [] h = tt
none-before (suc k) q (x ∷ c) h =
    let e = outcome_at-none (x ∷ c) (h 0 (omega arith)) in
    let r = none-before k (suc q) c (λ i l. h (suc i) (omega arith)) in
    let f = from-weaker (q + suc k) (suc q + k) (reports_from (suc q) c) (omega arith) r in
    from-join (q + suc k) (told q (outcome_at (x ∷ c))) (reports_from (suc q) c) (rw e tt) f

-- behind a block, whole or marked, the next report is behind all of it
none-within : (slots : List (List Bool)) (s : Level) (x : Level) (c : List Level) → SubframesStand slots s (x ∷ c)
    → IsClosed (x ∷ c) → (i : ℕ) → i < block_len - 1 → begins_block (drop i c) ≡ false
none-within slots s x c stand closed i l = go (begins_block (drop i c)) refl
  where
    go : (k : Bool) → begins_block (drop i c) ≡ k → begins_block (drop i c) ≡ false
    go false q = q
    go true q =
        let z = stands-drop Z (entry (drop i c)) (x ∷ c) (suc i) 0 (begins-stands Z (drop i c) q) in
        let w = no-Z-within slots s (x ∷ c) stand closed (suc i + 0) (entry (drop i c)) z (omega arith) in
        absurd (omega arith)

parted-from : (n p : ℕ) (c : List Level) → p + length c ≤ n → Parted n p (reports_from p c)
parted-from n p [] h = tt
parted-from n p (x ∷ c) h = go (outcome_at (x ∷ c)) refl (parted-from n (suc p) c (omega arith))
  where
    behind : (slots : List (List Bool)) (s : Level) → SubframesStand slots s (x ∷ c) → IsClosed (x ∷ c)
        → Parted n (suc p) (reports_from (suc p) c)
        → (p ≤ p) × (p + block_len ≤ n) × Parted n (p + block_len) (reports_from (suc p) c)
    behind slots s stand closed t =
        let f = none-before (block_len - 1) (suc p) c (none-within slots s x c stand closed) in
        let m = block_len_24576 in
        let r = standing-room slots s (x ∷ c) stand in (
          omega arith,
          omega arith,
          parted-later n (p + block_len) (suc p) (reports_from (suc p) c)
              (from-weaker (p + block_len) (suc p + (block_len - 1)) (reports_from (suc p) c) (omega arith) f) t,
        )

    go : (o : Option Outcome) → outcome_at (x ∷ c) ≡ o → Parted n (suc p) (reports_from (suc p) c)
        → Parted n p (told p o ++ reports_from (suc p) c)
    go None e t = parted-weaker n p (suc p) (reports_from (suc p) c) (omega arith) t
    go (Some (whole s b)) e t =
        let h = at-standing b s (x ∷ c) e in
        behind (map with_parity b) s (block-stands b s (x ∷ c) h) h.closed t
    go (Some (marked s wrong)) e t = let h = at-marked s wrong (x ∷ c) e in behind h.2.0 s h.2.1 h.0 t
    go (Some (fault f)) e t = (omega arith, omega arith, t)
    go (Some (unfinished k)) e t = (omega arith, omega arith, t)

pub split-reports : (c : List Level) → reports c ≡ decided c ++ final 0 c
unfolding reports decided
split-reports c = reports-split 0 c

pub parted-reports : (c : List Level) → Parted (length c) 0 (reports c)
unfolding reports
parted-reports c = parted-from (length c) 0 c (omega arith)

pub parted-decided : (c : List Level) → Parted (length c) 0 (decided c)
parted-decided c =
    parted-front (length c) 0 (decided c) (final 0 c) (subst (Parted (length c) 0) (split-reports c) (parted-reports c))

spaced-parted : (n p : ℕ) (r : List Report) → Parted n p r → Spaced p r
spaced-parted n p [] t = tt
spaced-parted n p (Whole at s b ∷ r) t = (t.0, spaced-parted n (at + block_len) r t.2)
spaced-parted n p (Marked at s wrong ∷ r) t =
    let m = block_len_24576 in
    (t.0, spaced-weaker (suc at) (at + block_len) r (omega arith) (spaced-parted n (at + block_len) r t.2))
spaced-parted n p (Fault at cell why ∷ r) t = (t.0, spaced-parted n (suc at) r t.2)
spaced-parted n p (Unfinished at cells ∷ r) t = (t.0, spaced-parted n (suc at) r t.2)

pub spaced-reports : (c : List Level) → Spaced 0 (reports c)
spaced-reports c = spaced-parted (length c) 0 (reports c) (parted-reports c)

pub spaced-decided : (c : List Level) → Spaced 0 (decided c)
spaced-decided c = spaced-front 0 (decided c) (final 0 c) (subst (Spaced 0) (split-reports c) (spaced-reports c))

-- a block's cells and one more decide a candidate
same-decided : (c d : List Level) → block_len < length c → decided_at (c ++ d) ≡ decided_at c
same-decided c d l = go (begins_block c) refl
  where
    go : (b : Bool) → begins_block c ≡ b → decided_at (c ++ d) ≡ decided_at c
    go false q = let m = block_len_24576 in none-from-begins (c ++ d) (begins-append Z c d (omega arith) ∙ q)
        ∙ sym (none-from-begins c q)
    go true q =
        let w = (front-is (entry c) c).within in
        let e = decided-from c q (omega arith) in
        decided-stays c d (outcome c) e ∙ sym e

-- so what more cells decide stands a block's length before them at most
late-from : (p : ℕ) (c d : List Level) (x : Report) → decided_from p (c ++ d) ≡ decided_from p c ++ x ∷ []
    → p + length c ≤ place_of x + block_len
late-from p [] d x e = let f = (subst (From p) e (decided-own p d)).0 in omega arith
late-from p (y ∷ c) d x e = go (cases_lt block_len (length (y ∷ c))) (late-from (suc p) c d x)
  where
    go : (block_len < length (y ∷ c)) ⊎ (length (y ∷ c) ≤ block_len)
        → (decided_from (suc p) (c ++ d) ≡ decided_from (suc p) c ++ x ∷ [] → suc p + length c ≤ place_of x + block_len)
        → p + length (y ∷ c) ≤ place_of x + block_len
    go (inr l) ih = let f = from-last p (decided_from p (y ∷ c)) x (subst (From p) e (decided-own p (y ∷ c ++ d)))
        in omega arith
    go (inl l) ih =
        let o = decided_at (y ∷ c) in
        let s : decided_at (y ∷ c ++ d) ≡ o = same-decided (y ∷ c) d l in
        let q : told p o ++ decided_from (suc p) (c ++ d) ≡ told p o ++ (decided_from (suc p) c ++ x ∷ []) =
        ap (λ v. told p v ++ decided_from (suc p) (c ++ d)) (sym s) ∙ e
        ∙ append_assoc (told p o) (decided_from (suc p) c) (x ∷ []) in
        let r = ih (append_cancel_left (told p o) (decided_from (suc p) (c ++ d)) (decided_from (suc p) c ++ x ∷ []) q)
        in
        omega arith

pub late-decided : (c d : List Level) (x : Report) → decided (c ++ d) ≡ decided c ++ x ∷ []
    → length c ≤ place_of x + block_len
unfolding decided
late-decided c d x e = let l = late-from 0 c d x e in omega arith

late-final : (p : ℕ) (c : List Level) (x : Report) → final p c ≡ x ∷ [] → p + length c ≤ place_of x + block_len
late-final p [] x e = cc
late-final p (y ∷ c) x e = go (open_at (y ∷ c)) refl e (late-final (suc p) c x)
  where
    go : (b : Bool) → open_at (y ∷ c) ≡ b → cond b (told p (outcome_at (y ∷ c))) (final (suc p) c) ≡ x ∷ []
        → (final (suc p) c ≡ x ∷ [] → suc p + length c ≤ place_of x + block_len)
        → p + length (y ∷ c) ≤ place_of x + block_len
    go true o q ih =
        let l = (open-room (y ∷ c) (is-open (y ∷ c) o)).1 in
        let f = (subst (From p) q (told-from p p (outcome_at (y ∷ c)) (omega arith))).0 in
        omega arith
    go false o q ih = let l = ih q in omega arith

pub late-reports : (c : List Level) (x : Report) → reports c ≡ decided c ++ x ∷ [] → length c ≤ place_of x + block_len
late-reports c x e =
    let l = late-final 0 c x (append_cancel_left (decided c) (final 0 c) (x ∷ []) (sym (split-reports c) ∙ e)) in
    omega arith
