-- The one candidate in hand, and what a cell makes of it.
use Rattle.std.proofs.Common.{◌≡◌, ℕ, zero, suc, ◌+◌, ◌*◌, ◌/◌, ◌<◌, ◌≤◌, ◌⊎◌, inl, inr, List, [], ◌∷◌, ◌++◌, Bool}
use Rattle.std.proofs.Common.{true, false, cond, eqb, Some, None, refl, length, drop, ap, ap₂, ◌∙◌, sym, arith}
use Rattle.std.proofs.Common.{length-append, length-drop, lt-ltb, eq-eqb, eqb-true, true≢false, append_assoc}
use Rattle.std.proofs.Common.{append-nil, subst}
use Rattle.std.proofs.lemmas.Bool.{cases_eq, and_parts, and_from, false_from_ne_true}
use Rattle.std.proofs.lemmas.List.{drop-append-le}
use Rattle.std.proofs.Math.Seq.{get_or-append_seam}
use Rattle.aes3_level.specs.declared.level.Level.{Level}
use Rattle.aes3_level.specs.declared.level.Level.TheVariants.{Low}
use Rattle.aes3_slot.specs.Rules.{at, before, rule}
use Rattle.aes3_slot.specs.Reading.{same, read_slots}
use Rattle.aes3_slot.proofs.Index.{before-append_left}
use Rattle.aes3_frame.specs.Blocks.{mark_at, block_subframes, block_len}
use Rattle.aes3_slot.specs.Preambles.{entry}
use Rattle.aes3_lock.specs.Candidates.{keeps, front, begins_block}
use Rattle.aes3_lock.specs.Steps.{ended, left}
use Rattle.aes3_lock.specs.Reports.{told, decided_at, open_at, decided_from}
use Rattle.aes3_lock.proofs.Fronts.{front-is, front-unique, keeps-append}
use Rattle.aes3_slot.specs.declared.mark.Mark.TheVariants.{Z}
use Rattle.aes3_slot.proofs.Beginnings.{begins-stands, begins-room, begins-append, entry-append}
use Rattle.aes3_lock.proofs.Deciding.{answer, decided-push, open-alone, none-from-front, decided-from, front-eight}
use Rattle.aes3_lock.proofs.Deciding.{outcome_is, outcome_by}

pub record IsOpen (d : List Level) : Type 0 where
  pub begins : begins_block d ≡ true
  pub all : front (entry d) d ≡ length d

pub is-open : (d : List Level) → open_at d ≡ true → IsOpen d
unfolding open_at
is-open d e =
    let r = and_parts (begins_block d) (eqb (front (entry d) d) (length d)) e in
    record { begins = r.0; all = eqb-true _ _ r.1 }

pub open-from : (d : List Level) → IsOpen d → open_at d ≡ true
unfolding open_at
open-from d o = and_from (begins_block d) (eqb (front (entry d) d) (length d)) o.begins (eq-eqb _ _ o.all)

pub open-room : (d : List Level) → IsOpen d → (8 ≤ length d) × (length d ≤ block_len)
open-room d o =
    let w = (front-is (entry d) d).within in
    let a = o.all in
    (begins-room Z d o.begins, omega (arith, w, a))

-- two blocks are not in hand at once
pub open-once : (c : List Level) (q : ℕ) (x : Level) → open_at (x ∷ c) ≡ true → open_at (drop q c) ≡ true → ⊥
open-once c q x a b =
    let n = (open-alone x c a).0 in
    let s = begins-stands Z (drop q c) (is-open (drop q c) b).begins in
    n q (entry (drop q c)) (record { is = s.is })

pub answer-none : (p : ℕ) (c : List Level) (l : Level) → ((q : ℕ) → open_at (drop q c) ≡ false) → answer p c l ≡ []
answer-none p [] l h = refl
answer-none p (x ∷ c) l h =
    let e = h 0 in
    let r = answer-none (suc p) c l (λ q. h (suc q)) in
    rw (e, r) refl

pub answer-open : (p : ℕ) (c : List Level) (l : Level) (q : ℕ) → open_at (drop q c) ≡ true
    → answer p c l ≡ told (p + q) (decided_at (drop q c ++ l ∷ []))
answer-open p [] l q h =
    let r = (open-room (drop q []) (is-open (drop q []) h)).0 in
    let n = length-drop {A = Level} q [] in
    absurd (omega (arith, r, n))
answer-open p (x ∷ c) l zero h =
    let z : p + zero ≡ p = omega arith in
    rw (h, z) refl
answer-open p (x ∷ c) l (suc q) h = go (open_at (x ∷ c)) refl (answer-open (suc p) c l q h)
  where
    go : (b : Bool) → open_at (x ∷ c) ≡ b → answer (suc p) c l ≡ told (suc p + q) (decided_at (drop q c ++ l ∷ []))
        → cond b (told p (decided_at (x ∷ c ++ l ∷ []))) (answer (suc p) c l) ≡ told (p + suc q)
        (decided_at (drop q c ++ l ∷ []))
    go true e ih = absurd (open-once c q x e h)
    go false e ih = ih ∙ ap (λ n. told n (decided_at (drop q c ++ l ∷ []))) (omega arith)

-- the new cell against the rule
pub keeps-new : (s : Level) (d : List Level) (l : Level)
    → keeps s (d ++ l ∷ []) (length d) ≡ rule mark_at (length d) l (before s d (64 * (length d / 64)))
    (before s d (length d))
unfolding keeps
keeps-new s d l =
    let f : at (d ++ l ∷ []) (length d) ≡ l = get_or-append_seam d l [] Low in
    let g1 : before s (d ++ l ∷ []) (length d) ≡ before s d (length d) =
    before-append_left s d (l ∷ []) (length d) (omega arith) in
    let g2 : before s (d ++ l ∷ []) (64 * (length d / 64)) ≡ before s d (64 * (length d / 64)) =
    before-append_left s d (l ∷ []) (64 * (length d / 64)) (omega arith) in
    ap₂ (λ x p. rule mark_at (length d) x (before s (d ++ l ∷ []) (64 * (length d / 64))) p) f g1
    ∙ ap (λ b. rule mark_at (length d) l b (before s d (length d))) g2

-- how far the rule holds with one more cell
pub front-next : (d : List Level) (l : Level) → IsOpen d → length d < block_len
    → keeps (entry d) (d ++ l ∷ []) (length d) ≡ true
    → front (entry d) (d ++ l ∷ []) ≡ suc (length d)
front-next d l o h k =
    let w = front-is (entry d) d in
    let a = o.all in
    let n = length-append d (l ∷ []) in
    front-unique (entry d) (d ++ l ∷ []) (front (entry d) (d ++ l ∷ [])) (suc (length d))
    (front-is (entry d) (d ++ l ∷ []))
    (record {
      within = omega (arith, n, h);
      kept = λ i g. kept i g (cases_eq i (length d));
      stops = λ g. absurd (omega (arith, n, g));
    })
  where
    kept : (i : ℕ) → i < suc (length d) → (i ≡ length d) ⊎ (i ≡ length d → ⊥) → keeps (entry d) (d ++ l ∷ []) i ≡ true
    kept i g (inl e) = ap (keeps (entry d) (d ++ l ∷ [])) e ∙ k
    kept i g (inr e) =
        let a = o.all in
        keeps-append (entry d) d (l ∷ []) i (omega arith) ∙ (front-is (entry d) d).kept i (omega arith)

pub front-last : (d : List Level) (l : Level) → IsOpen d
    → (length d < block_len → keeps (entry d) (d ++ l ∷ []) (length d) ≡ false)
    → front (entry d) (d ++ l ∷ []) ≡ length d
front-last d l o k =
    let a = o.all in
    let r = open-room d o in
    let n = length-append d (l ∷ []) in
    front-unique (entry d) (d ++ l ∷ []) (front (entry d) (d ++ l ∷ [])) (length d) (front-is (entry d) (d ++ l ∷ []))
    (record {
      within = omega (arith, n, r);
      kept = λ i g. keeps-append (entry d) d (l ∷ []) i g ∙ (front-is (entry d) d).kept i (omega arith);
      stops = λ g. k (omega (arith, g));
    })

module _ (d : List Level) (l : Level) (o : IsOpen d) where
  pub same-entry : entry (d ++ l ∷ []) ≡ entry d
  same-entry = let r = open-room d o in entry-append d (l ∷ []) (omega arith)

  pub still-begins : begins_block (d ++ l ∷ []) ≡ true
  still-begins = let r = open-room d o in begins-append Z d (l ∷ []) (omega arith) ∙ o.begins

  -- a cell that keeps the rule is taken, and nothing is decided
  pub open-next : length d < block_len → keeps (entry d) (d ++ l ∷ []) (length d) ≡ true
      → (open_at (d ++ l ∷ []) ≡ true) × (decided_at (d ++ l ∷ []) ≡ None)
  open-next h k =
      let n = length-append d (l ∷ []) in
      let f : front (entry (d ++ l ∷ [])) (d ++ l ∷ []) ≡ suc (length d) = ap (λ s. front s (d ++ l ∷ [])) same-entry
      ∙ front-next d l o h k in (
        open-from (d ++ l ∷ []) (record { begins = still-begins; all = omega (arith, f, n) }),
        none-from-front (d ++ l ∷ []) (omega (arith, f, n)),
      )

  pub front-at-last : (length d < block_len → keeps (entry d) (d ++ l ∷ []) (length d) ≡ false)
      → front (entry (d ++ l ∷ [])) (d ++ l ∷ []) ≡ length d
  front-at-last k = ap (λ s. front s (d ++ l ∷ [])) same-entry ∙ front-last d l o k

  -- no cell goes on after such a cell
  pub open-ends : (length d < block_len → keeps (entry d) (d ++ l ∷ []) (length d) ≡ false)
      → open_at (d ++ l ∷ []) ≡ false
  open-ends k = false_from_ne_true (open_at (d ++ l ∷ [])) (λ e.
      let a = (is-open (d ++ l ∷ []) e).all in
      let f = front-at-last k in
      let n = length-append d (l ∷ []) in
      omega (arith, a, f, n))

  pub open-decides : (k : length d < block_len → keeps (entry d) (d ++ l ∷ []) (length d) ≡ false)
      → decided_at (d ++ l ∷ []) ≡ Some
      (ended (entry d) (length d) (same l (before (entry d) d (length d))) (read_slots block_subframes (d ++ l ∷ [])))
  open-decides k =
      let f = front-at-last k in
      let n = length-append d (l ∷ []) in
      let m : length (d ++ l ∷ []) ≡ suc (length d) = omega (arith, n) in
      let b : same (at (d ++ l ∷ []) (length d)) (before (entry (d ++ l ∷ [])) (d ++ l ∷ []) (length d)) ≡ same l
      (before (entry d) d (length d)) =
      ap₂ same (get_or-append_seam d l [] Low)
      (ap (λ s. before s (d ++ l ∷ []) (length d)) same-entry
      ∙ before-append_left (entry d) d (l ∷ []) (length d) (omega arith)) in
      decided-from (d ++ l ∷ []) still-begins (omega (arith, f, n))
      ∙ ap Some (outcome_is (d ++ l ∷ [])
      ∙ ap₂ (λ s f. outcome_by s f (length (d ++ l ∷ []))
      (same (at (d ++ l ∷ []) f) (before (entry (d ++ l ∷ [])) (d ++ l ∷ []) f))
      (read_slots block_subframes (d ++ l ∷ [])))
      same-entry f
      ∙ ap₂ (λ n b. outcome_by (entry d) (length d) n b (read_slots block_subframes (d ++ l ∷ []))) m b
      ∙ ap (λ t. cond t
      (ended (entry d) (length d) (same l (before (entry d) d (length d))) (read_slots block_subframes (d ++ l ∷ [])))
      (left (entry d) (length d) (read_slots block_subframes (d ++ l ∷ []))))
      (lt-ltb (length d) (suc (length d)) (omega arith)))

-- what is in hand with the last cell was in hand before it
pub open-back : (d : List Level) (l : Level) → 8 ≤ length d → open_at (d ++ l ∷ []) ≡ true → open_at d ≡ true
open-back d l h e =
    let o = is-open (d ++ l ∷ []) e in
    let w = front-is (entry (d ++ l ∷ [])) (d ++ l ∷ []) in
    let v = w.within in
    let a = o.all in
    let n = length-append d (l ∷ []) in
    let s : entry (d ++ l ∷ []) ≡ entry d = entry-append d (l ∷ []) (omega arith) in
    open-from d (record {
      begins = sym (begins-append Z d (l ∷ []) h) ∙ o.begins;
      all = front-unique (entry d) d (front (entry d) d) (length d) (front-is (entry d) d)
          (record {
            within = omega (arith, v, a, n);
            kept = λ i g. sym (keeps-append (entry d) d (l ∷ []) i g) ∙ ap (λ s. keeps s (d ++ l ∷ []) i) (sym s)
                ∙ w.kept i (omega (arith, a, n, g));
            stops = λ g. absurd (omega (arith, g));
          });
    })

-- eight cells that begin a block are in hand
pub open-eight : (d : List Level) → length d ≡ 8 → begins_block d ≡ true → open_at d ≡ true
open-eight d h e =
    let f = front-eight d e in
    let w = (front-is (entry d) d).within in
    open-from d (record { begins = e; all = omega (arith, f, w, h) })

-- where a list ends with what was in hand no more
pub none-after : (c : List Level) (l : Level) (q : ℕ) → open_at (drop q c) ≡ false → 8 ≤ length (drop q c)
    → open_at (drop q c ++ l ∷ []) ≡ false
none-after c l q e h =
    false_from_ne_true (open_at (drop q c ++ l ∷ [])) (λ t. true≢false (sym (open-back (drop q c) l h t) ∙ e))

-- one at most is in hand
pub open-only : (c : List Level) (p q : ℕ) → open_at (drop p c) ≡ true → open_at (drop q c) ≡ true → p ≡ q
open-only [] p q a b =
    let r = (open-room (drop p []) (is-open (drop p []) a)).0 in
    let n = length-drop {A = Level} p [] in
    absurd (omega (arith, r, n))
open-only (x ∷ c) zero zero a b = refl
open-only (x ∷ c) zero (suc q) a b = absurd (open-once c q x a b)
open-only (x ∷ c) (suc p) zero a b = absurd (open-once c p x b a)
open-only (x ∷ c) (suc p) (suc q) a b = ap suc (open-only c p q a b)

-- cells all of which keep the rule are taken, and nothing is decided
pub open-cells : (c d : List Level) (q : ℕ) → open_at (drop q c) ≡ true → length (drop q c ++ d) ≤ block_len
    → ((i : ℕ) → i < length (drop q c ++ d) → keeps (entry (drop q c)) (drop q c ++ d) i ≡ true)
    → (open_at (drop q c ++ d) ≡ true) × (decided_from 0 (c ++ d) ≡ decided_from 0 c)
open-cells c [] q o h k = (ap open_at (append-nil (drop q c)) ∙ o, ap (decided_from 0) (append-nil c))
open-cells c (x ∷ d) q o h k =
    let n = length-append (drop q c) (x ∷ d) in
    let m = length-append (drop q c) (x ∷ []) in
    let w = is-open (drop q c) o in
    let r = open-room (drop q c) w in
    let a = append_assoc (drop q c) (x ∷ []) d in
    let z = open-next (drop q c) x w (omega (arith, n, h))
    (sym (keeps-append (entry (drop q c)) (drop q c ++ x ∷ []) d (length (drop q c)) (omega (arith, m)))
    ∙ ap (λ v. keeps (entry (drop q c)) v (length (drop q c))) a ∙ k (length (drop q c)) (omega (arith, n))) in
    let l = length-drop q c in
    let t : drop q (c ++ x ∷ []) ≡ drop q c ++ x ∷ [] = drop-append-le q c (x ∷ []) (omega (arith, l, r)) in
    let b : drop q (c ++ x ∷ []) ++ d ≡ drop q c ++ x ∷ d = ap (λ v. v ++ d) t ∙ a in
    let more = open-cells (c ++ x ∷ []) d q (ap open_at t ∙ z.0) (subst (λ v. length v ≤ block_len) (sym b) h)
    (λ i g. ap₂ (λ s v. keeps s v i) (ap entry t ∙ same-entry (drop q c) x w) b
    ∙ k i (subst (λ v. i < length v) b g)) in (
      ap open_at (sym b) ∙ more.0,
      ap (decided_from 0) (sym (append_assoc c (x ∷ []) d)) ∙ more.1 ∙ decided-push 0 c x
          ∙ ap (λ v. decided_from 0 c ++ v) (answer-open 0 c x q o)
          ∙ ap (λ v. decided_from 0 c ++ told (0 + q) v) z.1 ∙ append-nil (decided_from 0 c),
    )
