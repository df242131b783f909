-- Cells begin a subframe exactly where each of them keeps the rule.
use Rattle.std.proofs.Common.{◌≡◌, ℕ, ◌+◌, ◌-◌, ◌<◌, ◌≤◌, List, [], ◌∷◌, ◌++◌, Bool, true, false, length, take, drop}
use Rattle.std.proofs.Common.{take-append-drop, length-take, length-take-le, ap, ◌∙◌, sym, subst, arith, length-append}
use Rattle.std.proofs.Common.{append_assoc, append-nil}
use Rattle.std.proofs.lemmas.Bool.{false≢true}
use Rattle.std.proofs.lemmas.List.{get_or_push}
use Rattle.aes3_level.specs.declared.level.Level.{Level}
use Rattle.aes3_level.specs.declared.level.Level.TheVariants.{Low}
use Rattle.aes3_level.specs.Cells.{line, after}
use Rattle.aes3_slot.specs.declared.mark.Mark.{Mark}
use Rattle.aes3_slot.specs.Slots.{runs_of, slot_runs, slots_len, payload_len, with_parity}
use Rattle.aes3_slot.specs.Rules.{before, AllKept, Each28}
use Rattle.aes3_slot.specs.Reading.{read_bits}
use Rattle.aes3_slot.specs.Fronts.{IsFrontOf, IsLawfulFrontOf, stands}
use Rattle.aes3_slot.proofs.RuleTests.{kept-from-stands, stands-from-kept, stands-append}
use Rattle.aes3_slot.proofs.Unique.{read-slots}
use Rattle.aes3_slot.proofs.Subframes.{length-with_parity}
use Rattle.aes3_slot.proofs.Index.{subframe-last}
use Rattle.aes3_slot.proofs.Bridge.{kept-runs, kept-front, read-runs}
use Rattle.aes3_slot.proofs.WholeSubframes.{extend, extend-runs, kept-new, kept-push}
use Rattle.aes3_slot.proofs.Parity.{even-from-level, split-parity}

-- the runs of one subframe
runs_of-one : (m : Mark) (bits : List Bool) → runs_of (λ _. m) (bits ∷ []) ≡ slot_runs m bits
runs_of-one m bits = append-nil (slot_runs m bits)

pub kept-slots : (s : Level) (m : Mark) (bits : List Bool) → length bits ≡ slots_len
    → AllKept (λ _. m) s (line s (slot_runs m bits))
unfolding slots_len
kept-slots s m bits l = subst (λ r. AllKept (λ _. m) s (line s r)) (runs_of-one m bits)
    (kept-runs (λ _. m) s (bits ∷ []) (l, tt))

pub kept-from-front : (s : Level) (m : Mark) (c : List Level) → IsFrontOf s m c → AllKept (λ _. m) s c
kept-from-front s m c f =
    kept-front (λ _. m) s c f.rest (subst (AllKept (λ _. m) s) f.is (kept-slots s m f.bits f.count))

pub front-from-kept : (s : Level) (m : Mark) (c : List Level) → length c ≤ 64 → AllKept (λ _. m) s c → IsFrontOf s m c
unfolding slots_len
front-from-kept s m c l k = go e.0 e.1 e.2 e.3.0 e.3.1
  where
    e : (slots : List (List Bool)) × (length slots ≡ 1) × Each28 slots
        × ((rest : List Level) × (line s (runs_of (λ _. m) slots) ≡ c ++ rest))
    e = extend-runs 1 (λ _. m) s c (omega arith) k

    go : (slots : List (List Bool)) → length slots ≡ 1 → Each28 slots → (rest : List Level)
        → line s (runs_of (λ _. m) slots) ≡ c ++ rest → IsFrontOf s m c
    go [] a b rest f = absurd (omega arith)
    go (bits ∷ []) a b rest f = record {
      bits = bits;
      count = b.0;
      rest = rest;
      is = ap (line s) (sym (runs_of-one m bits)) ∙ f;
    }
    go (bits ∷ more ∷ most) a b rest f = absurd (omega arith)

-- 64 cells
pub whole-from-kept : (s : Level) (m : Mark) (c : List Level) → length c ≡ 64 → AllKept (λ _. m) s c
    → (bits : List Bool) × (length bits ≡ slots_len) × (c ≡ line s (slot_runs m bits))
unfolding slots_len
whole-from-kept s m c l k = go r.0 r.1 r.2 r.3
  where
    r : (slots : List (List Bool)) × (length slots ≡ 1) × Each28 slots × (c ≡ line s (runs_of (λ _. m) slots))
    r = read-runs (λ _. m) 1 s c l k

    go : (slots : List (List Bool)) → length slots ≡ 1 → Each28 slots → c ≡ line s (runs_of (λ _. m) slots)
        → (bits : List Bool) × (length bits ≡ 28) × (c ≡ line s (slot_runs m bits))
    go [] a b f = absurd (omega arith)
    go (bits ∷ []) a b f = (bits, b.0, f ∙ ap (line s) (runs_of-one m bits))
    go (bits ∷ more ∷ most) a b f = absurd (omega arith)

-- the parity bit is free, so that up to 63 cells also begin a subframe whose parity bit is right
lawful-from-63 : (s : Level) (m : Mark) (c d : List Level) → length (c ++ d) ≡ 63 → AllKept (λ _. m) s (c ++ d)
    → IsLawfulFrontOf s m c
unfolding slots_len payload_len
lawful-from-63 s m c d l k = go w.0 w.1 w.2
  where
    n64 : length ((c ++ d) ++ s ∷ []) ≡ 64
    n64 = let n = length-append (c ++ d) (s ∷ []) in omega (arith, n, l)

    k64 : AllKept (λ _. m) s ((c ++ d) ++ s ∷ [])
    k64 = kept-push (λ _. m) s (c ++ d) s k
        (kept-new (λ _. m) s (c ++ d) s (λ p. absurd (omega (arith, l, p))) (λ p q. absurd (omega (arith, l, q))))

    w : (bits : List Bool) × (length bits ≡ slots_len) × ((c ++ d) ++ s ∷ [] ≡ line s (slot_runs m bits))
    w = whole-from-kept s m ((c ++ d) ++ s ∷ []) n64 k64

    go : (bits : List Bool) → length bits ≡ 28 → (c ++ d) ++ s ∷ [] ≡ line s (slot_runs m bits) → IsLawfulFrontOf s m c
    go bits n e =
        let level : after s (slot_runs m bits) ≡ s =
        sym (subframe-last s m bits n) ∙ ap (λ x. before s x 64) (sym e) ∙ get_or_push (c ++ d) s Low 63 l in
        let p = split-parity 27 bits n (even-from-level s m bits n level) in
        record {
          payload = p.0;
          count = p.1;
          rest = d ++ s ∷ [];
          is = ap (λ y. line s (slot_runs m y)) (sym p.2) ∙ sym e ∙ append_assoc c d (s ∷ []);
        }

pub lawful-from-kept : (s : Level) (m : Mark) (c : List Level) → length c ≤ 63 → AllKept (λ _. m) s c
    → IsLawfulFrontOf s m c
lawful-from-kept s m c l k =
    let e = extend (63 - length c) (λ _. m) s c k in
    let d = e.1 in
    let n = length-append c e.0 in
    lawful-from-63 s m c e.0 (omega (arith, n, d)) e.2

pub front-from-lawful : (s : Level) (m : Mark) (c : List Level) → IsLawfulFrontOf s m c → IsFrontOf s m c
front-from-lawful s m c f = record {
  bits = with_parity f.payload;
  count = length-with_parity f.payload f.count;
  rest = f.rest;
  is = f.is;
}

-- 64 cells that keep the rule are those of the bits read from them
pub whole-read : (s : Level) (m : Mark) (c : List Level) → length c ≡ 64 → AllKept (λ _. m) s c
    → c ≡ line s (slot_runs m (read_bits (drop 8 c)))
unfolding slots_len
whole-read s m c l k =
    let w = whole-from-kept s m c l k in
    let b : read_bits (drop 8 c) ≡ w.0 = ap (λ x. read_bits (drop 8 x)) w.2 ∙ read-slots s m w.0 in
    w.2 ∙ ap (λ bits. line s (slot_runs m bits)) (sym b)

-- the first cell that can't stand
pub front-before : (s : Level) (m : Mark) (c : List Level) (n : ℕ) → length c ≡ 64 → n ≤ 64
    → ((i : ℕ) → i < n → stands s m c i ≡ true)
    → IsFrontOf s m (take n c)
front-before s m c n l g h =
    let t : length (take n c) ≡ n = length-take-le n c (omega arith) in
    front-from-kept s m (take n c) (omega arith) (λ i lt.
    kept-from-stands s m (take n c) i (omega arith)
    (sym (stands-append s m (take n c) (drop n c) i lt) ∙ ap (λ x. stands s m x i) (take-append-drop n c)
    ∙ h i (omega arith)))

pub front-fails : (s : Level) (m : Mark) (c : List Level) (n i : ℕ) → length c ≡ 64 → n ≤ 64 → i < n
    → stands s m c i ≡ false → IsFrontOf s m (take n c) → ⊥
front-fails s m c n i l g lt h f =
    let t : length (take n c) ≡ n = length-take-le n c (omega arith) in
    let k = kept-from-front s m (take n c) f i (omega arith) in
    false≢true (sym h ∙ ap (λ x. stands s m x i) (sym (take-append-drop n c))
    ∙ stands-append s m (take n c) (drop n c) i (omega arith)
    ∙ stands-from-kept s m (take n c) i (omega arith) k)

pub front-ends : (s : Level) (m : Mark) (c : List Level) (n : ℕ) → length c ≡ 64 → n < 64 → stands s m c n ≡ false
    → IsFrontOf s m (take (n + 1) c) → ⊥
front-ends s m c n l g h f = front-fails s m c (n + 1) n l (omega arith) (omega arith) h f

-- fewer than 64 cells that begin a subframe begin one whose parity bit is right
pub lawful-from-front : (s : Level) (m : Mark) (c : List Level) (n : ℕ) → n < 64 → IsFrontOf s m (take n c)
    → IsLawfulFrontOf s m (take n c)
lawful-from-front s m c n g f =
    let t = length-take n c in
    lawful-from-kept s m (take n c) (omega (arith, t)) (kept-from-front s m (take n c) f)
