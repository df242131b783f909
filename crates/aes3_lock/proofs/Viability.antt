-- Cells go on as a block's exactly where each of them keeps its rule.
use Rattle.std.proofs.Common.{◌≡◌, ℕ, suc, ◌*◌, ◌<◌, ◌≤◌, ◌⊎◌, inl, inr, List, [], ◌∷◌, Bool, true, refl, length, take}
use Rattle.std.proofs.Common.{drop, ap, ◌∙◌, sym, subst, arith, length-append, length-take, length-take-le}
use Rattle.std.proofs.Common.{take-append-drop, true≢false}
use Rattle.std.proofs.lemmas.Bool.{cases_lt}
use Rattle.aes3_level.specs.declared.level.Level.{Level}
use Rattle.aes3_level.specs.Cells.{line}
use Rattle.aes3_slot.specs.declared.mark.Mark.{Mark}
use Rattle.aes3_slot.specs.Slots.{runs_of, slot_runs}
use Rattle.aes3_slot.specs.Rules.{AllKept, Each28}
use Rattle.aes3_slot.proofs.Index.{subframe-length}
use Rattle.aes3_slot.proofs.Bridge.{kept-runs, kept-front}
use Rattle.aes3_slot.proofs.WholeSubframes.{extend-runs}
use Rattle.aes3_frame.specs.Blocks.{mark_at, block_subframes, block_len}
use Rattle.aes3_lock.specs.Candidates.{keeps, front}
use Rattle.aes3_lock.specs.Standing.{IsViable}
use Rattle.aes3_lock.proofs.Fronts.{keeps-append, kept-from-keeps, keeps-from-kept, IsFront, front-is, front-unique}
use Rattle.aes3_lock.proofs.Deciding.{block_len_64}
use Rattle.aes3_level.proofs.Runs.{line-append}
use Rattle.aes3_level.specs.Cells.{after}

pub keeps-take : (s : Level) (c : List Level) (n i : ℕ) → i < n → i < length c → keeps s (take n c) i ≡ keeps s c i
keeps-take s c n i h g =
    let l = length-take n c in
    sym (keeps-append s (take n c) (drop n c) i (omega (arith, l))) ∙ ap (λ x. keeps s x i) (take-append-drop n c)

-- the length of subframes' cells
pub length-runs_of : (marks : ℕ → Mark) (s : Level) (slots : List (List Bool)) → Each28 slots
    → length (line s (runs_of marks slots)) ≡ 64 * length slots
length-runs_of marks s [] e = refl
length-runs_of marks s (bits ∷ more) e =
    let u = after s (slot_runs (marks 0) bits) in
    let rest = runs_of (λ j. marks (suc j)) more in
    let a = ap length (line-append s (slot_runs (marks 0) bits) rest) in
    let b = length-append (line s (slot_runs (marks 0) bits)) (line u rest) in
    let n = subframe-length s (marks 0) bits e.0 in
    let m = length-runs_of (λ j. marks (suc j)) u more e.1 in
    omega (arith, a, b, n, m)

-- viable cells and the rule
pub viable-length : (s : Level) (c : List Level) → IsViable s c → length c ≤ block_len
viable-length s c v =
    let a = ap length v.is in
    let b = length-append c v.rest in
    let n = length-runs_of mark_at s v.slots v.each in
    let m = v.count in
    let k = block_len_64 in
    omega (arith, a, b, n, m, k)

pub viable-kept : (s : Level) (c : List Level) → IsViable s c → AllKept mark_at s c
viable-kept s c v = kept-front mark_at s c v.rest (subst (AllKept mark_at s) v.is (kept-runs mark_at s v.slots v.each))

pub kept-viable : (s : Level) (c : List Level) → length c ≤ block_len → AllKept mark_at s c → IsViable s c
kept-viable s c l k =
    let b = block_len_64 in
    let e = extend-runs block_subframes mark_at s c (omega arith) k in
    record { slots = e.0; count = e.1; each = e.2; rest = e.3.0; is = e.3.1 }

abbrev pub AllKeep : Level → List Level → Type 0
AllKeep s c = (i : ℕ) → i < length c → keeps s c i ≡ true

pub viable-keeps : (s : Level) (c : List Level) → IsViable s c → AllKeep s c
viable-keeps s c v i h = keeps-from-kept s c i (viable-kept s c v i h)

pub keeps-viable : (s : Level) (c : List Level) → length c ≤ block_len → AllKeep s c → IsViable s c
keeps-viable s c l k = kept-viable s c l (λ i h. kept-from-keeps s c i (k i h))

-- how far cells go on
pub front-from : (s : Level) (c : List Level) (f : ℕ) → IsFront s c f → front s c ≡ f
front-from s c f r = front-unique s c (front s c) f (front-is s c) r

-- a front of the cells up to there is viable, a longer one is not
pub take-viable : (s : Level) (c : List Level) (n : ℕ) → n ≤ front s c → IsViable s (take n c)
take-viable s c n h =
    let f = front-is s c in
    let w = f.within in
    let l = length-take n c in
    keeps-viable s (take n c) (omega (arith, l))
    (λ i g. keeps-take s c n i (omega (arith, l, g)) (omega (arith, l, g)) ∙ f.kept i (omega (arith, l, g)))

pub viable-take : (s : Level) (c : List Level) (n : ℕ) → n ≤ length c → IsViable s (take n c) → n ≤ front s c
viable-take s c n h v = go (cases_lt (front s c) n)
  where
    f : IsFront s c (front s c)
    f = front-is s c

    l : length (take n c) ≡ n
    l = length-take-le n c h

    go : (front s c < n) ⊎ (n ≤ front s c) → n ≤ front s c
    go (inr g) = g
    go (inl g) =
        let k = viable-length s (take n c) v in
        absurd (true≢false (sym (viable-keeps s (take n c) v (front s c) (omega (arith, l)))
        ∙ keeps-take s c n (front s c) g (omega arith)
        ∙ f.stops (omega (arith, l, k, h, g))))

-- all cells
pub viable-front : (s : Level) (c : List Level) → IsViable s c → front s c ≡ length c
viable-front s c v =
    let l = viable-length s c v in
    front-from s c (length c) (record {
      within = omega arith;
      kept = viable-keeps s c v;
      stops = λ h. absurd (omega arith);
    })

pub front-viable : (s : Level) (c : List Level) → front s c ≡ length c → IsViable s c
front-viable s c e =
    let f = front-is s c in
    let b = f.within in
    keeps-viable s c (omega arith) (λ i h. f.kept i (omega arith))
