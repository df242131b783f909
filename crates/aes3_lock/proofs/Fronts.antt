-- How far the rule holds.
use Rattle.std.proofs.Common.{◌≡◌, ℕ, ◌+◌, ◌*◌, ◌/◌, ◌<◌, ◌≤◌, ◌⊎◌, inl, inr, min, List, ◌++◌, true, false, refl}
use Rattle.std.proofs.Common.{length, ap, ◌∙◌, sym, arith, length-append, true≢false}
use Rattle.std.proofs.lemmas.Bool.{cases_order}
use Rattle.std.proofs.lemmas.List.{get_or_append_left}
use Rattle.std.proofs.lemmas.List.Sums.{prefix_len_passes, prefix_len_stops, prefix_len-le-length}
use Rattle.std.proofs.lemmas.List.FromFn.{length-range_with_len, get_or-range_with_len}
use Rattle.std.specs.List.{range_with_len}
use Rattle.aes3_level.specs.declared.level.Level.{Level}
use Rattle.aes3_level.specs.declared.level.Level.TheVariants.{Low}
use Rattle.aes3_slot.specs.Rules.{at, before, Kept}
use Rattle.aes3_slot.proofs.Index.{before-append_left}
use Rattle.aes3_slot.proofs.RuleTests.{kept-from-rule, rule-from-kept}
use Rattle.aes3_frame.specs.Blocks.{mark_at, block_len}
use Rattle.aes3_lock.specs.Candidates.{keeps, front}

pub keeps-append : (s : Level) (c d : List Level) (i : ℕ) → i < length c → keeps s (c ++ d) i ≡ keeps s c i
unfolding keeps
keeps-append s c d i h =
    let f : at (c ++ d) i ≡ at c i = get_or_append_left c d Low i h in
    let g1 : before s (c ++ d) i ≡ before s c i = before-append_left s c d i (omega arith) in
    let g2 : before s (c ++ d) (64 * (i / 64)) ≡ before s c (64 * (i / 64)) =
    before-append_left s c d (64 * (i / 64)) (omega arith) in
    rw (f, g1, g2) refl

-- the test and the rule
pub kept-from-keeps : (s : Level) (c : List Level) (i : ℕ) → keeps s c i ≡ true → Kept mark_at s c i
unfolding keeps
kept-from-keeps s c i e = kept-from-rule mark_at s c i e

pub keeps-from-kept : (s : Level) (c : List Level) (i : ℕ) → Kept mark_at s c i → keeps s c i ≡ true
unfolding keeps
keeps-from-kept s c i k = rule-from-kept mark_at s c i k

pub record IsFront (s : Level) (c : List Level) (f : ℕ) : Type 0 where
  pub within : f ≤ min block_len (length c)
  pub kept : (i : ℕ) → i < f → keeps s c i ≡ true
  pub stops : f < min block_len (length c) → keeps s c f ≡ false

pub front-is : (s : Level) (c : List Level) → IsFront s c (front s c)
unfolding front
front-is s c =
    let n = min block_len (length c) in
    let l = length-range_with_len 0 (min block_len (length c)) in
    let w = prefix_len-le-length (keeps s c) (range_with_len 0 (min block_len (length c))) in
    let z : (i : ℕ) → 0 + i ≡ i = λ i. omega arith in
    record {
      within = omega (arith, l, w);
      kept = λ i h. ap (keeps s c)
          (sym (get_or-range_with_len 0 (min block_len (length c)) i 0 (omega (arith, l, w, h)) ∙ z i))
          ∙ prefix_len_passes (keeps s c) (range_with_len 0 (min block_len (length c))) i 0 h;
      stops = λ h. ap (keeps s c) (sym (get_or-range_with_len 0 (min block_len (length c)) _ 0 h ∙ z _))
          ∙ prefix_len_stops (keeps s c) (range_with_len 0 (min block_len (length c))) 0 (omega (arith, l, h));
    }

pub front-unique : (s : Level) (c : List Level) (f g : ℕ) → IsFront s c f → IsFront s c g → f ≡ g
front-unique s c f g a b = go (cases_order f g)
  where
    go : (f ≡ g) ⊎ ((f < g) ⊎ (g < f)) → f ≡ g
    go (inl e) = e
    go (inr (inl h)) = let w = b.within in absurd (true≢false (sym (b.kept f h) ∙ a.stops (omega arith)))
    go (inr (inr h)) = let w = a.within in absurd (true≢false (sym (a.kept g h) ∙ b.stops (omega arith)))

-- more cells change nothing where a wrong cell came, or the block is whole
pub front-stays : (s : Level) (c d : List Level) → front s c < length c → front s (c ++ d) ≡ front s c
front-stays s c d h =
    let a = front-is s c in
    let w = a.within in
    let l = length-append c d in
    front-unique s (c ++ d) (front s (c ++ d)) (front s c) (front-is s (c ++ d))
    (record {
      within = omega (arith, l, w);
      kept = λ i o. keeps-append s c d i (omega (arith, h, o)) ∙ a.kept i o;
      stops = λ o. keeps-append s c d (front s c) h ∙ a.stops (omega (arith, o, h));
    })
