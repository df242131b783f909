-- Cells that make a subframe whole, and the cells of the next one behind them.
use Rattle.std.proofs.Common.{◌≡◌, ℕ, suc, ◌+◌, ◌-◌, ◌*◌, ◌/◌, ◌%◌, ◌^◌, ◌<◌, ◌≤◌, ◌⊎◌, inl, inr, List, ◌++◌, true}
use Rattle.std.proofs.Common.{refl, length, take, drop, set, get_or, ap, ap₂, ◌∙◌, sym, subst, arith, length-append}
use Rattle.std.proofs.Common.{length-drop, length-take-le, take-append-drop, append_assoc, drop_at}
use Rattle.std.proofs.lemmas.List.{drop-append-le, take-append-le, take_at, get_or-set_same, get_or-set_other}
use Rattle.std.proofs.lemmas.List.{get_or-append_right}
use Rattle.std.proofs.lemmas.Bool.{cases_eq, cases_lt}
use Rattle.aes3_level.specs.declared.level.Level.{Level}
use Rattle.aes3_level.specs.declared.level.Level.TheVariants.{Low}
use Rattle.aes3_level.specs.Words.{low_cells, word_cells}
use Rattle.aes3_slot.specs.Rules.{at, before, AllKept}
use Rattle.aes3_slot.specs.Fronts.{stands}
use Rattle.aes3_slot.proofs.Index.{before-append_left, before-append_right}
use Rattle.aes3_slot.proofs.RuleTests.{kept-from-stands, stands-from-kept}
use Rattle.aes3_frame.specs.Blocks.{mark_at, block_subframes, block_len}
use Rattle.aes3_lock.specs.Candidates.{keeps}
use Rattle.aes3_lock.specs.Following.{Gathered}
use Rattle.aes3_lock.proofs.Deciding.{block_len_64}
use Rattle.aes3_lock.proofs.Fronts.{keeps-append}
use Rattle.aes3_lock.proofs.LastEight.{before-at}

-- more cells of a subframe that they don't make whole
pub more-cells : (u : Level) (sub new : ℕ) (words : List ℕ) (s : Level) (d e : List Level) → Gathered u sub words s d
    → length d % 64 + length e < 64
    → (sub < 2 ^ (length d % 64) → low_cells (length d % 64 + length e) new ≡ low_cells (length d % 64) sub ++ e)
    → (sub < 2 ^ (length d % 64) → new < 2 ^ (length d % 64 + length e))
    → Gathered u new words s (d ++ e)
more-cells u sub new words s d e g h cells few =
    let n = length-append d e in
    let whole-is : length (d ++ e) / 64 ≡ length d / 64 = omega (arith, n, h) in
    let len-is : length (d ++ e) % 64 ≡ length d % 64 + length e = omega (arith, n, h) in
    record {
      level = g.level
          ∙ sym (ap (λ k. before s (d ++ e) (64 * k)) whole-is
          ∙ before-append_left s d e (64 * (length d / 64)) (omega arith));
      cells = ap (λ k. low_cells k new) len-is ∙ cells g.few ∙ ap (λ c. c ++ e) g.cells
          ∙ sym (ap (λ k. drop (64 * k) (d ++ e)) whole-is ∙ drop-append-le (64 * (length d / 64)) d e (omega arith));
      few = subst (λ k. new < 2 ^ k) (sym len-is) (few g.few);
      whole = λ j l r.
          let m = length-drop (64 * j) d in
          g.whole j l (omega (arith, n, h, r))
          ∙ sym (ap (take 64) (drop-append-le (64 * j) d e (omega (arith, n, h, r)))
          ∙ take-append-le 64 (drop (64 * j) d) e (omega (arith, n, h, r, m)));
    }

-- the whole subframes of cells
module _ (s : Level) (d : List Level) where
  abbrev pub start : List Level
  start = take (64 * (length d / 64)) d

  pub start-length : length start ≡ 64 * (length d / 64)
  start-length = length-take-le (64 * (length d / 64)) d (omega arith)

  pub start-last : before s d (64 * (length d / 64)) ≡ before s start (length start)
  start-last =
      let m = start-length in
      ap₂ (before s) (sym (take-append-drop (64 * (length d / 64)) d)) (sym m)
      ∙ before-append_left s start (drop (64 * (length d / 64)) d) (length start) (omega arith)

-- cells d of which the last subframe isn't whole, cells e that make it whole as w, and cells f behind it
module _ (s : Level) (d e f w : List Level) (is : w ≡ drop (64 * (length d / 64)) d ++ e) (all : length w ≡ 64) where
  whole-length : length ((start s d) ++ w) ≡ 64 * suc (length d / 64)
  whole-length = let n = length-append (start s d) w in let m = start-length s d in omega (arith, n, m, all)

  joined : d ++ (e ++ f) ≡ ((start s d) ++ w) ++ f
  joined =
      ap (λ v. v ++ (e ++ f)) (sym (take-append-drop (64 * (length d / 64)) d))
      ∙ append_assoc (start s d) (drop (64 * (length d / 64)) d) (e ++ f)
      ∙ ap (λ v. (start s d) ++ v) (sym (append_assoc (drop (64 * (length d / 64)) d) e f) ∙ ap (λ v. v ++ f) (sym is))
      ∙ sym (append_assoc (start s d) w f)

  joined-length : length (d ++ (e ++ f)) ≡ 64 * suc (length d / 64) + length f
  joined-length = let n = length-append ((start s d) ++ w) f in let m = whole-length in
      ap length joined ∙ omega (arith, n, m)

  last-is : before s ((start s d) ++ w) (length ((start s d) ++ w)) ≡ at w 63
  last-is =
      let m = start-length s d in
      let n = whole-length in
      before-at s ((start s d) ++ w) (length ((start s d) ++ w)) (omega (arith, n))
      ∙ get_or-append_right (start s d) w (64 * (length d / 64)) (length ((start s d) ++ w) - 1) Low m
      (omega (arith, n))
      ∙ ap (at w) (let q : length ((start s d) ++ w) - 1 - 64 * (length d / 64) ≡ 63 = omega (arith, n) in q)

  -- what is kept then
  pub made-whole : (u : Level) (sub new x : ℕ) (words : List ℕ) → Gathered u sub words s d → length words ≡ block_subframes
      → length d < block_len
      → length f < 64 → low_cells (length f) new ≡ f → new < 2 ^ length f → word_cells x ≡ w
      → Gathered (at w 63) new (set words (length d / 64) x) s (d ++ (e ++ f))
  made-whole u sub new x words g lw room few cells bound same =
      let n = joined-length in
      let whole-is : length (d ++ (e ++ f)) / 64 ≡ suc (length d / 64) = omega (arith, n, few) in
      let len-is : length (d ++ (e ++ f)) % 64 ≡ length f = omega (arith, n, few) in
      let m = whole-length in
      record {
        level = sym (ap₂ (λ c k. before s c (64 * k)) joined whole-is ∙ ap (before s (((start s d) ++ w) ++ f)) (sym m)
            ∙ before-append_left s ((start s d) ++ w) f (length ((start s d) ++ w)) (omega arith) ∙ last-is);
        cells = ap (λ k. low_cells k new) len-is ∙ cells
            ∙ sym (ap₂ (λ k c. drop (64 * k) c) whole-is joined
            ∙ drop_at ((start s d) ++ w) f (64 * suc (length d / 64)) m);
        few = subst (λ k. new < 2 ^ k) (sym len-is) bound;
        whole = λ j l r. slot j (cases_eq j (length d / 64)) (omega (arith, n, r, few));
      }
    where
      here : length d / 64 < length words
      here = let b = block_len_64 in omega (arith, b, lw, room)

      slot : (j : ℕ) → (j ≡ length d / 64) ⊎ (j ≡ length d / 64 → ⊥) → j ≤ length d / 64
          → word_cells (get_or (set words (length d / 64) x) j 0) ≡ take 64 (drop (64 * j) (d ++ (e ++ f)))
      slot j (inl q) le =
          let a = start-length s d in
          let part : take 64 (drop (64 * (length d / 64)) (d ++ (e ++ f))) ≡ w =
          ap (λ c. take 64 (drop (64 * (length d / 64)) c)) (joined ∙ append_assoc (start s d) w f)
          ∙ ap (take 64) (drop_at (start s d) (w ++ f) (64 * (length d / 64)) a)
          ∙ take_at w f 64 all in
          ap (λ i. word_cells (get_or (set words (length d / 64) x) i 0)) q
          ∙ ap word_cells (get_or-set_same words (length d / 64) x 0 here) ∙ same
          ∙ sym part ∙ ap (λ i. take 64 (drop (64 * i) (d ++ (e ++ f)))) (sym q)
      slot j (inr q) le =
          let m = length-drop (64 * j) d in
          ap word_cells (get_or-set_other words (length d / 64) j x 0 q)
          ∙ g.whole j (omega (arith, le, here, lw)) (omega (arith, le, q))
          ∙ sym (ap (take 64) (drop-append-le (64 * j) d (e ++ f) (omega (arith, le, q)))
          ∙ take-append-le 64 (drop (64 * j) d) (e ++ f) (omega (arith, le, q, m)))

-- the rule by the place in a subframe
pub keeps-part : (s u : Level) (a b : List Level) (j i : ℕ) → length a ≡ 64 * j → before s a (length a) ≡ u → i < 64
    → keeps s (a ++ b) (64 * j + i) ≡ stands u (mark_at j) b i
unfolding keeps stands
keeps-part s u a b j i l e h =
    let r1 : (64 * j + i) % 64 ≡ i % 64 = omega (arith, h) in
    let r2 : (64 * j + i) / 64 ≡ j = omega (arith, h) in
    let r3 : (64 * j + i) % 2 ≡ i % 2 = omega arith in
    let here : at (a ++ b) (64 * j + i) ≡ at b i =
    get_or-append_right a b (64 * j) (64 * j + i) Low l (omega arith)
    ∙ ap (at b) (let q : 64 * j + i - 64 * j ≡ i = omega arith in q) in
    let first : before s (a ++ b) (64 * j) ≡ u =
    ap (before s (a ++ b)) (let q : 64 * j ≡ length a + 0 = omega (arith, l) in q)
    ∙ before-append_right s u a b 0 e in
    let last : before s (a ++ b) (64 * j + i) ≡ before u b i =
    ap (before s (a ++ b)) (let q : 64 * j + i ≡ length a + i = omega (arith, l) in q)
    ∙ before-append_right s u a b i e in
    rw (here, last, r1, r2, r3, first) refl

module _ (s u : Level) (d e f w : List Level) (is : w ≡ drop (64 * (length d / 64)) d ++ e) (all : length w ≡ 64)
    (level : u ≡ before s d (64 * (length d / 64))) where
  in-whole : (i : ℕ) → i < 64
      → keeps s (d ++ (e ++ f)) (64 * (length d / 64) + i) ≡ stands u (mark_at (length d / 64)) w i
  in-whole i h =
      let n = whole-length s d e f w is all in
      ap (λ c. keeps s c (64 * (length d / 64) + i)) (joined s d e f w is all)
      ∙ keeps-append s (start s d ++ w) f (64 * (length d / 64) + i) (omega (arith, n, h))
      ∙ keeps-part s u (start s d) w (length d / 64) i (start-length s d) (sym (level ∙ start-last s d)) h

  in-next : (i : ℕ) → i < 64
      → keeps s (d ++ (e ++ f)) (64 * suc (length d / 64) + i) ≡ stands (at w 63) (mark_at (suc (length d / 64))) f i
  in-next i h =
      ap (λ c. keeps s c (64 * suc (length d / 64) + i)) (joined s d e f w is all)
      ∙ keeps-part s (at w 63) (start s d ++ w) f (suc (length d / 64)) i (whole-length s d e f w is all)
      (last-is s d e f w is all) h

  -- cells that keep the rule so far go on with these where these begin their subframes
  pub all-keep : ((i : ℕ) → i < length d → keeps s d i ≡ true) → AllKept (λ _. mark_at (length d / 64)) u w
      → AllKept (λ _. mark_at (suc (length d / 64))) (at w 63) f → length f < 64 → (i : ℕ) → i < length (d ++ (e ++ f))
      → keeps s (d ++ (e ++ f)) i ≡ true
  all-keep k k1 k2 few i h = go (cases_lt i (64 * (length d / 64))) (cases_lt i (64 * suc (length d / 64)))
    where
      n : length (d ++ (e ++ f)) ≡ 64 * suc (length d / 64) + length f
      n = joined-length s d e f w is all

      go : (i < 64 * (length d / 64)) ⊎ (64 * (length d / 64) ≤ i) → (i < 64 * suc (length d / 64))
          ⊎ (64 * suc (length d / 64) ≤ i) → keeps s (d ++ (e ++ f)) i ≡ true
      go (inl a) b = keeps-append s d (e ++ f) i (omega (arith, a)) ∙ k i (omega (arith, a))
      go (inr a) (inl b) =
          let q : i ≡ 64 * (length d / 64) + (i - 64 * (length d / 64)) = omega (arith, a) in
          ap (keeps s (d ++ (e ++ f))) q ∙ in-whole (i - 64 * (length d / 64)) (omega (arith, a, b))
          ∙ stands-from-kept u (mark_at (length d / 64)) w (i - 64 * (length d / 64)) (omega (arith, a, b))
          (k1 (i - 64 * (length d / 64)) (omega (arith, a, b, all)))
      go (inr a) (inr b) =
          let q : i ≡ 64 * suc (length d / 64) + (i - 64 * suc (length d / 64)) = omega (arith, b) in
          ap (keeps s (d ++ (e ++ f))) q ∙ in-next (i - 64 * suc (length d / 64)) (omega (arith, b, n, h, few))
          ∙ stands-from-kept (at w 63) (mark_at (suc (length d / 64))) f (i - 64 * suc (length d / 64))
          (omega (arith, b, n, h, few))
          (k2 (i - 64 * suc (length d / 64)) (omega (arith, b, n, h)))

  -- and only there
  pub begins-whole : ((i : ℕ) → i < length (d ++ (e ++ f)) → keeps s (d ++ (e ++ f)) i ≡ true)
      → AllKept (λ _. mark_at (length d / 64)) u w
  begins-whole k i h =
      let n = joined-length s d e f w is all in
      kept-from-stands u (mark_at (length d / 64)) w i (omega (arith, all, h))
      (sym (in-whole i (omega (arith, all, h))) ∙ k (64 * (length d / 64) + i) (omega (arith, n, all, h)))

  pub begins-next : length f < 64 → ((i : ℕ) → i < length (d ++ (e ++ f)) → keeps s (d ++ (e ++ f)) i ≡ true)
      → AllKept (λ _. mark_at (suc (length d / 64))) (at w 63) f
  begins-next few k i h =
      let n = joined-length s d e f w is all in
      kept-from-stands (at w 63) (mark_at (suc (length d / 64))) f i (omega (arith, few, h))
      (sym (in-next i (omega (arith, few, h))) ∙ k (64 * suc (length d / 64) + i) (omega (arith, n, h)))
