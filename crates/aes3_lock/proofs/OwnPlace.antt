-- Two blocks after one level differ in two neighbouring cells between two slots at least, and in no other only where
-- one of them is the other with these cells changed.
use Rattle.std.proofs.Common.{◌≡◌, ◌≢◌, ℕ, zero, suc, ◌+◌, ◌<◌, ◌≤◌, ◌⊎◌, inl, inr, List, [], ◌∷◌, ◌++◌, Bool, true}
use Rattle.std.proofs.Common.{false, map, refl, length, ap, ap₂, ◌∙◌, sym, subst, arith, length-append}
use Rattle.std.proofs.lemmas.List.{get_or_append_left, get_or-append-add}
use Rattle.aes3_level.specs.declared.level.Level.{Level}
use Rattle.aes3_level.specs.declared.level.Level.TheVariants.{Low}
use Rattle.aes3_level.specs.Cells.{line, other, after}
use Rattle.aes3_level.proofs.Runs.{after-append}
use Rattle.aes3_slot.specs.declared.mark.Mark.{Mark}
use Rattle.aes3_slot.specs.Slots.{bits_runs, mark_runs, subframe_runs, runs_of, with_parity, slots_len, IsPayload}
use Rattle.aes3_slot.specs.Rules.{at}
use Rattle.aes3_slot.proofs.Index.{length-mark}
use Rattle.aes3_slot.proofs.Parity.{some-unique}
use Rattle.aes3_slot.proofs.SamePlace.{pair-apart}
use Rattle.aes3_slot.proofs.Subframes.{line-slots, after-mark, after-subframe, length-with_parity, length-subframe}
use Rattle.aes3_frame.specs.Blocks.{mark_at, block_cells, IsBlock}
use Rattle.aes3_frame.proofs.CellLaws.{length-block_cells, block_cells-unique}
use Rattle.aes3_frame.proofs.Runs.{Each27}
use Rattle.aes3_frame.proofs.Each.{each-payload}
use Rattle.aes3_lock.specs.Damage.{changed, apart, exchanged}
use Rattle.aes3_lock.proofs.Apart.{count-apart, length-changed, at-others, apart-mended, apart-none, other-of}
use Rattle.aes3_lock.proofs.OtherLevel.{other-level}
use Rattle.aes3_lock.proofs.Exchanged.{Between, runs-cons, exchanged-block, exchanged-cells}
use Rattle.aes3_slot.proofs.Distance.{equal-or}

-- lists are equal or not, where their members are
equal-lists : {A : Type 0} → ((x y : A) → (x ≡ y) ⊎ (x ≡ y → ⊥)) → (xs ys : List A) → (xs ≡ ys) ⊎ (xs ≡ ys → ⊥)
equal-lists d [] [] = inl refl
equal-lists d [] (y ∷ ys) = inr (λ e. cc)
equal-lists d (x ∷ xs) [] = inr (λ e. cc)
equal-lists d (x ∷ xs) (y ∷ ys) = go (d x y) (equal-lists d xs ys)
  where
    go : (x ≡ y) ⊎ (x ≡ y → ⊥) → (xs ≡ ys) ⊎ (xs ≡ ys → ⊥) → (x ∷ xs ≡ y ∷ ys) ⊎ (x ∷ xs ≡ y ∷ ys → ⊥)
    go (inl a) (inl b) = inl (ap₂ (λ x xs. x ∷ xs) a b)
    go (inl a) (inr b) = inr (λ e. b cc)
    go (inr a) b = inr (λ e. a cc)

equal-bools : (x y : Bool) → (x ≡ y) ⊎ (x ≡ y → ⊥)
equal-bools false false = inl refl
equal-bools false true = inr (λ e. cc)
equal-bools true false = inr (λ e. cc)
equal-bools true true = inl refl

pub equal-blocks : (b d : List (List Bool)) → (b ≡ d) ⊎ (b ≡ d → ⊥)
equal-blocks = equal-lists (equal-lists equal-bools)

-- two cells, the second of a slot and the one behind it, in which cells differ
pub record PairApart (c e : List Level) : Type 0 where
  pub place : ℕ
  pub between : Between place
  pub within : suc place < length c
  pub one : at c place ≢ at e place
  pub two : at c (suc place) ≢ at e (suc place)

-- the bits of a subframe leave the level
pub after-payload : (s : Level) (m : Mark) (p : List Bool) → IsPayload p → after s (bits_runs (with_parity p)) ≡ s
after-payload s m p h =
    ap (λ t. after t (bits_runs (with_parity p))) (sym (after-mark s m))
    ∙ sym (after-append s (mark_runs m) (bits_runs (with_parity p))) ∙ after-subframe s m p h

pub with_parity-28 : (p : List Bool) → IsPayload p → length (with_parity p) ≡ 28
unfolding slots_len
with_parity-28 p h = length-with_parity p h

-- in one subframe
subframe-pair : (s : Level) (m : Mark) (p q : List Bool) → IsPayload p → IsPayload q → (p ≡ q → ⊥)
    → PairApart (line s (subframe_runs m p)) (line s (subframe_runs m q))
subframe-pair s m p q h g n =
    let a = with_parity-28 p h in
    let b = with_parity-28 q g in
    let r = pair-apart s (with_parity p) (with_parity q) (a ∙ sym b) (after-payload s m p h
    ∙ sym (after-payload s m q g))
    (λ e. n (some-unique true true p q e).1) in
    let o = r.odd in
    let w = r.within in
    let l = length-mark s m in
    let z = length-subframe s m p h in
    let cell : (p : List Bool) (k : ℕ)
    → at (line s (subframe_runs m p)) (8 + k) ≡ at (line s (bits_runs (with_parity p))) k =
    λ p k. ap (λ c. at c (8 + k)) (line-slots s m (with_parity p))
    ∙ ap (λ n. at (line s (mark_runs m) ++ line s (bits_runs (with_parity p))) (n + k)) (sym l)
    ∙ get_or-append-add (line s (mark_runs m)) (line s (bits_runs (with_parity p))) k Low in
    let e : suc (8 + r.place) ≡ 8 + suc r.place = omega arith in
    record {
      place = 8 + r.place;
      between = record { odd = omega arith; low = omega arith; high = omega arith };
      within = omega arith;
      one = λ q'. r.one (sym (cell p r.place) ∙ q' ∙ cell q r.place);
      two = λ q'. r.two (sym (cell p (suc r.place)) ∙ ap (at (line s (subframe_runs m p))) (sym e) ∙ q'
          ∙ ap (at (line s (subframe_runs m q))) e ∙ cell q (suc r.place));
    }

-- one behind the other
runs-pair : (marks : ℕ → Mark) (s : Level) (b d : List (List Bool)) → Each27 b → Each27 d → length b ≡ length d
    → (b ≡ d → ⊥)
    → PairApart (line s (runs_of marks (map with_parity b))) (line s (runs_of marks (map with_parity d)))
runs-pair marks s [] [] h g l n = absurd (n refl)
runs-pair marks s [] (q ∷ d) h g l n = absurd (omega arith)
runs-pair marks s (p ∷ b) [] h g l n = absurd (omega arith)
runs-pair marks s (p ∷ b) (q ∷ d) h g l n =
    go (equal-lists equal-bools p q) (λ m. runs-pair (λ j. marks (suc j)) s b d h.1 g.1 (omega arith) m)
  where
    u : List Level
    u = line s (runs_of (λ j. marks (suc j)) (map with_parity b))

    v : List Level
    v = line s (runs_of (λ j. marks (suc j)) (map with_parity d))

    go : (p ≡ q) ⊎ (p ≡ q → ⊥)
        → ((b ≡ d → ⊥)
        → PairApart (line s (runs_of (λ j. marks (suc j)) (map with_parity b)))
        (line s (runs_of (λ j. marks (suc j)) (map with_parity d))))
        → PairApart (line s (runs_of marks (map with_parity (p ∷ b))))
        (line s (runs_of marks (map with_parity (q ∷ d))))
    go (inl e) more =
        let r = more (λ f. n (ap₂ (λ x xs. x ∷ xs) e f)) in
        let o = r.between.odd in
        let a = r.between.low in
        let z = r.between.high in
        let w = r.within in
        let x = length-subframe s (marks 0) p h.0 in
        let y = length-subframe s (marks 0) q g.0 in
        let t = ap length (runs-cons marks s p b h.0) in
        let i = length-append (line s (subframe_runs (marks 0) p)) u in
        let one : (k : ℕ) → at (line s (runs_of marks (map with_parity (p ∷ b)))) (64 + k) ≡ at u k =
        λ k. ap (λ c. at c (64 + k)) (runs-cons marks s p b h.0)
        ∙ ap (λ n. at (line s (subframe_runs (marks 0) p) ++ u) (n + k)) (sym x)
        ∙ get_or-append-add (line s (subframe_runs (marks 0) p)) u k Low in
        let two : (k : ℕ) → at (line s (runs_of marks (map with_parity (q ∷ d)))) (64 + k) ≡ at v k =
        λ k. ap (λ c. at c (64 + k)) (runs-cons marks s q d g.0)
        ∙ ap (λ n. at (line s (subframe_runs (marks 0) q) ++ v) (n + k)) (sym y)
        ∙ get_or-append-add (line s (subframe_runs (marks 0) q)) v k Low in
        let f : suc (64 + r.place) ≡ 64 + suc r.place = omega arith in
        record {
          place = 64 + r.place;
          between = record { odd = omega arith; low = omega arith; high = omega arith };
          within = omega arith;
          one = λ m. r.one (sym (one r.place) ∙ m ∙ two r.place);
          two = λ m. r.two (sym (one (suc r.place))
              ∙ ap (at (line s (runs_of marks (map with_parity (p ∷ b))))) (sym f) ∙ m
              ∙ ap (at (line s (runs_of marks (map with_parity (q ∷ d))))) f ∙ two (suc r.place));
        }
    go (inr e) more =
        let r = subframe-pair s (marks 0) p q h.0 g.0 e in
        let w = r.within in
        let x = length-subframe s (marks 0) p h.0 in
        let y = length-subframe s (marks 0) q g.0 in
        let t = ap length (runs-cons marks s p b h.0) in
        let i = length-append (line s (subframe_runs (marks 0) p)) u in
        let one : (k : ℕ) → k < 64
        → at (line s (runs_of marks (map with_parity (p ∷ b)))) k ≡ at (line s (subframe_runs (marks 0) p)) k =
        λ k l. ap (λ c. at c k) (runs-cons marks s p b h.0)
        ∙ get_or_append_left (line s (subframe_runs (marks 0) p)) u Low k (omega arith) in
        let two : (k : ℕ) → k < 64
        → at (line s (runs_of marks (map with_parity (q ∷ d)))) k ≡ at (line s (subframe_runs (marks 0) q)) k =
        λ k l. ap (λ c. at c k) (runs-cons marks s q d g.0)
        ∙ get_or_append_left (line s (subframe_runs (marks 0) q)) v Low k (omega arith) in
        record {
          place = r.place;
          between = r.between;
          within = omega arith;
          one = λ m. r.one (sym (one r.place (omega arith)) ∙ m ∙ two r.place (omega arith));
          two = λ m. r.two (sym (one (suc r.place) (omega arith)) ∙ m ∙ two (suc r.place) (omega arith));
        }

pub blocks-pair : (s : Level) (b d : List (List Bool)) → IsBlock b → IsBlock d → (b ≡ d → ⊥)
    → PairApart (block_cells s b) (block_cells s d)
unfolding block_cells
blocks-pair s b d h g n = runs-pair mark_at s b d (each-payload b h.payloads) (each-payload d g.payloads) (h.count
    ∙ sym g.count) n

-- such a pair is two places
pub pair-two : (c e : List Level) → length c ≡ length e → PairApart c e → 2 ≤ apart c e
pair-two c e l r =
    count-apart 2 (places r.place) c e l
    (λ n. rising n) (λ n. within n) (λ n. differ n)
  where
    places : ℕ → ℕ → ℕ
    places p zero = p
    places p (suc n) = suc p

    rising : (n : ℕ) → suc n < 2 → places r.place n < places r.place (suc n)
    rising zero o = omega arith
    rising (suc n) o = absurd (omega arith)

    within : (n : ℕ) → n < 2 → places r.place n < length c
    within zero o = let w = r.within in omega arith
    within (suc n) o = r.within

    differ : (n : ℕ) → n < 2 → at c (places r.place n) ≡ at e (places r.place n) → ⊥
    differ zero o = r.one
    differ (suc n) o = r.two

-- where they differ in no other cell, one is the other with these exchanged
module _ (s : Level) (b d : List (List Bool)) (h : IsBlock b) (g : IsBlock d)
    (two : apart (block_cells s b) (block_cells s d) ≤ 2)
    (r : PairApart (block_cells s b) (block_cells s d)) where
  lengths : length (block_cells s b) ≡ length (block_cells s d)
  lengths = length-block_cells s b h ∙ sym (length-block_cells s d g)

  pub pair-cells : changed (suc r.place) (changed r.place (block_cells s b)) ≡ block_cells s d
  pair-cells =
      let l = lengths in
      let w = r.within in
      let a = apart-mended r.place (block_cells s b) (block_cells s d) (omega arith) lengths r.one in
      let m = length-changed r.place (block_cells s b) in
      let o = at-others r.place (block_cells s b) (suc r.place) (λ e. omega arith) in
      let v = apart-mended (suc r.place) (changed r.place (block_cells s b)) (block_cells s d) (omega arith)
      (m ∙ lengths) (λ e. r.two (sym o ∙ e)) in
      let n = length-changed (suc r.place) (changed r.place (block_cells s b)) in
      let t = two in
      apart-none (changed (suc r.place) (changed r.place (block_cells s b))) (block_cells s d) (n ∙ m ∙ lengths)
      (omega arith)

  pub pair-exchanged : d ≡ exchanged r.place b
  pair-exchanged =
      let w = r.within in
      let n = length-block_cells s b h in
      (block_cells-unique s s d (exchanged r.place b) g (exchanged-block r.place b h)
      (sym pair-cells ∙ sym (exchanged-cells s r.place b h (omega arith) r.between))).1

-- cells that a block's cells differ from at two places at most are those of a block after the same level
pub own-place : (s t : Level) (b d : List (List Bool)) → IsBlock b → IsBlock d
    → apart (block_cells s b) (block_cells t d) ≤ 2
    → (t ≡ s) × ((b ≡ d) ⊎ PairApart (block_cells s b) (block_cells t d))
own-place s t b d h g two = go (equal-or t s) (equal-blocks b d)
  where
    go : (t ≡ s) ⊎ (t ≡ s → ⊥) → (b ≡ d) ⊎ (b ≡ d → ⊥) → (t ≡ s)
        × ((b ≡ d) ⊎ PairApart (block_cells s b) (block_cells t d))
    go (inr n) e =
        let q : other s ≡ t = other-of s t (λ e. n (sym e)) in
        let a = other-level s b d h g in
        let z = ap (λ u. apart (block_cells s b) (block_cells u d)) q in
        absurd (omega arith)
    go (inl q) (inl e) = (q, inl e)
    go (inl q) (inr n) =
        (q, inr (subst (λ u. PairApart (block_cells s b) (block_cells u d)) (sym q) (blocks-pair s b d h g n)))
