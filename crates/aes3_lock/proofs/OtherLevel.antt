-- Two blocks after different levels differ in all cells of all preambles, the one behind each and the last of each
-- subframe.
use Rattle.std.proofs.Common.{◌≡◌, ℕ, zero, suc, ◌+◌, ◌*◌, ◌<◌, ◌≤◌, ◌⊎◌, inl, inr, cond, ltb, lt-ltb, le-ltb, List}
use Rattle.std.proofs.Common.{Bool, refl, take, drop, ap, ◌∙◌, sym, arith, lit<}
use Rattle.std.proofs.lemmas.Bool.{cases_lt}
use Rattle.aes3_level.specs.declared.level.Level.{Level}
use Rattle.aes3_level.specs.declared.level.Level.TheVariants.{Low, High}
use Rattle.aes3_level.specs.Cells.{other}
use Rattle.aes3_level.proofs.Runs.{other_ne}
use Rattle.aes3_slot.specs.declared.mark.Mark.{Mark}
use Rattle.aes3_slot.specs.declared.mark.Mark.TheVariants.{X, Y, Z}
use Rattle.aes3_slot.specs.Rules.{at, before, shape}
use Rattle.aes3_slot.proofs.Distance.{own-cell}
use Rattle.aes3_frame.specs.Blocks.{mark_at, block_subframes, block_cells, IsBlock}
use Rattle.aes3_frame.proofs.CellLaws.{length-block_cells, block_len_24576}
use Rattle.aes3_lock.specs.Damage.{apart}
use Rattle.aes3_lock.proofs.Apart.{count-apart, count-parts}
use Rattle.aes3_lock.proofs.Distances.{block-kept, block-level, part-cell, part-length}
use Rattle.aes3_frame.proofs.BlockLemmas.{block_subframes_384}

-- cell k of a preamble after the other level is the other one
pub shape-other : (m : Mark) (k : ℕ) (s : Level) → k < 8 → shape m k (other s) ≡ other (shape m k s)
shape-other X zero s h = refl
shape-other X (suc zero) s h = refl
shape-other X (suc (suc zero)) s h = refl
shape-other X (suc (suc (suc zero))) s h = refl
shape-other X (suc (suc (suc (suc zero)))) s h = refl
shape-other X (suc (suc (suc (suc (suc zero))))) s h = refl
shape-other X (suc (suc (suc (suc (suc (suc zero)))))) s h = refl
shape-other X (suc (suc (suc (suc (suc (suc (suc zero))))))) s h = refl
shape-other X (suc (suc (suc (suc (suc (suc (suc (suc k)))))))) s h = absurd (omega arith)
shape-other Y zero s h = refl
shape-other Y (suc zero) s h = refl
shape-other Y (suc (suc zero)) s h = refl
shape-other Y (suc (suc (suc zero))) s h = refl
shape-other Y (suc (suc (suc (suc zero)))) s h = refl
shape-other Y (suc (suc (suc (suc (suc zero))))) s h = refl
shape-other Y (suc (suc (suc (suc (suc (suc zero)))))) s h = refl
shape-other Y (suc (suc (suc (suc (suc (suc (suc zero))))))) s h = refl
shape-other Y (suc (suc (suc (suc (suc (suc (suc (suc k)))))))) s h = absurd (omega arith)
shape-other Z zero s h = refl
shape-other Z (suc zero) s h = refl
shape-other Z (suc (suc zero)) s h = refl
shape-other Z (suc (suc (suc zero))) s h = refl
shape-other Z (suc (suc (suc (suc zero)))) s h = refl
shape-other Z (suc (suc (suc (suc (suc zero))))) s h = refl
shape-other Z (suc (suc (suc (suc (suc (suc zero)))))) s h = refl
shape-other Z (suc (suc (suc (suc (suc (suc (suc zero))))))) s h = refl
shape-other Z (suc (suc (suc (suc (suc (suc (suc (suc k)))))))) s h = absurd (omega arith)

-- a preamble ends at the level before it, so the first cell behind it is the other one
mark-end : (m : Mark) (u : Level) → shape m 7 u ≡ u
mark-end X Low = refl
mark-end X High = refl
mark-end Y Low = refl
mark-end Y High = refl
mark-end Z Low = refl
mark-end Z High = refl

behind-mark : (t : Level) (d : List (List Bool)) → IsBlock d → (j : ℕ) → j < 384
    → at (block_cells t d) (64 * j + 8) ≡ other t
unfolding block_subframes
behind-mark t d g j l =
    let n = block_len_24576 in
    let dl = length-block_cells t d g in
    let e : 64 * j + 8 ≡ suc (64 * j + 7) = omega arith in
    (block-kept t d g (64 * j + 8) (omega arith)).slot (omega arith) (omega arith)
    ∙ ap (λ k. other (before t (block_cells t d) k)) e
    ∙ ap other (own-cell mark_at t (block_cells t d) (block-kept t d g) j 7 (omega arith) (lit< tt)
    ∙ ap (shape (mark_at j) 7) (block-level t d g j (omega arith))
    ∙ mark-end (mark_at j) t)

last-cell : (t : Level) (d : List (List Bool)) → IsBlock d → (j : ℕ) → j < 384 → at (block_cells t d) (64 * j + 63) ≡ t
unfolding block_subframes
last-cell t d g j l =
    let e : 64 * suc j ≡ suc (64 * j + 63) = omega arith in
    ap (before t (block_cells t d)) (sym e) ∙ block-level t d g (suc j) (omega arith)

abbrev ten : ℕ → ℕ
ten k = cond (ltb k 9) k 63

pub other-level : (s : Level) (b d : List (List Bool)) → IsBlock b → IsBlock d
    → 3840 ≤ apart (block_cells s b) (block_cells (other s) d)
other-level s b d h g = count-parts 10 384 (block_cells s b) (block_cells (other s) d) some
  where
    some : (j : ℕ) → j < 384
        → 10 ≤ apart (take 64 (drop (64 * j) (block_cells s b))) (take 64 (drop (64 * j) (block_cells (other s) d)))
    some j l =
        let n = block_len_24576 in
        let i = block_subframes_384 in
        let bl = length-block_cells s b h in
        let dl = length-block_cells (other s) d g in
        let x = part-length j (block_cells s b) (omega arith) in
        let y = part-length j (block_cells (other s) d) (omega arith) in
        count-apart 10 ten (take 64 (drop (64 * j) (block_cells s b)))
        (take 64 (drop (64 * j) (block_cells (other s) d))) (x ∙ sym y)
        (λ k o. rising k o (cases_lt (suc k) 9)) (λ k o. let a = within k (cases_lt k 9) in omega arith)
        (λ k o q.
        let w = within k (cases_lt k 9) in
        differ k o (cases_lt k 8) (cases_lt k 9) (sym (part-cell j (ten k) (block_cells s b) w) ∙ q
        ∙ part-cell j (ten k) (block_cells (other s) d) w))
      where
        small : (k : ℕ) → k < 9 → ten k ≡ k
        small k o = let t = lt-ltb k 9 o in rw t refl

        big : (k : ℕ) → 9 ≤ k → ten k ≡ 63
        big k o = let t = le-ltb k 9 o in rw t refl

        within : (k : ℕ) → (k < 9) ⊎ (9 ≤ k) → ten k < 64
        within k (inl o) = let t = small k o in omega arith
        within k (inr o) = let t = big k o in omega arith

        rising : (k : ℕ) → suc k < 10 → (suc k < 9) ⊎ (9 ≤ suc k) → ten k < ten (suc k)
        rising k o (inl a) = let t = small k (omega arith) in let u = small (suc k) a in omega arith
        rising k o (inr a) = let t = small k (omega arith) in let u = big (suc k) a in omega arith

        differ : (k : ℕ) → k < 10 → (k < 8) ⊎ (8 ≤ k) → (k < 9) ⊎ (9 ≤ k)
            → at (block_cells s b) (64 * j + ten k) ≡ at (block_cells (other s) d) (64 * j + ten k) → ⊥
        differ k o (inl a) c q =
            let n = block_len_24576 in
            let i = block_subframes_384 in
            let bl = length-block_cells s b h in
            let dl = length-block_cells (other s) d g in
            let t = small k (omega arith) in
            let e : 64 * j + ten k ≡ 64 * j + k = omega arith in
            let u : at (block_cells s b) (64 * j + k) ≡ shape (mark_at j) k s =
            own-cell mark_at s (block_cells s b) (block-kept s b h) j k (omega arith) a
            ∙ ap (shape (mark_at j) k) (block-level s b h j (omega arith)) in
            let v : at (block_cells (other s) d) (64 * j + k) ≡ shape (mark_at j) k (other s) =
            own-cell mark_at (other s) (block_cells (other s) d) (block-kept (other s) d g) j k (omega arith) a
            ∙ ap (shape (mark_at j) k) (block-level (other s) d g j (omega arith)) in
            other_ne (shape (mark_at j) k s)
            (sym (shape-other (mark_at j) k s a) ∙ sym v ∙ ap (at (block_cells (other s) d)) (sym e) ∙ sym q
            ∙ ap (at (block_cells s b)) e ∙ u)
        differ k o (inr a) (inl c) q =
            let t = small k c in
            let e : 64 * j + ten k ≡ 64 * j + 8 = omega arith in
            other_ne (other s)
            (sym (behind-mark (other s) d g j l) ∙ ap (at (block_cells (other s) d)) (sym e) ∙ sym q
            ∙ ap (at (block_cells s b)) e ∙ behind-mark s b h j l)
        differ k o (inr a) (inr c) q =
            let t = big k c in
            let e : 64 * j + ten k ≡ 64 * j + 63 = omega arith in
            other_ne s
            (sym (last-cell (other s) d g j l) ∙ ap (at (block_cells (other s) d)) (sym e) ∙ sym q
            ∙ ap (at (block_cells s b)) e ∙ last-cell s b h j l)
