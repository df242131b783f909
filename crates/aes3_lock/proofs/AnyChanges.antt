-- Any changed cells of a block: what stands in its place after its level is told by them.
use Rattle.std.proofs.Common.{◌≡◌, ℕ, zero, suc, ◌+◌, ◌-◌, ◌*◌, ◌/◌, ◌%◌, ◌<◌, ◌≤◌, ◌↔◌, ◌⊎◌, inl, inr, List, [], ◌∷◌}
use Rattle.std.proofs.Common.{◌++◌, Bool, true, false, ◌&&◌, ◌==◌, cond, refl, length, take, drop, ap, ap₂, ◌∙◌, sym}
use Rattle.std.proofs.Common.{subst, arith, length-take, length-drop, take-take, get_or-take, get_or-drop, ext_get_or}
use Rattle.std.proofs.Common.{eq-eqb}
use Rattle.std.proofs.lemmas.Bool.{cases_eq, cases_lt, cases_Bool, and_parts, eqb-true}
use Rattle.std.proofs.lemmas.List.{take-append-drop}
use Rattle.aes3_level.specs.declared.level.Level.{Level}
use Rattle.aes3_level.specs.declared.level.Level.TheVariants.{Low}
use Rattle.aes3_level.specs.Cells.{other}
use Rattle.aes3_slot.specs.Reading.{differs}
use Rattle.aes3_slot.specs.Rules.{at, before, shape}
use Rattle.aes3_frame.specs.Blocks.{mark_at, block_len, block_cells, IsBlock}
use Rattle.aes3_frame.proofs.CellLaws.{length-block_cells, block_cells-unique, block_len_24576}
use Rattle.aes3_lock.specs.Damage.{changed, between_slots, exchanged, places_apart}
use Rattle.aes3_lock.specs.Remains.{left_of}
use Rattle.aes3_lock.specs.Standing.{StandsClosed}
use Rattle.aes3_lock.proofs.Apart.{length-changed, at-changed, at-others, other-of, differs-false, like, unlike}
use Rattle.aes3_lock.proofs.DamageLaws.{stands-local}
use Rattle.aes3_lock.proofs.Distances.{block-kept, block-level, other-same}
use Rattle.aes3_lock.proofs.Exchanged.{Between, between-true, true-between, exchanged-block, exchanged-cells}
use Rattle.aes3_frame.proofs.BlockLemmas.{block_subframes_384}

-- the first of the places, and those behind it where its cell is changed back
abbrev First : ℕ → ℕ → List Level → List Level → Type 0
First n x c d =
    (z : ℕ) × (x ≡ n + z) × (z < length c) × (z < length d) × (at c z ≡ at d z → ⊥)
    × ((y : ℕ) → y < z → at c y ≡ at d y)

later-first : (n x : ℕ) (u v : Level) (c d : List Level) → u ≡ v → First (suc n) x c d → First n x (u ∷ c) (v ∷ d)
later-first n x u v c d q (z, f, l, m, o, h) = (suc z, omega arith, omega arith, omega arith, o, before-it)
  where
    before-it : (y : ℕ) → y < suc z → at (u ∷ c) y ≡ at (v ∷ d) y
    before-it zero k = q
    before-it (suc y) k = h y (omega arith)

places-head : (n x : ℕ) (c d : List Level) (xs : List ℕ) → places_apart n c d ≡ x ∷ xs → First n x c d
places-head n x [] d xs e = cc
places-head n x (u ∷ c) [] xs e = cc
places-head n x (u ∷ c) (v ∷ d) xs e = go (differs u v) refl e (λ q. places-head (suc n) x c d xs q)
  where
    go : (b : Bool) → differs u v ≡ b → cond b (n ∷ places_apart (suc n) c d) (places_apart (suc n) c d) ≡ x ∷ xs
        → (places_apart (suc n) c d ≡ x ∷ xs → First (suc n) x c d) → First n x (u ∷ c) (v ∷ d)
    go true t q next = let i : n ≡ x = cc in
        (0, omega arith, omega arith, omega arith, unlike u v t, λ y k. absurd (omega arith))
    go false t q next = later-first n x u v c d (like u v t) (next q)

places-mended : (n z : ℕ) (c d : List Level) (xs : List ℕ) → places_apart n c d ≡ (n + z) ∷ xs
    → places_apart n (changed z c) d ≡ xs
places-mended n z [] d xs e = cc
places-mended n z (u ∷ c) [] xs e = cc
places-mended n z (u ∷ c) (v ∷ d) xs e = go z (differs u v) refl e (λ z q. places-mended (suc n) z c d xs q)
  where
    go : (z : ℕ) (b : Bool) → differs u v ≡ b
        → cond b (n ∷ places_apart (suc n) c d) (places_apart (suc n) c d) ≡ (n + z) ∷ xs
        → ((z : ℕ) → places_apart (suc n) c d ≡ (suc n + z) ∷ xs → places_apart (suc n) (changed z c) d ≡ xs)
        → places_apart n (changed z (u ∷ c)) (v ∷ d) ≡ xs
    go zero true t q next =
        let a = differs-false (other u) v (other-of u v (unlike u v t)) in
        let r : places_apart (suc n) c d ≡ xs = cc in
        rw a r
    go (suc z) true t q next = let i : n ≡ n + suc z = cc in absurd (omega arith)
    go zero false t q next = let r = places-head (suc n) (n + 0) c d xs q in let i = r.1 in absurd (omega arith)
    go (suc z) false t q next =
        let i : n + suc z ≡ suc n + z = omega arith in
        rw t (next z (q ∙ ap (λ m. m ∷ xs) i))

places-nothing : (n : ℕ) (c d : List Level) → length c ≡ length d → places_apart n c d ≡ [] → c ≡ d
places-nothing n [] [] l e = refl
places-nothing n [] (v ∷ d) l e = absurd (omega arith)
places-nothing n (u ∷ c) [] l e = absurd (omega arith)
places-nothing n (u ∷ c) (v ∷ d) l e = go (differs u v) refl e (λ q. places-nothing (suc n) c d (omega arith) q)
  where
    go : (b : Bool) → differs u v ≡ b → cond b (n ∷ places_apart (suc n) c d) (places_apart (suc n) c d) ≡ []
        → (places_apart (suc n) c d ≡ [] → c ≡ d) → u ∷ c ≡ v ∷ d
    go true t q next = cc
    go false t q next = ap₂ (λ x xs. x ∷ xs) (like u v t) (next q)

places-same : (n : ℕ) (c : List Level) → places_apart n c c ≡ []
places-same n [] = refl
places-same n (u ∷ c) = let t = differs-false u u refl in rw t (places-same (suc n) c)

places-append : (n : ℕ) (c d r : List Level) → length c ≡ length d
    → places_apart n (c ++ r) (d ++ r) ≡ places_apart n c d
places-append n [] [] r l = places-same n r
places-append n [] (v ∷ d) r l = absurd (omega arith)
places-append n (u ∷ c) [] r l = absurd (omega arith)
places-append n (u ∷ c) (v ∷ d) r l =
    ap (λ xs. cond (differs u v) (n ∷ xs) xs) (places-append (suc n) c d r (omega arith))

pub take-changed : (n x : ℕ) (c : List Level) → take n (changed x c) ≡ changed x (take n c)
take-changed zero x c = refl
take-changed (suc n) x [] = refl
take-changed (suc n) zero (u ∷ c) = refl
take-changed (suc n) (suc x) (u ∷ c) = ap (λ d. u ∷ d) (take-changed n x c)

-- where two blocks after one level differ first, two cells between slots do
module _ (s : Level) (b d : List (List Bool)) (h : IsBlock b) (g : IsBlock d) where
  mark-alike : (x : ℕ) → x < block_len → x % 64 < 8 → at (block_cells s b) x ≡ at (block_cells s d) x
  mark-alike x l o =
      let m = block_len_24576 in
      let i = block_subframes_384 in
      let u = length-block_cells s b h in
      let v = length-block_cells s d g in
      (block-kept s b h x (omega arith)).preamble o
      ∙ ap (shape (mark_at (x / 64)) (x % 64)) (block-level s b h (x / 64) (omega arith)
      ∙ sym (block-level s d g (x / 64) (omega arith)))
      ∙ sym ((block-kept s d g x (omega arith)).preamble o)

  even-alike : (x : ℕ) → suc x < block_len → 8 ≤ suc x % 64 → suc x % 2 ≡ 0
      → at (block_cells s b) x ≡ at (block_cells s d) x
      → at (block_cells s b) (suc x) ≡ at (block_cells s d) (suc x)
  even-alike x l o p e =
      let u = length-block_cells s b h in
      let v = length-block_cells s d g in
      (block-kept s b h (suc x) (omega arith)).slot o p ∙ ap other e
      ∙ sym ((block-kept s d g (suc x) (omega arith)).slot o p)

  even-unlike : (x : ℕ) → suc x < block_len → 8 ≤ suc x % 64 → suc x % 2 ≡ 0
      → at (block_cells s b) (suc x) ≡ at (block_cells s d) (suc x)
      → at (block_cells s b) x ≡ at (block_cells s d) x
  even-unlike x l o p e =
      let u = length-block_cells s b h in
      let v = length-block_cells s d g in
      other-same (at (block_cells s b) x) (at (block_cells s d) x)
      (sym ((block-kept s b h (suc x) (omega arith)).slot o p) ∙ e ∙ (block-kept s d g (suc x) (omega arith)).slot o p)

  last-alike : (x : ℕ) → x < block_len → x % 64 ≡ 63 → at (block_cells s b) x ≡ at (block_cells s d) x
  last-alike x l o =
      let m = block_len_24576 in
      let i = block_subframes_384 in
      let e : 64 * (suc x / 64) ≡ suc x = omega arith in
      ap (before s (block_cells s b)) (sym e) ∙ block-level s b h (suc x / 64) (omega arith)
      ∙ sym (block-level s d g (suc x / 64) (omega arith))
      ∙ ap (before s (block_cells s d)) e

  first-unlike : (x : ℕ) → x < block_len → (at (block_cells s b) x ≡ at (block_cells s d) x → ⊥)
      → ((y : ℕ) → y < x → at (block_cells s b) y ≡ at (block_cells s d) y)
      → Between x × (suc x < block_len) × (at (block_cells s b) (suc x) ≡ at (block_cells s d) (suc x) → ⊥)
  first-unlike x l n k = go (cases_lt (x % 64) 8) (cases_eq (x % 2) 0) (cases_eq (x % 64) 63)
    where
      go : (x % 64 < 8) ⊎ (8 ≤ x % 64) → (x % 2 ≡ 0) ⊎ (x % 2 ≡ 0 → ⊥) → (x % 64 ≡ 63) ⊎ (x % 64 ≡ 63 → ⊥)
          → Between x × (suc x < block_len) × (at (block_cells s b) (suc x) ≡ at (block_cells s d) (suc x) → ⊥)
      go (inl a) p r = absurd (n (mark-alike x l a))
      go (inr a) (inl p) r =
          let i : suc (x - 1) ≡ x = omega arith in
          absurd (n (ap (at (block_cells s b)) (sym i)
          ∙ even-alike (x - 1) (omega arith) (omega arith) (omega arith) (k (x - 1) (omega arith))
          ∙ ap (at (block_cells s d)) i))
      go (inr a) (inr p) (inl r) = absurd (n (last-alike x l r))
      go (inr a) (inr p) (inr r) =
          let m = block_len_24576 in (
            record { odd = omega arith; low = omega arith; high = omega arith },
            omega arith,
            λ e. n (even-unlike x (omega arith) (omega arith) (omega arith) e),
          )

-- the first place where the first cells are at place 0
first-place : (x : ℕ) (c d : List Level) (xs : List ℕ) → places_apart 0 c d ≡ x ∷ xs
    → (x < length c) × (x < length d) × (at c x ≡ at d x → ⊥) × ((y : ℕ) → y < x → at c y ≡ at d y)
first-place x c d xs e =
    let r = places-head 0 x c d xs e in
    let i : r.0 ≡ x = (let j = r.1 in omega arith) in
    subst (λ z. (z < length c) × (z < length d) × (at c z ≡ at d z → ⊥) × ((y : ℕ) → y < z → at c y ≡ at d y)) i
    (r.2, r.3, r.4, r.5)

mended : (x : ℕ) (c d : List Level) (xs : List ℕ) → places_apart 0 c d ≡ x ∷ xs → places_apart 0 (changed x c) d ≡ xs
mended x c d xs e = let i : x ≡ 0 + x = omega arith in places-mended 0 x c d xs (e ∙ ap (λ m. m ∷ xs) i)

-- so the places of two blocks are pairs, and tell the other block
module _ (s : Level) (b d : List (List Bool)) (h : IsBlock b) (g : IsBlock d) (x : ℕ) where
  second-place : (xs : List ℕ) → places_apart 0 (block_cells s b) (block_cells s d) ≡ x ∷ xs
      → Between x × (suc x < block_len) × (at (block_cells s b) (suc x) ≡ at (block_cells s d) (suc x) → ⊥)
  second-place xs e =
      let r = first-place x (block_cells s b) (block_cells s d) xs e in
      let l = length-block_cells s b h in
      let i = r.0 in
      first-unlike s b d h g x (omega arith) r.2 r.3

  not-one : places_apart 0 (block_cells s b) (block_cells s d) ≡ x ∷ [] → ⊥
  not-one e =
      let u = second-place [] e in
      let l : length (changed x (block_cells s b)) ≡ length (block_cells s d) =
      length-changed x (block_cells s b) ∙ length-block_cells s b h ∙ sym (length-block_cells s d g) in
      let q = places-nothing 0 (changed x (block_cells s b)) (block_cells s d) l
      (mended x (block_cells s b) (block_cells s d) [] e) in
      u.2 (sym (at-others x (block_cells s b) (suc x) (λ z. omega arith)) ∙ ap (λ c. at c (suc x)) q)

  pair-of : (y : ℕ) (ys : List ℕ) → places_apart 0 (block_cells s b) (block_cells s d) ≡ x ∷ y ∷ ys
      → Between x × (y ≡ suc x) × (places_apart 0 (block_cells s (exchanged x b)) (block_cells s d) ≡ ys)
  pair-of y ys e = (u.0, next (cases_lt y x) (cases_lt x y) (cases_eq y (suc x)), rest)
    where
      u : Between x × (suc x < block_len) × (at (block_cells s b) (suc x) ≡ at (block_cells s d) (suc x) → ⊥)
      u = second-place (y ∷ ys) e

      r : (x < length (block_cells s b)) × (x < length (block_cells s d))
          × (at (block_cells s b) x ≡ at (block_cells s d) x → ⊥)
          × ((z : ℕ) → z < x → at (block_cells s b) z ≡ at (block_cells s d) z)
      r = first-place x (block_cells s b) (block_cells s d) (y ∷ ys) e

      more : places_apart 0 (changed x (block_cells s b)) (block_cells s d) ≡ y ∷ ys
      more = mended x (block_cells s b) (block_cells s d) (y ∷ ys) e

      v : (y < length (changed x (block_cells s b))) × (y < length (block_cells s d))
          × (at (changed x (block_cells s b)) y ≡ at (block_cells s d) y → ⊥)
          × ((z : ℕ) → z < y → at (changed x (block_cells s b)) z ≡ at (block_cells s d) z)
      v = first-place y (changed x (block_cells s b)) (block_cells s d) ys more

      next : (y < x) ⊎ (x ≤ y) → (x < y) ⊎ (y ≤ x) → (y ≡ suc x) ⊎ (y ≡ suc x → ⊥) → y ≡ suc x
      next (inl a) c f = absurd (v.2 (at-others x (block_cells s b) y (λ z. omega arith) ∙ r.3 y a))
      next (inr a) (inr c) f =
          let i : y ≡ x = omega arith in
          absurd (v.2 (ap (at (changed x (block_cells s b))) i ∙ at-changed x (block_cells s b) r.0
          ∙ other-of (at (block_cells s b) x) (at (block_cells s d) x) r.2 ∙ ap (at (block_cells s d)) (sym i)))
      next (inr a) (inl c) (inl f) = f
      next (inr a) (inl c) (inr f) =
          absurd (u.2 (sym (at-others x (block_cells s b) (suc x) (λ z. omega arith)) ∙ v.3 (suc x) (omega arith)))

      rest : places_apart 0 (block_cells s (exchanged x b)) (block_cells s d) ≡ ys
      rest =
          let i = next (cases_lt y x) (cases_lt x y) (cases_eq y (suc x)) in
          let l = length-block_cells s b h in
          let k = r.0 in
          ap (λ c. places_apart 0 c (block_cells s d))
          (exchanged-cells s x b h (omega arith) u.0 ∙ ap (λ m. changed m (changed x (block_cells s b))) (sym i))
          ∙ mended y (changed x (block_cells s b)) (block_cells s d) ys more

places-tell : (xs : List ℕ) (s : Level) (b d : List (List Bool)) → IsBlock b → IsBlock d
    → places_apart 0 (block_cells s b) (block_cells s d) ≡ xs
    → left_of xs b ≡ d ∷ []
places-tell [] s b d h g e =
    let q = places-nothing 0 (block_cells s b) (block_cells s d) (length-block_cells s b h
    ∙ sym (length-block_cells s d g)) e in
    ap (λ b. b ∷ []) (block_cells-unique s s b d h g q).1
places-tell (x ∷ []) s b d h g e = absurd (not-one s b d h g x e)
places-tell (x ∷ y ∷ ys) s b d h g e =
    let r = pair-of s b d h g x y ys e in
    let t = between-true x r.0 in
    let q = eq-eqb y (suc x) r.1 in
    rw (q, t) (places-tell ys s (exchanged x b) d (exchanged-block x b h) g r.2)

-- the cell behind a block that is closed
last-of : (b : List (List Bool)) (s : Level) (c : List Level) → StandsClosed b s c → at c (block_len - 1) ≡ s
last-of b s c z =
    let m = block_len_24576 in
    let i = block_subframes_384 in
    let e : 64 * 384 ≡ suc (block_len - 1) = omega arith in
    sym (get_or-take block_len c (block_len - 1) Low (omega arith)) ∙ ap (λ c. at c (block_len - 1)) z.cells
    ∙ ap (before s (block_cells s b)) (sym e) ∙ block-level s b z.block 384 (omega arith)

behind-of : (b : List (List Bool)) (s : Level) (c : List Level) → StandsClosed b s c → block_len < length c
    → at c block_len ≡ other s
behind-of b s c z l =
    sym (other-of (at c (block_len - 1)) (at c block_len) (λ q. z.closed.turns l (sym q))) ∙ ap other (last-of b s c z)

module _ (b d : List (List Bool)) (s : Level) (c e : List Level) (z : StandsClosed b s c) (w : StandsClosed d s e)
    (same : length e ≡ length c) where
  joined : (a : List (List Bool)) (f : List Level) → StandsClosed a s f
      → take (suc block_len) f ≡ block_cells s a ++ drop block_len (take (suc block_len) f)
  joined a f k =
      sym (take-append-drop block_len (take (suc block_len) f))
      ∙ ap (λ x. x ++ drop block_len (take (suc block_len) f))
      (take-take block_len (suc block_len) f (omega arith) ∙ k.cells)

  behind-cell : (a : List (List Bool)) (f : List Level) → StandsClosed a s f → (y : ℕ)
      → y < length (drop block_len (take (suc block_len) f))
      → at (drop block_len (take (suc block_len) f)) y ≡ other s
  behind-cell a f k y l =
      let m = length-drop block_len (take (suc block_len) f) in
      let n = length-take (suc block_len) f in
      let i : block_len + y ≡ block_len = omega arith in
      get_or-drop block_len (take (suc block_len) f) y Low
      ∙ get_or-take (suc block_len) f (block_len + y) Low (omega arith)
      ∙ ap (at f) i ∙ behind-of a s f k (omega arith)

  behind-same : drop block_len (take (suc block_len) e) ≡ drop block_len (take (suc block_len) c)
  behind-same =
      let m = length-drop block_len (take (suc block_len) c) in
      let n = length-take (suc block_len) c in
      let o = length-drop block_len (take (suc block_len) e) in
      let p = length-take (suc block_len) e in
      let q = same in
      ext_get_or Low (drop block_len (take (suc block_len) e)) (drop block_len (take (suc block_len) c)) (omega arith)
      (λ y l. behind-cell d e w y l ∙ sym (behind-cell b c z y (omega arith)))

  pub told : left_of (places_apart 0 (take (suc block_len) c) (take (suc block_len) e)) b ≡ d ∷ []
  told =
      ap (λ xs. left_of xs b)
      (ap₂ (places_apart 0) (joined b c z) (joined d e w ∙ ap (λ r. block_cells s d ++ r) behind-same)
      ∙ places-append 0 (block_cells s b) (block_cells s d) (drop block_len (take (suc block_len) c))
      (length-block_cells s b z.block ∙ sym (length-block_cells s d w.block)))
      ∙ places-tell (places_apart 0 (block_cells s b) (block_cells s d)) s b d z.block w.block refl

-- and each pair between slots exchanges
pair-stands : (b : List (List Bool)) (s : Level) (c : List Level) (x : ℕ) → StandsClosed b s c
    → x < block_len → Between x
    → StandsClosed (exchanged x b) s (changed (suc x) (changed x c))
pair-stands b s c x z l w =
    let m = block_len_24576 in
    let i = w.low in
    let j = w.high in
    let f = length-changed x c in
    let g = length-changed (suc x) (changed x c) in
    record {
      block = exchanged-block x b z.block;
      cells =
          take-changed block_len (suc x) (changed x c)
          ∙ ap (changed (suc x)) (take-changed block_len x c ∙ ap (changed x) z.cells)
          ∙ sym (exchanged-cells s x b z.block l w);
      closed = record {
        turns = λ o q. z.closed.turns (omega arith) (sym (other-two block_len (λ u. omega arith) (λ u. omega arith)) ∙ q
            ∙ other-two (block_len - 1) (λ u. omega arith) (λ u. omega arith));
      };
    }
  where
    other-two : (y : ℕ) → (y ≡ suc x → ⊥) → (y ≡ x → ⊥) → at (changed (suc x) (changed x c)) y ≡ at c y
    other-two y u v = at-others (suc x) (changed x c) y u ∙ at-others x c y v

pub stands-after : (xs : List ℕ) (b d : List (List Bool)) (s : Level) (c e : List Level) → StandsClosed b s c
    → length e ≡ length c
    → places_apart 0 (take (suc block_len) c) (take (suc block_len) e) ≡ xs → left_of xs b ≡ d ∷ [] → StandsClosed d s e
stands-after [] b d s c e z l p q =
    let n = length-take (suc block_len) c in
    let m = length-take (suc block_len) e in
    let i = places-nothing 0 (take (suc block_len) c) (take (suc block_len) e) (omega arith) p in
    let r : b ∷ [] ≡ d ∷ [] = q in
    let j : b ≡ d = cc in
    subst (λ b. StandsClosed b s e) j (stands-local b s c e i z)
stands-after (x ∷ []) b d s c e z l p q = let r : [] ≡ d ∷ [] = q in cc
stands-after (x ∷ y ∷ ys) b d s c e z l p q =
    go (cases_Bool (y == suc x && between_slots x))
    (λ z l p q. stands-after ys (exchanged x b) d s (changed (suc x) (changed x c)) e z l p q)
  where
    go : ((y == suc x && between_slots x) ≡ true) ⊎ ((y == suc x && between_slots x) ≡ false)
        → (StandsClosed (exchanged x b) s (changed (suc x) (changed x c))
        → length e ≡ length (changed (suc x) (changed x c))
        → places_apart 0 (take (suc block_len) (changed (suc x) (changed x c))) (take (suc block_len) e) ≡ ys
        → left_of ys (exchanged x b) ≡ d ∷ [] → StandsClosed d s e)
        → StandsClosed d s e
    go (inr t) next = let r : [] ≡ d ∷ [] = sym (ap (λ u. cond u (left_of ys (exchanged x b)) []) t) ∙ q in cc
    go (inl t) next =
        let a = and_parts (y == suc x) (between_slots x) t in
        let i = eqb-true y (suc x) a.0 in
        let w = true-between x a.1 in
        let u = w.low in
        let r = first-place x (take (suc block_len) c) (take (suc block_len) e) (y ∷ ys) p in
        let k = r.0 in
        let n = length-take (suc block_len) c in
        let m = block_len_24576 in
        let v : left_of ys (exchanged x b) ≡ d ∷ [] = sym (ap (λ u. cond u (left_of ys (exchanged x b)) []) t) ∙ q in
        next (pair-stands b s c x z (omega arith) w)
        (l ∙ sym (length-changed x c) ∙ sym (length-changed (suc x) (changed x c)))
        (ap (λ c. places_apart 0 c (take (suc block_len) e))
        (take-changed (suc block_len) (suc x) (changed x c) ∙ ap (changed (suc x)) (take-changed (suc block_len) x c)
        ∙ ap (λ m. changed m (changed x (take (suc block_len) c))) (sym i))
        ∙ mended y (changed x (take (suc block_len) c)) (take (suc block_len) e) ys
        (mended x (take (suc block_len) c) (take (suc block_len) e) (y ∷ ys) p))
        v

pub changes-tell : (b d : List (List Bool)) (s : Level) (c e : List Level) → StandsClosed b s c → length e ≡ length c
    → StandsClosed d s e ↔ (left_of (places_apart 0 (take (suc block_len) c) (take (suc block_len) e)) b ≡ d ∷ [])
changes-tell b d s c e z l = (
  λ w. told b d s c e z w l,
  λ q. stands-after (places_apart 0 (take (suc block_len) c) (take (suc block_len) e)) b d s c e z l refl q,
)
