-- What any changed cells of a piece of a lawful stream leave at a frame: the law of changed cells of a block, of the
-- block that its subframes would be.
use Rattle.std.proofs.Common.{map, ◌≡◌, ℕ, suc, ◌+◌, ◌-◌, ◌*◌, ◌%◌, ◌<◌, ◌≤◌, ◌↔◌, ◌⊎◌, inl, inr, List, [], ◌∷◌, ◌++◌}
use Rattle.std.proofs.Common.{Bool, true, false, ◌==◌, length, take, drop, get_or, ap, ◌∙◌, sym, subst, arith}
use Rattle.std.proofs.Common.{length-take, length-drop, length-append, take_at, get_or-take, get_or-drop}
use Rattle.std.proofs.lemmas.Bool.{cases_lt}
use Rattle.std.proofs.lemmas.List.{get_or_append_left, get_or-append-add}
use Rattle.std.proofs.lemmas.List.Elements.{All-contains, Contains-get_or}
use Rattle.std.specs.List.{All, Contains, list_any}
use Rattle.aes3_level.specs.declared.level.Level.{Level}
use Rattle.aes3_level.specs.declared.level.Level.TheVariants.{Low}
use Rattle.aes3_level.proofs.Runs.{other_ne}
use Rattle.aes3_slot.specs.Rules.{at, before}
use Rattle.aes3_frame.specs.Blocks.{block_len, block_cells, stream}
use Rattle.aes3_frame.proofs.FileLaws.{each-block}
use Rattle.aes3_frame.proofs.CellLaws.{length-block_cells, block_len_24576}
use Rattle.aes3_lock.specs.Damage.{apart, places_apart}
use Rattle.aes3_lock.specs.Remains.{left_of}
use Rattle.aes3_lock.specs.FrameLaws.{block_from, preamble_cells, all_but, changes_from, IsLeftFrom, IsLeftAt}
use Rattle.aes3_lock.specs.FrameLaws.{AreAllLeft}
use Rattle.aes3_lock.specs.Laws.{PlacedBlock}
use Rattle.aes3_lock.specs.Pieces.{IsPiece}
use Rattle.aes3_lock.specs.Reports.{blocks}
use Rattle.aes3_lock.specs.Standing.{StandsClosed}
use Rattle.aes3_lock.proofs.AllStanding.{closed-room, blocks-all_standing}
use Rattle.aes3_lock.proofs.AnyChanges.{changes-tell}
use Rattle.aes3_lock.proofs.Bridges.{begun}
use Rattle.aes3_lock.proofs.ChangedPlaces.{contains-has, has-contains, any-has, has-any, places-but, in-pairs}
use Rattle.aes3_lock.proofs.Damaged.{piece-cell}
use Rattle.aes3_lock.proofs.DamageLaws.{length-of, few-frames}
use Rattle.aes3_lock.proofs.Distances.{block-level}
use Rattle.aes3_lock.proofs.Exchanged.{Between}
use Rattle.aes3_lock.proofs.FrameBlocks.{IsPreambleCell, has-preamble, from-block, own-alike, own-unlike}
use Rattle.aes3_lock.proofs.PlacesApart.{Has, places-has, has-places}
use Rattle.aes3_frame.proofs.BlockLemmas.{block_subframes_384}
use Rattle.aes3_slot.proofs.Distance.{equal-or}

module _ (s : Level) (bs : List (List (List Bool))) (i j : ℕ) (c e : List Level) (p : IsPiece s bs i j c)
    (same : length e ≡ length c)
    (q : ℕ) (frame : (i + q) % 128 ≡ 0) (room : q + block_len ≤ length c) where
  abbrev here : List (List Bool)
  here = block_from (i + q) bs

  -- the cells of that block, and behind them those of the piece
  abbrev framed : List Level
  framed = block_cells s (block_from (i + q) bs) ++ drop block_len (drop q c)

  abbrev was : List Level
  was = take (suc block_len) (drop q c)

  abbrev now : List Level
  now = take (suc block_len) (drop q e)

  abbrev as-block : List Level
  as-block = take (suc block_len) (block_cells s (block_from (i + q) bs) ++ drop block_len (drop q c))

  piece-length : length c ≡ j - i
  piece-length = length-of s bs i j c p

  reach : i + q + block_len ≤ length (stream s bs)
  reach = let n = piece-length in let w = p.within in let r = room in let o = p.order in
      let m = block_len_24576 in omega arith

  streamed : (x : ℕ) → q + x < length c → at c (q + x) ≡ at (stream s bs) (i + q + x)
  streamed x l =
      let n = piece-length in
      let f : i + (q + x) ≡ i + q + x = omega arith in
      ap (λ c. at c (q + x)) p.is ∙ piece-cell i j (q + x) (stream s bs) (omega arith) ∙ ap (at (stream s bs)) f

  here-length : length (block_cells s here) ≡ block_len
  here-length = length-block_cells s here (from-block s bs (each-block bs p.blocks) (i + q) frame reach)

  framed-length : length framed ≡ length (drop q c)
  framed-length =
      let a = length-append (block_cells s here) (drop block_len (drop q c)) in
      let b = length-drop block_len (drop q c) in
      let d = length-drop q c in
      let n = here-length in
      let r = room in
      omega arith

  framed-own : (x : ℕ) → x < block_len → at framed x ≡ at (block_cells s here) x
  framed-own x l = let n = here-length in
      get_or_append_left (block_cells s here) (drop block_len (drop q c)) Low x (omega arith)

  framed-next : at framed block_len ≡ at c (q + block_len)
  framed-next =
      let n = here-length in
      let f : block_len ≡ length (block_cells s here) + 0 = omega arith in
      let g : q + (block_len + 0) ≡ q + block_len = omega arith in
      ap (at framed) f ∙ get_or-append-add (block_cells s here) (drop block_len (drop q c)) 0 Low
      ∙ get_or-drop block_len (drop q c) 0 Low ∙ get_or-drop q c (block_len + 0) Low ∙ ap (at c) g

  -- it stands closed in these cells
  here-stands : StandsClosed here s framed
  here-stands =
      record {
        block = from-block s bs (each-block bs p.blocks) (i + q) frame reach;
        cells = take_at (block_cells s here) (drop block_len (drop q c)) block_len here-length;
        closed = record {
          turns = λ o z.
              let m = block_len_24576 in
              let k = block_subframes_384 in
              let n = piece-length in
              let w = p.within in
              let a = framed-length in
              let b = length-drop q c in
              let f = frame in
              let g : 64 * 384 ≡ suc (block_len - 1) = omega arith in
              other_ne s
              (sym (begun s bs (each-block bs p.blocks) (i + q + block_len) (omega arith) (omega arith))
              ∙ sym (streamed block_len (omega arith)) ∙ sym framed-next ∙ z ∙ framed-own (block_len - 1) (omega arith)
              ∙ ap (before s (block_cells s here)) (sym g)
              ∙ block-level s here (from-block s bs (each-block bs p.blocks) (i + q) frame reach) 384 (omega arith));
        };
      }

  now-length : length (drop q e) ≡ length framed
  now-length = let a = framed-length in let b = length-drop q c in let d = length-drop q e in
      let m = same in omega arith

  lengths : (length was ≡ length as-block) × (length was ≡ length now) × (length was ≤ suc block_len)
      × (q + length was ≤ length c)
  lengths =
      let a = length-take (suc block_len) (drop q c) in
      let b = length-take (suc block_len) (drop q e) in
      let d = length-take (suc block_len) framed in
      let f = framed-length in
      let g = now-length in
      let h = length-drop q c in
      let r = room in
      (omega arith, omega arith, omega arith, omega arith)

  was-at : (x : ℕ) → x < length was → at was x ≡ at (stream s bs) (i + q + x)
  was-at x l =
      let n = lengths.2 in
      let m = lengths.3 in
      get_or-take (suc block_len) (drop q c) x Low (omega arith) ∙ get_or-drop q c x Low ∙ streamed x (omega arith)

  as-at : (x : ℕ) → x < length was → at as-block x ≡ at framed x
  as-at x l = let n = lengths.2 in get_or-take (suc block_len) framed x Low (omega arith)

  -- the cells differ from that block's in its preamble cells alone
  unlike : (x : ℕ) → Has x (preamble_cells (i + q)) → (x < length was) × (at was x ≡ at as-block x → ⊥)
  unlike x m =
      let r = own-unlike s bs (each-block bs p.blocks) (i + q) frame reach x m in
      let l = r.0 in
      let a = length-take (suc block_len) (drop q c) in
      let b = length-drop q c in
      let o = room in
      let k : x < length was = omega arith in
      (k, λ z. r.1 (sym (was-at x k) ∙ z ∙ as-at x k ∙ framed-own x l))

  alike : (x : ℕ) → x < length was → (Has x (preamble_cells (i + q)) → ⊥) → at was x ≡ at as-block x
  alike x l n = go (cases_lt x block_len)
    where
      go : (x < block_len) ⊎ (block_len ≤ x) → at was x ≡ at as-block x
      go (inl o) =
          was-at x l ∙ own-alike s bs (each-block bs p.blocks) (i + q) frame reach x o n ∙ sym (framed-own x o)
          ∙ sym (as-at x l)
      go (inr o) =
          let a = lengths.2 in
          let b = lengths.3 in
          let f : x ≡ block_len = omega arith in
          was-at x l ∙ sym (streamed x (omega arith)) ∙ ap (λ x. at c (q + x)) f ∙ sym framed-next
          ∙ ap (at framed) (sym f) ∙ sym (as-at x l)

  abbrev own : ℕ → Bool
  own x = list_any (λ y. y == x) (preamble_cells (i + q))

  others : All (Contains (changes_from q c e)) (preamble_cells (i + q))
      → places_apart 0 as-block now ≡ all_but (preamble_cells (i + q)) (changes_from q c e)
  others a =
      places-but own 0 was as-block now lengths.0 lengths.1
      (λ x l t.
      let f : 0 + x ≡ x = omega arith in
      let m = any-has (preamble_cells (i + q)) x (ap own (sym f) ∙ t) in
      ((unlike x m).1, changed x m))
      (λ x l t. alike x l
      (λ m. let f : 0 + x ≡ x = omega arith in let r : true ≡ false = sym (has-any (preamble_cells (i + q)) x m)
      ∙ ap own (sym f) ∙ t in cc))
    where
      changed : (x : ℕ) → Has x (preamble_cells (i + q)) → at was x ≡ at now x → ⊥
      changed x m =
          let k = All-contains (Contains (changes_from q c e)) (preamble_cells (i + q)) x a
          (has-contains (preamble_cells (i + q)) x m) in
          let r = has-places 0 x was now (contains-has (changes_from q c e) x k) in
          let f : r.0 ≡ x = (let g = r.1 in omega arith) in
          subst (λ z. at was z ≡ at now z → ⊥) f r.3

  module _ (d : List (List Bool)) where
    -- a block that stands has its own preambles
    own-changed : left_of (places_apart 0 as-block now) here ≡ d ∷ [] → (x : ℕ) → Has x (preamble_cells (i + q))
        → Has x (changes_from q c e)
    own-changed t x m = go (equal-or (at was x) (at now x))
      where
        f : 0 + x ≡ x
        f = omega arith

        r : IsPreambleCell (i + q) x
        r = has-preamble (i + q) x frame m

        apart-there : at was x ≡ at now x → at as-block x ≡ at now x → ⊥
        apart-there a b = (unlike x m).1 (a ∙ sym b)

        single : Between x ⊎ ((w : ℕ) × (x ≡ suc w) × Between w) → (x % 64 ≡ 4) ⊎ (x % 64 ≡ 6) → ⊥
        single (inl b) (inl k) = let o = b.odd in omega arith
        single (inl b) (inr k) = let o = b.odd in omega arith
        single (inr (w, g, b)) (inl k) = let o = b.low in let h = b.high in omega arith
        single (inr (w, g, b)) (inr k) = let o = b.low in let h = b.high in omega arith

        go : (at was x ≡ at now x) ⊎ (at was x ≡ at now x → ⊥) → Has x (changes_from q c e)
        go (inr n) = subst (λ z. Has z (changes_from q c e)) f (places-has 0 x was now (unlike x m).0 lengths.1 n)
        go (inl a) =
            let u = (unlike x m).0 in
            let v = lengths.0 in
            let y = places-has 0 x as-block now (omega arith) (sym lengths.0 ∙ lengths.1) (apart-there a) in
            absurd (single
            (in-pairs (places_apart 0 as-block now) here d t x
            (subst (λ z. Has z (places_apart 0 as-block now)) f y)) r.cell)

    pub frame-told : StandsClosed d s (drop q e) ↔ IsLeftFrom (i + q) bs (changes_from q c e) d
    frame-told = (to, from)
      where
        tell : StandsClosed d s (drop q e) ↔ (left_of (places_apart 0 as-block now) here ≡ d ∷ [])
        tell = changes-tell here d s framed (drop q e) here-stands now-length

        all-changed : StandsClosed d s (drop q e) → All (Contains (changes_from q c e)) (preamble_cells (i + q))
        all-changed w k y l =
            has-contains (changes_from q c e) (get_or (preamble_cells (i + q)) k y)
            (own-changed (tell.0 w) (get_or (preamble_cells (i + q)) k y)
            (contains-has (preamble_cells (i + q)) (get_or (preamble_cells (i + q)) k y)
            (Contains-get_or (preamble_cells (i + q)) k y l)))

        to : StandsClosed d s (drop q e) → IsLeftFrom (i + q) bs (changes_from q c e) d
        to w = record {
          preambles = all-changed w;
          pairs = ap (λ ys. left_of ys here) (sym (others (all-changed w)))
              ∙ tell.0 w;
        }

        from : IsLeftFrom (i + q) bs (changes_from q c e) d → StandsClosed d s (drop q e)
        from r = tell.1 (ap (λ ys. left_of ys here) (others r.preambles) ∙ r.pairs)

-- where few cells change, all blocks
pub blocks-told : (s : Level) (bs : List (List (List Bool))) (i j : ℕ) (c e : List Level) → IsPiece s bs i j c
    → length e ≡ length c → apart c e ≤ 383
    → (q : ℕ) (d : List (List Bool)) (t : Level) → StandsClosed d t (drop q e) ↔ IsLeftAt q s bs i c e d t
blocks-told s bs i j c e p l a q d t = (to, from)
  where
    to : StandsClosed d t (drop q e) → IsLeftAt q s bs i c e d t
    to w =
        let f = few-frames s bs i j c e p l q d t w a in
        let r = closed-room d t (drop q e) w in
        let n = length-drop q e in
        let m = block_len_24576 in
        let o : q + block_len ≤ length c = omega arith in
        record {
          frame = f.0;
          room = o;
          level = f.1;
          left = (frame-told s bs i j c e p l q f.0 o d).0 (subst (λ t. StandsClosed d t (drop q e)) f.1 w);
        }

    from : IsLeftAt q s bs i c e d t → StandsClosed d t (drop q e)
    from r = subst (λ t. StandsClosed d t (drop q e)) (sym r.level)
        ((frame-told s bs i j c e p l q r.frame r.room d).1 r.left)

pub blocks-left : (s : Level) (bs : List (List (List Bool))) (i j : ℕ) (c e : List Level) → IsPiece s bs i j c
    → length e ≡ length c → apart c e ≤ 383
    → (found : List PlacedBlock) × AreAllLeft found s bs i c e × (blocks e ≡ map (λ f. f.block) found)
blocks-left s bs i j c e p l a =
    let r = blocks-all_standing e in (
      r.0,
      record {
        each = λ k y o.
            let f = get_or r.0 k y in
            (blocks-told s bs i j c e p l a f.place f.block f.level).0 (r.1.each k y o);
        all = λ f h. r.1.all f ((blocks-told s bs i j c e p l a f.place f.block f.level).1 h);
        order = r.1.order;
      },
      r.2,
    )
