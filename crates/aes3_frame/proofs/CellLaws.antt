-- The cells of blocks: how many, how they end, and what they tell.
use Rattle.std.proofs.Common.{◌≡◌, ℕ, suc, ◌+◌, ◌-◌, ◌*◌, ◌<◌, List, [], ◌∷◌, ◌++◌, Bool, true, Some, length, map, take}
use Rattle.std.proofs.Common.{drop, get_or, refl, sym, ap, ap₂, ◌∙◌, arith, append-nil, length-append}
use Rattle.std.specs.Prelude.{slice_get}
use Rattle.std.specs.List.{flat_map, All}
use Rattle.std.proofs.lemmas.Grind.{flat_map-append}
use Rattle.std.proofs.lemmas.List.{take_at, drop_at, length-map}
use Rattle.std.proofs.lemmas.Option.{slice_get-get_or}
use Rattle.aes3_level.specs.declared.level.Level.{Level}
use Rattle.aes3_level.specs.declared.level.Level.TheVariants.{Low}
use Rattle.aes3_level.specs.Cells.{line, other}
use Rattle.aes3_level.proofs.WordCells.{word_len_64}
use Rattle.aes3_level.proofs.Runs.{line-append, other-other}
use Rattle.aes3_slot.specs.declared.mark.Mark.{Mark}
use Rattle.aes3_slot.specs.Slots.{slots_len, with_parity, subframe_runs, runs_of}
use Rattle.aes3_slot.specs.Rules.{before, Each28}
use Rattle.aes3_slot.proofs.Subframes.{after-subframe, length-subframe, length-with_parity}
use Rattle.aes3_slot.proofs.Index.{before-append_right, subframe-last}
use Rattle.aes3_slot.proofs.Unique.{unique}
use Rattle.aes3_slot.proofs.Parity.{some-unique}
use Rattle.aes3_frame.specs.Blocks.{IsBlock, block_subframes, block_len, mark_at, block_runs, block_cells, stream}
use Rattle.aes3_frame.proofs.Runs.{Each27, after-runs, length-runs}
use Rattle.aes3_frame.proofs.BlockLemmas.{block_subframes_384}
use Rattle.aes3_frame.proofs.Streams.{EachBlock27, after-stream, stream-nil}
use Rattle.aes3_frame.proofs.FileLaws.{EachBlock, each-block}
use Rattle.aes3_frame.proofs.Each.{each-payload}

-- how many
pub length-block_cells : (s : Level) (b : List (List Bool)) → IsBlock b → length (block_cells s b) ≡ block_len
unfolding block_cells block_len
length-block_cells s b h =
    let n = length-runs s mark_at b (each-payload b h.payloads) in
    let w = word_len_64 in
    let c = h.count in
    n ∙ ap₂ ◌*◌ c w ∙ omega arith

pub block_len_24576 : block_len ≡ 24576
unfolding block_len block_subframes
block_len_24576 = refl

-- the last cell of whole subframes
slots-28 : (p : List Bool) → length p ≡ slots_len → length p ≡ 28
unfolding slots_len
slots-28 p h = h

last-runs : (s : Level) (marks : ℕ → Mark) (ps : List (List Bool)) → Each27 ps
    → before s (line s (runs_of marks (map with_parity ps))) (64 * length ps) ≡ s
last-runs s marks [] h = refl
last-runs s marks (p ∷ ps) h =
    let one = line s (subframe_runs (marks 0) p) in
    let runs = runs_of (λ j. marks (suc j)) (map with_parity ps) in
    let n = length-subframe s (marks 0) p h.0 in
    let k : 64 * length (p ∷ ps) ≡ length one + 64 * length ps = omega arith in
    ap₂ (before s) (line-append s (subframe_runs (marks 0) p) runs
    ∙ ap (λ t. line s (subframe_runs (marks 0) p) ++ line t runs) (after-subframe s (marks 0) p h.0)) k
    ∙ before-append_right s s one (line s runs) (64 * length ps)
    (ap (before s (line s (subframe_runs (marks 0) p))) n
    ∙ subframe-last s (marks 0) (with_parity p) (slots-28 (with_parity p) (length-with_parity p h.0))
    ∙ after-subframe s (marks 0) p h.0)
    ∙ last-runs s (λ j. marks (suc j)) ps h.1

last-whole : (s : Level) (b : List (List Bool)) → IsBlock b → before s (block_cells s b) block_len ≡ s
unfolding block_cells block_len
last-whole s b h = ap (λ n. before s (line s (block_runs b)) (64 * n)) (sym h.count)
    ∙ last-runs s mark_at b (each-payload b h.payloads)

pub last-block_cells : (s : Level) (b : List (List Bool)) → IsBlock b
    → slice_get (block_cells s b) (block_len - 1) ≡ Some s
last-block_cells s b h = go (block_len - 1) (let e = block_len_24576 in omega arith)
  where
    go : (n : ℕ) → block_len ≡ suc n → slice_get (block_cells s b) n ≡ Some s
    go n e =
        slice_get-get_or (block_cells s b) n Low (let l = length-block_cells s b h in omega arith)
        ∙ ap Some (ap (before s (block_cells s b)) (sym e) ∙ last-whole s b h)

-- cells tell the level and the block
first-cell : (s : Level) (b : List (List Bool)) → 0 < length b → get_or (block_cells s b) 0 Low ≡ other s
unfolding block_cells mark_at
first-cell s [] h = absurd (omega arith)
first-cell s (p ∷ ps) h = refl

pub each28 : (ps : List (List Bool)) → Each27 ps → Each28 (map with_parity ps)
each28 [] h = tt
each28 (p ∷ ps) h = (slots-28 (with_parity p) (length-with_parity p h.0), each28 ps h.1)

payloads-same : (ps qs : List (List Bool)) → map with_parity ps ≡ map with_parity qs → ps ≡ qs
payloads-same [] [] e = refl
payloads-same [] (q ∷ qs) e = cc
payloads-same (p ∷ ps) [] e = cc
payloads-same (p ∷ ps) (q ∷ qs) e =
    let x : with_parity p ≡ with_parity q = cc in
    ap₂ (λ y ys. y ∷ ys) (some-unique true true p q x).1 (payloads-same ps qs cc)

same-blocks : (s : Level) (b d : List (List Bool)) → IsBlock b → IsBlock d → block_cells s b ≡ block_cells s d → b ≡ d
unfolding block_cells
same-blocks s b d h g e =
    payloads-same b d (unique mark_at s (map with_parity b) (map with_parity d) [] []
    (length-map b with_parity ∙ h.count ∙ sym g.count ∙ sym (length-map d with_parity))
    (each28 b (each-payload b h.payloads)) (each28 d (each-payload d g.payloads))
    (append-nil (line s (block_runs b)) ∙ e ∙ sym (append-nil (line s (block_runs d)))))

pub block_cells-unique : (s t : Level) (b d : List (List Bool)) → IsBlock b → IsBlock d
    → block_cells s b ≡ block_cells t d → (s ≡ t) × (b ≡ d)
block_cells-unique s t b d h g e =
    let l : s ≡ t = sym (other-other s)
    ∙ ap other (sym (first-cell s b (some b h.count)) ∙ ap (λ c. get_or c 0 Low) e ∙ first-cell t d (some d g.count))
    ∙ other-other t in
    (l, same-blocks s b d h g (e ∙ ap (λ u. block_cells u d) (sym l)))
  where
    some : (b : List (List Bool)) → length b ≡ block_subframes → 0 < length b
    some b h = let n = slots-some in omega arith
      where
        slots-some : 0 < block_subframes
        slots-some = let k = block_subframes_384 in omega arith

-- blocks one behind the other
each27-blocks : (bs : List (List (List Bool))) → EachBlock bs → EachBlock27 bs
each27-blocks [] h = tt
each27-blocks (b ∷ bs) h = (each-payload b h.0.payloads, each27-blocks bs h.1)

pub stream-append : (s : Level) (bs ds : List (List (List Bool))) → All IsBlock bs
    → stream s (bs ++ ds) ≡ stream s bs ++ stream s ds
unfolding stream
stream-append s bs ds h =
    ap (line s) (flat_map-append block_runs bs ds) ∙ line-append s (flat_map block_runs bs) (flat_map block_runs ds)
    ∙ ap (λ t. line s (flat_map block_runs bs) ++ line t (flat_map block_runs ds))
    (after-stream s bs (each27-blocks bs (each-block bs h)))

pub stream-cons : (s : Level) (b : List (List Bool)) (bs : List (List (List Bool))) → IsBlock b
    → stream s (b ∷ bs) ≡ block_cells s b ++ stream s bs
unfolding stream block_cells
stream-cons s b bs h =
    line-append s (block_runs b) (flat_map block_runs bs)
    ∙ ap (λ t. line s (block_runs b) ++ line t (flat_map block_runs bs))
    (after-runs s mark_at b (each-payload b h.payloads))

some-cells : (s : Level) (b : List (List Bool)) (bs : List (List (List Bool))) → IsBlock b
    → stream s [] ≡ stream s (b ∷ bs) → ⊥
some-cells s b bs h e =
    let n : 0 ≡ length (block_cells s b ++ stream s bs) = ap length (sym (stream-nil s) ∙ e ∙ stream-cons s b bs h) in
    let a = length-append (block_cells s b) (stream s bs) in
    let l = length-block_cells s b h in
    let k = block_len_24576 in
    omega arith

same-streams : (s : Level) (bs ds : List (List (List Bool))) → EachBlock bs → EachBlock ds
    → stream s bs ≡ stream s ds → bs ≡ ds
same-streams s [] [] h g e = refl
same-streams s [] (d ∷ ds) h g e = absurd (some-cells s d ds g.0 e)
same-streams s (b ∷ bs) [] h g e = absurd (some-cells s b bs h.0 (sym e))
same-streams s (b ∷ bs) (d ∷ ds) h g e =
    let q : block_cells s b ++ stream s bs ≡ block_cells s d ++ stream s ds = sym (stream-cons s b bs h.0) ∙ e
    ∙ stream-cons s d ds g.0 in
    let l = length-block_cells s b h.0 in
    let m = length-block_cells s d g.0 in
    ap₂ (λ x xs. x ∷ xs)
    (same-blocks s b d h.0 g.0 (sym (take_at (block_cells s b) (stream s bs) block_len l) ∙ ap (take block_len) q
    ∙ take_at (block_cells s d) (stream s ds) block_len m))
    (same-streams s bs ds h.1 g.1 (sym (drop_at (block_cells s b) (stream s bs) block_len l) ∙ ap (drop block_len) q
    ∙ drop_at (block_cells s d) (stream s ds) block_len m))

pub stream-unique : (s : Level) (bs ds : List (List (List Bool))) → All IsBlock bs → All IsBlock ds
    → stream s bs ≡ stream s ds → bs ≡ ds
stream-unique s bs ds h g e = same-streams s bs ds (each-block bs h) (each-block ds g) e
