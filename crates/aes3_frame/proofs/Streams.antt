-- Blocks one behind the other.
use Rattle.std.proofs.Common.{◌≡◌, ℕ, zero, suc, ◌+◌, ◌*◌, ◌/◌, ◌≤◌, List, [], ◌∷◌, ◌++◌, Bool, length, map, take, drop}
use Rattle.std.proofs.Common.{refl, ap, ap₂, ◌∙◌, arith, append-nil, length-append, length-drop, drop-drop}
use Rattle.std.specs.List.{flat_map}
use Rattle.std.proofs.lemmas.Grind.{flat_map-append}
use Rattle.std.proofs.lemmas.List.{take-append-le, drop-append-le}
use Rattle.aes3_level.specs.declared.level.Level.{Level}
use Rattle.aes3_level.specs.Cells.{line, after}
use Rattle.aes3_level.specs.Words.{word_len}
use Rattle.aes3_level.proofs.Runs.{line-append, after-append}
use Rattle.aes3_frame.specs.Blocks.{block_subframes, mark_at, block_runs, block_cells, stream}
use Rattle.aes3_frame.specs.Files.{payload_of, blocks_in, lawful_words, file_blocks}
use Rattle.aes3_frame.proofs.Runs.{Each27, each27-payloads, after-runs, length-runs}

-- 27 bits each, in each block
abbrev pub EachBlock27 : List (List (List Bool)) → Type 0
EachBlock27 [] = Unit {0}
EachBlock27 (b ∷ bs) = Each27 b × EachBlock27 bs

pub after-stream : (s : Level) (bs : List (List (List Bool))) → EachBlock27 bs → after s (flat_map block_runs bs) ≡ s
after-stream s [] h = refl
after-stream s (b ∷ bs) h =
    after-append s (block_runs b) (flat_map block_runs bs)
    ∙ ap (λ t. after t (flat_map block_runs bs)) (after-runs s mark_at b h.0) ∙ after-stream s bs h.1

-- how many subframes
abbrev pub slot_count : List (List (List Bool)) → ℕ
slot_count [] = 0
slot_count (b ∷ bs) = length b + slot_count bs

pub length-stream : (s : Level) (bs : List (List (List Bool))) → EachBlock27 bs
    → length (line s (flat_map block_runs bs)) ≡ slot_count bs * word_len
length-stream s [] h = omega arith
length-stream s (b ∷ bs) h =
    let rest = flat_map block_runs bs in
    let n = length-runs s mark_at b h.0 in
    let m = length-stream s bs h.1 in
    let k : length b * word_len + slot_count bs * word_len ≡ (length b + slot_count bs) * word_len = omega arith in
    ap length (line-append s (block_runs b) rest)
    ∙ length-append (line s (block_runs b)) (line (after s (block_runs b)) rest)
    ∙ ap₂ ◌+◌ n (ap (λ t. length (line t rest)) (after-runs s mark_at b h.0) ∙ m) ∙ k

-- one more block
pub stream-push : (s : Level) (bs : List (List (List Bool))) (b : List (List Bool)) → EachBlock27 bs
    → stream s (bs ++ b ∷ []) ≡ stream s bs ++ block_cells s b
unfolding stream block_cells
stream-push s bs b h =
    ap (line s) (flat_map-append block_runs bs (b ∷ [])
    ∙ ap (λ r. flat_map block_runs bs ++ r) (append-nil (block_runs b)))
    ∙ line-append s (flat_map block_runs bs) (block_runs b)
    ∙ ap (λ t. line s (flat_map block_runs bs) ++ line t (block_runs b)) (after-stream s bs h)

-- the blocks of words
pub each27-blocks : (n : ℕ) (ws : List ℕ) → EachBlock27 (blocks_in n ws)
each27-blocks zero ws = tt
each27-blocks (suc n) ws = (each27-payloads (take block_subframes ws), each27-blocks n (drop block_subframes ws))

pub blocks-front : (n : ℕ) (ws vs : List ℕ) → block_subframes * n ≤ length ws → blocks_in n (ws ++ vs) ≡ blocks_in n ws
blocks-front zero ws vs h = refl
blocks-front (suc n) ws vs h =
    let le : block_subframes ≤ length ws = omega arith in
    ap₂ (λ x y. map payload_of x ∷ y) (take-append-le block_subframes ws vs le)
    (ap (blocks_in n) (drop-append-le block_subframes ws vs le)
    ∙ blocks-front n (drop block_subframes ws) vs (let l = length-drop block_subframes ws in omega arith))

pub blocks-more : (n : ℕ) (ws : List ℕ)
    → blocks_in (suc n) ws ≡ blocks_in n ws ++ map payload_of (take block_subframes (drop (block_subframes * n) ws)) ∷ []
blocks-more zero ws = ap (λ k. map payload_of (take block_subframes (drop k ws)) ∷ [])
    (let e : 0 ≡ block_subframes * 0 = omega arith in e)
blocks-more (suc n) ws =
    ap (λ z. map payload_of (take block_subframes ws) ∷ z)
    (blocks-more n (drop block_subframes ws)
    ∙ ap (λ k. blocks_in n (drop block_subframes ws) ++ map payload_of (take block_subframes k) ∷ [])
    (drop-drop (block_subframes * n) block_subframes ws
    ∙ ap (λ k. drop k ws) (let e : block_subframes + block_subframes * n ≡ block_subframes * suc n = omega arith in e)))

pub each27-whole : (b : List ℕ) → EachBlock27 (file_blocks b)
unfolding file_blocks
each27-whole b = each27-blocks (length (lawful_words b) / block_subframes) (lawful_words b)

pub file_blocks-nil : file_blocks [] ≡ []
unfolding file_blocks lawful_words block_subframes
file_blocks-nil = refl

pub stream-nil : (s : Level) → stream s [] ≡ []
unfolding stream
stream-nil s = refl
