-- Blocks of which the subframes of wrong parity are filled.
use Rattle.std.proofs.Common.{◌≡◌, ℕ, ◌+◌, ◌<◌, List, [], ◌∷◌, ◌++◌, Bool, true, false, cond, length, map, set}
use Rattle.std.proofs.Common.{get_or, take, drop, replicate, refl, sym, ap, ap₂, ◌∙◌, arith, append_assoc, append-nil}
use Rattle.std.proofs.Common.{add-one, drop-cons}
use Rattle.std.proofs.lemmas.List.{get_or-map, map-append, take_all, take_more_set}
use Rattle.aes3_bits.specs.Bits.{odd_ones}
use Rattle.aes3_slot.specs.Slots.{payload_len}
use Rattle.aes3_slot.specs.ReadWords.{read_word}
use Rattle.aes3_frame.specs.declared.fill.Fill.{Fill}
use Rattle.aes3_frame.specs.Blocks.{block_subframes}
use Rattle.aes3_frame.specs.Files.{payload_of}
use Rattle.aes3_frame.specs.Mending.{filling_payload, mended_payload, mended_behind, mended}

-- a subframe of wrong parity
pub mended-wrong : (fill : Fill) (held bits : List Bool) → odd_ones bits ≡ true
    → mended_payload fill held bits ≡ filling_payload fill held
mended-wrong fill held bits e =
    ap (λ b. cond {A = List Bool} b (filling_payload fill held) (take payload_len bits)) e

pub zero-payload : payload_of 0 ≡ replicate payload_len false
unfolding payload_len
zero-payload = refl

-- one more subframe of a block behind another
pub made-more : (fill : Fill) (held other word : ℕ) (words cells : List ℕ) (i : ℕ) (all : List (List Bool))
    → i < length words → i < length cells
    → payload_of word ≡ mended_payload fill (payload_of held) (read_word (get_or cells i 0))
    → all ≡ map payload_of (take i words)
    ++ mended_behind fill (payload_of held) (payload_of other) (map read_word (drop i cells))
    → all ≡ map payload_of (take (i + 1) (set words i word))
    ++ mended_behind fill (payload_of other) (payload_of word) (map read_word (drop (i + 1) cells))
made-more fill held other word words cells i all h k p e =
    let front = map payload_of (take i words) in
    let x = payload_of held in
    let y = payload_of other in
    let rest = map read_word (drop (i + 1) cells) in
    let split : drop i cells ≡ get_or cells i 0 ∷ drop (i + 1) cells =
    drop-cons cells i 0 k ∙ ap (λ n. get_or cells i 0 ∷ drop n cells) (sym (add-one i)) in
    e ∙ ap (λ v. front ++ mended_behind fill x y (map read_word v)) split
    ∙ ap (λ v. front ++ (v ∷ mended_behind fill y v rest)) (sym p)
    ∙ sym (append_assoc front (payload_of word ∷ []) (mended_behind fill y (payload_of word) rest))
    ∙ ap (λ v. v ++ mended_behind fill y (payload_of word) rest)
    (sym (map-append payload_of (take i words) (word ∷ []))
    ∙ ap (map payload_of) (sym (take_more_set words i word h)))

-- all of them
pub made-all : (fill : Fill) (held other : ℕ) (words cells : List ℕ) (i : ℕ) (all : List (List Bool))
    → length words ≡ i → drop i cells ≡ []
    → all ≡ map payload_of (take i words)
    ++ mended_behind fill (payload_of held) (payload_of other) (map read_word (drop i cells))
    → map payload_of words ≡ all
made-all fill held other words cells i all n none e =
    sym (e ∙ ap₂ (λ v w. map payload_of v ++ mended_behind fill (payload_of held) (payload_of other) (map read_word w))
    (take_all i words (omega arith)) none ∙ append-nil (map payload_of words))

pub behind-kept : (fill : Fill) (before : List (List Bool)) (kept : List ℕ) (slots : List (List Bool))
    → length kept ≡ block_subframes → map payload_of kept ≡ before
    → mended_behind fill (payload_of (get_or kept 382 0)) (payload_of (get_or kept 383 0)) slots
    ≡ mended fill before slots
unfolding mended block_subframes
behind-kept fill before kept slots n e =
    ap₂ (λ v w. mended_behind fill v w slots)
    (sym (get_or-map payload_of kept 382 0 [] (omega arith)) ∙ ap (λ b. get_or b 382 []) e)
    (sym (get_or-map payload_of kept 383 0 [] (omega arith)) ∙ ap (λ b. get_or b 383 []) e)
