-- The cells of payloads one behind the other.
use Rattle.std.proofs.Common.{◌≡◌, ℕ, zero, suc, add-one, ◌+◌, ◌*◌, ◌/◌, ◌<◌, ◌≤◌, List, [], ◌∷◌, ◌++◌, Bool, true}
use Rattle.std.proofs.Common.{length, map, take, get_or, set, refl, sym, ap, ap₂, ◌∙◌, arith, append_assoc, append-nil}
use Rattle.std.proofs.Common.{length-append}
use Rattle.std.specs.List.{flat_map}
use Rattle.std.proofs.lemmas.Bool.{and_parts}
use Rattle.std.proofs.lemmas.List.{map-append, length-map, set-get_or, take_all, take_more, length-take-le}
use Rattle.aes3_level.specs.declared.level.Level.{Level}
use Rattle.aes3_level.specs.Cells.{line, after}
use Rattle.aes3_level.specs.Words.{word_len, word_cells}
use Rattle.aes3_level.proofs.WordCells.{word_len_64}
use Rattle.aes3_level.proofs.WordLists.{words-more}
use Rattle.aes3_level.proofs.Runs.{line-append, after-append}
use Rattle.aes3_slot.specs.declared.mark.Mark.{Mark}
use Rattle.aes3_slot.specs.Slots.{IsPayload, payload_len, slots_bits, slot_runs, subframe_runs, with_parity, runs_of}
use Rattle.aes3_bits.proofs.Bits.{length-low_bits}
use Rattle.aes3_slot.proofs.Subframes.{after-subframe, length-subframe}
use Rattle.aes3_frame.specs.Blocks.{mark_at, block_runs, block_cells}
use Rattle.aes3_frame.specs.Files.{has_code, has_parity, is_lawful, payload_of}
use Rattle.aes3_frame.proofs.BitLemmas.{lawful-slots}

-- 27 bits each
abbrev pub Each27 : List (List Bool) → Type 0
Each27 [] = Unit {0}
Each27 (p ∷ ps) = IsPayload p × Each27 ps

pub each27-payloads : (words : List ℕ) → Each27 (map payload_of words)
each27-payloads [] = tt
each27-payloads (w ∷ words) = (length-low_bits payload_len (w / 16), each27-payloads words)

-- one more subframe
pub runs-push : (marks : ℕ → Mark) (slots : List (List Bool)) (bits : List Bool)
    → runs_of marks (slots ++ bits ∷ []) ≡ runs_of marks slots ++ slot_runs (marks (length slots)) bits
runs-push marks [] bits = append-nil (slot_runs (marks 0) bits)
runs-push marks (x ∷ slots) bits =
    ap (λ r. slot_runs (marks 0) x ++ r) (runs-push (λ j. marks (suc j)) slots bits)
    ∙ sym (append_assoc (slot_runs (marks 0) x) (runs_of (λ j. marks (suc j)) slots)
    (slot_runs (marks (suc (length slots))) bits))

-- the level behind whole subframes, and how many cells they are
pub after-runs : (s : Level) (marks : ℕ → Mark) (ps : List (List Bool)) → Each27 ps
    → after s (runs_of marks (map with_parity ps)) ≡ s
after-runs s marks [] h = refl
after-runs s marks (p ∷ ps) h =
    after-append s (subframe_runs (marks 0) p) (runs_of (λ j. marks (suc j)) (map with_parity ps))
    ∙ ap (λ t. after t (runs_of (λ j. marks (suc j)) (map with_parity ps))) (after-subframe s (marks 0) p h.0)
    ∙ after-runs s (λ j. marks (suc j)) ps h.1

pub length-runs : (s : Level) (marks : ℕ → Mark) (ps : List (List Bool)) → Each27 ps
    → length (line s (runs_of marks (map with_parity ps))) ≡ length ps * word_len
length-runs s marks [] h = omega arith
length-runs s marks (p ∷ ps) h =
    let rest = runs_of (λ j. marks (suc j)) (map with_parity ps) in
    let w = word_len_64 in
    let n = length-subframe s (marks 0) p h.0 in
    let k : word_len + length ps * word_len ≡ suc (length ps) * word_len = omega arith in
    let m = length-runs s (λ j. marks (suc j)) ps h.1 in
    ap length (line-append s (subframe_runs (marks 0) p) rest)
    ∙ length-append (line s (subframe_runs (marks 0) p)) (line (after s (subframe_runs (marks 0) p)) rest)
    ∙ ap₂ ◌+◌ (n ∙ sym w) (ap (λ t. length (line t rest)) (after-subframe s (marks 0) p h.0) ∙ m) ∙ k

-- the cells of one more subframe
cells-push : (s : Level) (ps : List (List Bool)) (p : List Bool) → Each27 ps
    → line s (block_runs (ps ++ p ∷ [])) ≡ line s (block_runs ps) ++ line s (subframe_runs (mark_at (length ps)) p)
cells-push s ps p h =
    let runs = block_runs ps in
    let more = subframe_runs (mark_at (length ps)) p in
    let e : block_runs (ps ++ p ∷ []) ≡ runs ++ more =
    ap (runs_of mark_at) (map-append with_parity ps (p ∷ [])) ∙ runs-push mark_at (map with_parity ps) (with_parity p)
    ∙ ap (λ n. runs ++ subframe_runs (mark_at n) p) (length-map ps with_parity) in
    ap (line s) e ∙ line-append s runs more ∙ ap (λ t. line s runs ++ line t more) (after-runs s mark_at ps h)

-- the cells of a lawful word
pub cells-word : (s : Level) (m : Mark) (i w slots cells : ℕ) → m ≡ mark_at i → slots ≡ w / 16 → is_lawful w ≡ true
    → word_cells cells ≡ line s (slot_runs m (slots_bits slots))
    → word_cells cells ≡ line s (subframe_runs (mark_at i) (payload_of w))
cells-word s m i w slots cells em es h e =
    e ∙ ap₂ (λ mark bits. line s (slot_runs mark bits)) em (ap slots_bits es
    ∙ lawful-slots w (and_parts (has_code w) (has_parity w) h).1)

-- words, each with a payload
module _ (payload : ℕ → List Bool) (each : (w : ℕ) → IsPayload (payload w)) where
  each27 : (words : List ℕ) → Each27 (map payload words)
  each27 [] = tt
  each27 (w ∷ words) = (each w, each27 words)

  -- the cells so far, with one more word
  pub cells-more : (s : Level) (words cells : List ℕ) (i v : ℕ) → i < length words → i < length cells
      → flat_map word_cells (take i cells) ≡ line s (block_runs (map payload (take i words)))
      → word_cells v ≡ line s (subframe_runs (mark_at i) (payload (get_or words i 0)))
      → flat_map word_cells (take (i + 1) (set cells i v)) ≡ line s (block_runs (map payload (take (i + 1) words)))
  cells-more s words cells i v h l front q =
      let ps = map payload (take i words) in
      let p = payload (get_or words i 0) in
      let n : length ps ≡ i = length-map (take i words) payload ∙ length-take-le i words (omega arith) in
      let e : map payload (take (i + 1) words) ≡ ps ++ p ∷ [] =
      ap (map payload) (take_more words i 0 h) ∙ map-append payload (take i words) (get_or words i 0 ∷ []) in
      words-more cells i v l ∙ ap₂ ◌++◌ front q
      ∙ ap (λ k. line s (block_runs ps) ++ line s (subframe_runs (mark_at k) p)) (sym n)
      ∙ sym (cells-push s ps p (each27 (take i words))) ∙ ap (λ x. line s (block_runs x)) (sym e)

  -- the cells of the whole block
  pub cells-whole : (s : Level) (words cells : List ℕ) (i : ℕ) → length words ≤ i → length cells ≤ i
      → flat_map word_cells (take i cells) ≡ line s (block_runs (map payload (take i words)))
      → flat_map word_cells cells ≡ block_cells s (map payload words)
  unfolding block_cells
  cells-whole s words cells i h l e =
      ap (flat_map word_cells) (sym (take_all i cells l)) ∙ e
      ∙ ap (λ x. line s (block_runs (map payload x))) (take_all i words h)

  -- each word with the cells of its own payload
  pub cells-each : (s : Level) (words cells : List ℕ) (n : ℕ) → length words ≡ n → length cells ≡ n
      → ((i : ℕ) → i < n
      → word_cells (get_or cells i 0) ≡ line s (subframe_runs (mark_at i) (payload (get_or words i 0))))
      → flat_map word_cells cells ≡ block_cells s (map payload words)
  cells-each s words cells n l k each = cells-whole s words cells n (omega arith) (omega arith) (so_far n (omega arith))
    where
      so_far : (i : ℕ) → i ≤ n → flat_map word_cells (take i cells) ≡ line s (block_runs (map payload (take i words)))
      so_far zero h = refl
      so_far (suc i) h =
          ap (λ j. flat_map word_cells (take j cells)) (sym (add-one i))
          ∙ ap (λ cs. flat_map word_cells (take (i + 1) cs)) (sym (set-get_or cells i 0))
          ∙ cells-more s words cells i (get_or cells i 0) (omega arith) (omega arith)
          (so_far i (omega arith)) (each i h)
          ∙ ap (λ j. line s (block_runs (map payload (take j words)))) (add-one i)

pub payload-length : (w : ℕ) → IsPayload (payload_of w)
payload-length w = length-low_bits payload_len (w / 16)
