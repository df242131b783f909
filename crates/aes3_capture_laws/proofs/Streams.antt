-- A line of whole blocks, as subframes one after the other.
use Rattle.std.proofs.Common.{◌≡◌, ℕ, zero, suc, ◌+◌, ◌%◌, ◌<◌, ◌≤◌, ◌⊎◌, inl, inr, List, [], ◌∷◌, Bool, map, take, drop, length, refl}
use Rattle.std.proofs.Common.{ap, ◌∙◌, arith}
use Rattle.std.specs.List.{flat_map, All}
use Rattle.std.proofs.lemmas.Bool.{cases_eq}
use Rattle.aes3_slot.specs.declared.mark.Mark.TheVariants.{X}
use Rattle.aes3_slot.specs.Slots.{slots_len, with_parity}
use Rattle.aes3_slot.proofs.Subframes.{length-with_parity, odd_ones-with_parity}
use Rattle.aes3_frame.specs.Blocks.{block_runs, block_subframes, mark_at, IsBlock}
use Rattle.aes3_frame.proofs.FileLaws.{each-block}
use Rattle.aes3_frame.proofs.Runs.{Each27}
use Rattle.aes3_lock.proofs.LawfulPieces.{each27-in, payloads_in, stream_marks, stream-runs}
use Rattle.aes3_capture_recovery.specs.Finding.{AreOfManySubframes}
use Rattle.aes3_capture_laws.proofs.LineRuns.{EachSubframe}
use Rattle.aes3_capture_laws.proofs.LineWindows.{few-cells, first-is, place_of, second-is, side-is, six-is, some-cells, third-is}
use Rattle.aes3_capture_laws.proofs.LineWindows.{three-is, window-of}
use Rattle.aes3_capture_laws.proofs.Beginnings.{HaveX, cells-are, few-are, firsts-are, longest-is, many-are}
use Rattle.aes3_capture_laws.proofs.LongPairs.{few-long}
use Rattle.aes3_capture_laws.proofs.FoundPreambles.{subframes-are}

-- each subframe has 28 bits with an even number of ones
each-subframe : (ps : List (List Bool)) → Each27 ps → EachSubframe (map with_parity ps)
unfolding slots_len
each-subframe [] h = tt
each-subframe (p ∷ ps) h = (record { count = length-with_parity p h.0; even = odd_ones-with_parity p }, each-subframe ps h.1)

-- even numbers but 0 are those of X
x-at : (j : ℕ) → j % 2 ≡ 0 → 0 < j → mark_at j ≡ X
unfolding mark_at
x-at zero e h = absurd (omega (arith, h))
x-at (suc j) e h = let o : j % 2 ≡ 1 = omega (arith, e) in rw o refl

have-x : HaveX stream_marks
unfolding block_subframes
have-x q = go (cases_eq (q % 384) 0) (cases_eq (q % 384) 383) (cases_eq (q % 384 % 2) 0)
  where
    go : (q % 384 ≡ 0) ⊎ (q % 384 ≡ 0 → ⊥) → (q % 384 ≡ 383) ⊎ (q % 384 ≡ 383 → ⊥) → (q % 384 % 2 ≡ 0) ⊎ (q % 384 % 2 ≡ 0 → ⊥)
        → (d : ℕ) × (d ≤ 3) × (mark_at ((q + d) % 384) ≡ X)
    go (inl a) b c = (2, omega arith, x-at ((q + 2) % 384) (omega (arith, a)) (omega (arith, a)))
    go (inr a) (inl b) c = (3, omega arith, x-at ((q + 3) % 384) (omega (arith, b)) (omega (arith, b)))
    go (inr a) (inr b) (inl c) = (0, omega arith, x-at ((q + 0) % 384) (omega (arith, c)) (omega (arith, a)))
    go (inr a) (inr b) (inr c) = (1, omega arith, x-at ((q + 1) % 384) (omega (arith, b, c)) (omega (arith, b)))

pub many-subframes : (bs : List (List (List Bool))) (k n : ℕ) (line : List ℕ) → All IsBlock bs
    → line ≡ take n (drop k (flat_map block_runs bs)) → length line ≡ n → n ≡ 256
    → (place side : ℕ) × AreOfManySubframes place side line
many-subframes bs k n line blocks e l h =
    let each = each-block bs blocks in
    let slots = map with_parity (payloads_in bs) in
    let w = window-of stream_marks slots k n line (each-subframe (payloads_in bs) (each27-in bs each)) (omega (arith, h))
    (e ∙ ap (λ runs. take n (drop k runs)) (stream-runs bs each)) l in (
      place_of stream_marks slots k,
      k % 2,
      record {
        subframes = subframes-are w (omega (arith, h));
        count = omega (arith, l, h);
        some_cells = λ i o. some-cells w i (omega (arith, o, l));
        few_cells = λ i o. few-cells w i (omega (arith, o, l));
        side_is = λ i o z. side-is w i (omega (arith, o, l)) z;
        first = λ i o z. first-is w i (omega (arith, o, l)) z;
        third = λ i o z. third-is w i (omega (arith, o, l)) z;
        fourth = λ i o z. (second-is w i (omega (arith, o, l)) z).four;
        threes = λ i o side z. three-is w i (omega (arith, o, l)) side z;
        sixes = λ i o z. six-is w i (omega (arith, o, l)) z;
        longest = longest-is w have-x (omega (arith, h));
        few_long = few-long w (omega (arith, h));
        firsts = λ from o. firsts-are w from (omega (arith, o, l));
        few = λ i j a b o y z. few-are w i j a b (omega (arith, o, l)) y z;
        many = λ i j a o y z. many-are w i j a (omega (arith, o, l)) y z;
        cells = cells-are w (omega (arith, h));
      },
    )
