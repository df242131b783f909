use Rattle.std.proofs.Common.{ℕ, ◌≡◌, ◌<◌, true, false, get_or, take, arith}
use Rattle.aes3_bits.specs.Bits.{odd_ones}
use Rattle.aes3_slot.specs.Slots.{payload_len}
use Rattle.aes3_slot.specs.ReadWords.{read_word}
use Rattle.aes3_frame.specs.Files.{is_lawful, payload_of}
use Rattle.aes3_frame.proofs.FourWords.{all-four, lawful-lane}
use Rattle.aes3_frame.proofs.gathered.words_as_read.Goals as goal

lane : (c : goal.After-even_octets) → (i : ℕ) → i < 4
    → (odd_ones (read_word (get_or c.args.cells.now i 0)) ≡ false → is_lawful (get_or c.even_octets.result i 0) ≡ true)
    × (payload_of (get_or c.even_octets.result i 0) ≡ take payload_len (read_word (get_or c.args.cells.now i 0)))
lane c =
    let e = c.even_octets.ensures in
    let at = λ (i : ℕ). get_or c.args.cells.now i 0 in
    let r = λ (i : ℕ). get_or c.even_octets.result i 0 in
    all-four (λ i. (odd_ones (read_word (get_or c.args.cells.now i 0)) ≡ false
    → is_lawful (get_or c.even_octets.result i 0) ≡ true)
    × (payload_of (get_or c.even_octets.result i 0) ≡ take payload_len (read_word (get_or c.args.cells.now i 0))))
    (lawful-lane (at 0) c.octets_apart.result (r 0) (c.fits-cells 0) (e.fits 0 (omega arith))
    (λ j h. e.bits 0 j (omega arith) h) c.octets_apart.ensures.none c.octets_apart.ensures.bits)
    (lawful-lane (at 1) c.octets_apart-2.result (r 1) (c.fits-cells 1) (e.fits 1 (omega arith))
    (λ j h. e.bits 1 j (omega arith) h) c.octets_apart-2.ensures.none c.octets_apart-2.ensures.bits)
    (lawful-lane (at 2) c.octets_apart-3.result (r 2) (c.fits-cells 2) (e.fits 2 (omega arith))
    (λ j h. e.bits 2 j (omega arith) h) c.octets_apart-3.ensures.none c.octets_apart-3.ensures.bits)
    (lawful-lane (at 3) c.octets_apart-4.result (r 3) (c.fits-cells 3) (e.fits 3 (omega arith))
    (λ j h. e.bits 3 j (omega arith) h) c.octets_apart-4.ensures.none c.octets_apart-4.ensures.bits)

pub returns-clause-lawful : goal.returns-clause-lawful
returns-clause-lawful c = λ i h. (lane c i h).0

pub returns-clause-payload : goal.returns-clause-payload
returns-clause-payload c = λ i h. (lane c i h).1
