use Rattle.std.proofs.Common.{ℕ, ◌≡◌, ◌<◌, ◌∷◌, ◌-◌, [], ◌∙◌, arith, refl, sym, ap, ext_get_or}
use Rattle.std.specs.Int.{bit_at}
use Rattle.aes3_level.specs.declared.level.Level.TheVariants.{Low}
use Rattle.aes3_level.specs.Words.{level_of, low_cells}
use Rattle.aes3_cell.specs.Packed.{octet_cells}
use Rattle.aes3_level.proofs.WordCells.{length-low_cells, low_cells-at}
use Rattle.aes3_cell.proofs.Octets.{length-octet_cells, octet_cells-at}
use Rattle.aes3_level.proofs.Moves.{gathers-itself, gathers-exchanged, gathers-at, any_of-one}
use Rattle.aes3_input.proofs.packed_input.word_of_octet.Goals as goal

-- eight bits in the opposite order are the cells of an octet
turned-cells : (x r : ℕ) → ((i : ℕ) → i < 8 → bit_at r i ≡ bit_at x (7 - i)) → low_cells 8 r ≡ octet_cells x
turned-cells x r h =
    let n = length-low_cells 8 r in
    let m = length-octet_cells x in
    ext_get_or Low (low_cells 8 r) (octet_cells x) (omega arith)
    (λ i l. low_cells-at 8 r i (omega (arith, l, n)) ∙ ap level_of (h i (omega (arith, l, n)))
    ∙ sym (octet_cells-at x i (omega (arith, l, n))))

pub returns : goal.returns
returns c =
    let w = c.from-word.result in
    let x = c.args.octet in
    let three =
    gathers-exchanged 4 15
    (gathers-exchanged 2 51
    (gathers-exchanged 1 85
    (gathers-itself 8 w (omega arith) (omega arith) (omega arith)))) in
    turned-cells x _ (λ i h.
    gathers-at (λ i. (7 - i) ∷ []) 8 three (omega arith) refl i h
    ∙ any_of-one w (7 - i) ∙ ap (λ k. bit_at k (7 - i)) c.from-word.ensures)
