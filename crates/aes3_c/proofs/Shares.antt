-- Samples that are shared out to cells.
use Rattle.std.proofs.Common.{◌≡◌, ◌<◌, ◌+◌, ◌*◌, ◌/◌, ◌%◌, ◌∙◌, ℕ, ap, sym, arith}
use Rattle.std.proofs.Math.Nat.{add-mul, mul-add-div_right, mul_right_comm}
use Rattle.std.proofs.lemmas.Nat.{div-add-mod'}

-- whole samples for each cell, and the rest of them
pub share-is : (samples part cells : ℕ) → part < cells
    → samples / cells * part + samples % cells * part / cells ≡ samples * part / cells
share-is samples part cells some =
    let a = samples / cells in
    let b = samples % cells in
    let split : samples * part ≡ (a * part) * cells + b * part
    = ap (λ n. n * part) (sym (div-add-mod' samples cells)) ∙ add-mul (a * cells) b part
    ∙ ap (λ n. n + b * part) (mul_right_comm a cells part) in
    sym (ap (λ n. n / cells) split ∙ mul-add-div_right (omega (arith, some)) (a * part) (b * part))
