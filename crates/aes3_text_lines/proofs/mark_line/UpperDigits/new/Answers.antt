use Rattle.std.proofs.Common.{ℕ, ◌/◌, [], ◌∷◌, length, ap, ◌∙◌, arith, length-take}
use Rattle.std.proofs.lemmas.Fmt.{length-decimal-le}
use Rattle.aes3_text_lines.proofs.mark_line.UpperDigits.new.Goals as goal

pub slice_bounds-text-end : goal.slice_bounds-text-end
slice_bounds-text-end c =
    let a = ap length (c.as_bytes-digits.ensures.value ∙ c.format.ensures.text) in
    let d = length-decimal-le 16 (c.args.number / 10000) (omega arith) (omega arith) (omega arith) in
    omega (arith, a, d)

pub slice_bounds-copy_from_slice-end : goal.slice_bounds-copy_from_slice-end
slice_bounds-copy_from_slice-end c =
    let a = ap length (c.as_bytes-digits.ensures.value ∙ c.format.ensures.text) in
    let d = length-decimal-le 16 (c.args.number / 10000) (omega arith) (omega arith) (omega arith) in
    let t = length-take {A = ℕ} (length c.as_bytes-digits.result.now)
    (0 ∷ 0 ∷ 0 ∷ 0 ∷ 0 ∷ 0 ∷ 0 ∷ 0 ∷ 0 ∷ 0 ∷ 0 ∷ 0 ∷ 0 ∷ 0 ∷ 0 ∷ 0 ∷ []) in
    omega (arith, a, d, t)

pub copy_from_slice-requires : goal.copy_from_slice-requires
copy_from_slice-requires c =
    let a = ap length (c.as_bytes-digits.ensures.value ∙ c.format.ensures.text) in
    let d = length-decimal-le 16 (c.args.number / 10000) (omega arith) (omega arith) (omega arith) in
    let t = length-take {A = ℕ} (length c.as_bytes-digits.result.now)
    (0 ∷ 0 ∷ 0 ∷ 0 ∷ 0 ∷ 0 ∷ 0 ∷ 0 ∷ 0 ∷ 0 ∷ 0 ∷ 0 ∷ 0 ∷ 0 ∷ 0 ∷ 0 ∷ []) in
    omega (arith, a, d, t)
