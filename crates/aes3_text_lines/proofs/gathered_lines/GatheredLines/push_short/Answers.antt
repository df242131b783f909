use Rattle.std.proofs.Common.{rules, ◌≡◌, ◌+◌, ◌-◌, ◌∷◌, [], ◌++◌, length, ap, ap₂, ◌∙◌, arith}
use Rattle.std.proofs.lemmas.Slice.{take-put_mid}
use Rattle.aes3_text_lines.proofs.gathered_lines.GatheredLines.push_short.Goals as goal

pub returns : goal.returns
returns c =
    let s = c.self.inside in
    let b = c.as_bytes-bytes.result.now in
    let y = c.copy_from_slice.new.self in
    let l : length s.text ≡ 4096 = search rules in
    let i = c.self.invariant in
    let a = c.copy_from_slice.ensures.after in
    let e = ap length a in
    take-put_mid s.len (s.len + length b - s.len) s.text y (s.len + length b) (omega (arith, e)) (omega (arith, l, i))
    ∙ ap₂ (λ x y. x ++ y) c.self.view_is (a ∙ c.as_bytes-bytes.ensures ∙ c.text.ensures.text
    ∙ ap (λ x. x ++ 10 ∷ []) c.text_of_mark-line.ensures.text)
