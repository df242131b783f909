use Rattle.std.proofs.Common.{rules, ◌≡◌, ◌+◌, ◌-◌, ◌++◌, length, ap₂, ◌∙◌, arith}
use Rattle.aes3_text_lines.proofs.MarkTexts.{part-put}
use Rattle.aes3_text_lines.proofs.gathered_lines.GatheredLines.push.Goals as goal

pub returns : goal.returns
returns c =
    let s = c.self.inside in
    let p = c.put_mark-written in
    let l : length s.text ≡ 4096 = search rules in
    let i = c.self.invariant in
    let n = p.ensures.len in
    let m = p.ensures.line_len in
    part-put s.text p.new.line s.len (s.len + 40 - s.len) p.result (omega (arith, l, i)) (omega (arith, n, m))
    ∙ ap₂ (λ x y. x ++ y) c.self.view_is p.ensures.line
