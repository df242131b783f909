use Rattle.std.proofs.Common.{rules, ◌≡◌, ◌+◌, ◌-◌, ◌*◌, ◌++◌, length, ap, ap₂, ◌∙◌, arith}
use Rattle.aes3_text_lines.specs.MarkLines.{mark_line}
use Rattle.aes3_text_lines.proofs.MarkTexts.{made, line-is, length-beginning}
use Rattle.aes3_text_lines.proofs.mark_line.put_mark.Goals as goal

pub returns-clause-line : goal.returns-clause-line
returns-clause-line c =
    let u = c.args.upper.now in
    let last = c.args.at - u.first in
    let b = c.beginning.ensures in
    let p = c.four_digits.ensures in
    let e = c.ending.ensures in
    let m = length-beginning c.args.mark in
    let n = c.requires.upper in
    let i = u.first_is in
    let f = u.few in
    made _ _ _ _ _ _ _ _ u.len (omega (arith, f)) (omega (arith, m, ap length b)) (search rules)
    c.put_at.ensures.bytes c.put_at-2.ensures.bytes c.put_at-3.ensures.bytes c.put_at-4.ensures.bytes
    ∙ ap₂ (λ x y. x ++ y) (ap₂ (λ x y. x ++ y) b u.digits) (ap₂ (λ x y. x ++ y) p e)
    ∙ line-is c.args.mark c.args.before u.number last u.some (omega (arith, n, i)) (omega (arith, n, i))
    ∙ ap (λ k. mark_line k c.args.mark c.args.before) (let o : 10000 * u.number + last ≡ c.args.at =
    omega (arith, n, i) in o)
