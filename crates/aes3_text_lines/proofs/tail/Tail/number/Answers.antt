use Rattle.std.proofs.Common.{rules, ◌≡◌, length, drop, ap, arith, length-append, length-drop}
use Rattle.std.specs.Prelude.{decimal}
use Rattle.std.proofs.lemmas.Fmt.{length-decimal-le}
use Rattle.aes3_text_lines.proofs.tail.Tail.number.Goals as goal

pub write_digits-self-inside-requires : goal.write_digits-self-inside-requires
write_digits-self-inside-requires c =
    let d = length-decimal-le 20 c.args.number (omega arith) (omega arith) (omega arith) in
    let l : length c.self.inside.bytes ≡ 96 = search rules in
    let v = ap length c.self.view_is in
    let w = length-drop c.self.inside.at c.self.inside.bytes in
    let r = c.requires in
    let i = c.self.invariant in
    (omega (arith, d, l, v, w, r, i), omega (arith, l, i))

pub returns-clause-len : goal.returns-clause-len
returns-clause-len c =
    let d = length-decimal-le 20 c.args.number (omega arith) (omega arith) (omega arith) in
    let w = ap length c.write_digits-self-inside.ensures.written in
    let a = length-append (decimal c.args.number) (drop c.self.inside.at c.self.inside.bytes) in
    let v = ap length c.self.view_is in
    omega (arith, d, w, a, v)
