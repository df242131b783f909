use Rattle.std.proofs.Common.{◌≡◌, false, get_or, rules}
use Rattle.aes3_frame.specs.Statuses.{status_bits}
use Rattle.aes3_engine.proofs.StatusTells.{bits-tell}
use Rattle.aes3_engine.proofs.rewriting_runs.bits_that_tell.Goals as goal

pub returns : goal.returns
returns c =
    let bits = status_bits c.args.block.now c.args.channel in
    let first : c.status_bit.result ≡ get_or bits 0 false = search (rules, c.status_bit.ensures) in
    let second : c.status_bit-2.result ≡ get_or bits 1 false = search (rules, c.status_bit-2.ensures) in
    let third : c.status_bit-3.result ≡ get_or bits 16 false = search (rules, c.status_bit-3.ensures) in
    let fourth : c.status_bit-4.result ≡ get_or bits 17 false = search (rules, c.status_bit-4.ensures) in
    let fifth : c.status_bit-5.result ≡ get_or bits 18 false = search (rules, c.status_bit-5.ensures) in
    let sixth : c.status_bit-6.result ≡ get_or bits 32 false = search (rules, c.status_bit-6.ensures) in
    bits-tell c.args.block.now c.args.channel first second third fourth fifth sixth
