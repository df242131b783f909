use Rattle.std.proofs.Common.{rules, ◌≡◌, ◌∙◌, ◌-◌, ◌||◌, ◌&&◌, [], ◌∷◌, get_or, not, sym, ap, ap₂, arith, w8}
use Rattle.std.specs.Int.{reverse_bits}
use Rattle.aes3_files.specs.Packed.{bits_down, bits_up, has_long_run, highest_first}
use Rattle.aes3_files.proofs.PackedPairs.{pair-reversed, pairs-next, reversed-are}
use Rattle.aes3_files.proofs.packed.are_reversed.Goals as goal

pub loop-at-preserved : goal.loop-at-preserved
loop-at-preserved c =
    let l = c.loop-at in
    let octets = c.args.first.now in
    let before = get_or octets (l.at - 1) 0 in
    let octet = get_or octets l.at 0 in
    let down : c.has_long_run-is_long.result ≡ has_long_run (highest_first (before ∷ octet ∷ [])) = search in
    let x : c.reverse_bits.result ≡ reverse_bits w8 before = search in
    let y : c.reverse_bits-in-loop-at.result ≡ reverse_bits w8 octet = search in
    let up =
    c.has_long_run-is_long_reversed.ensures ∙ pair-reversed before octet _ _ (search rules) (search rules) x y in
    record {
      down = ap₂ ◌||◌ l.invariant.down down ∙ sym (pairs-next bits_down octets l.at (omega arith) (omega arith));
      up = ap₂ ◌||◌ l.invariant.up up ∙ sym (pairs-next bits_up octets l.at (omega arith) (omega arith));
    }

pub returns-then-is_long : goal.returns-then-is_long
returns-then-is_long c =
    let l = c.loop-at in
    ap (λ p. p && not l.is_long_reversed) (sym c.if-is_long.true)
    ∙ reversed-are c.args.first.now l.at l.is_long l.is_long_reversed (omega arith) l.invariant.down l.invariant.up

pub returns-else-is_long : goal.returns-else-is_long
returns-else-is_long c =
    let l = c.loop-at in
    c.if-is_long.false ∙ ap (λ p. p && not l.is_long_reversed) (sym c.if-is_long.false)
    ∙ reversed-are c.args.first.now l.at l.is_long l.is_long_reversed (omega arith) l.invariant.down l.invariant.up
