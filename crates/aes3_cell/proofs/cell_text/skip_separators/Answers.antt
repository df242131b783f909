use Rattle.std.proofs.Common.{arith, sym, refl, get_or}
use Rattle.std.proofs.lemmas.List.{take_more}
use Rattle.aes3_cell.proofs.TextReads.{read-none, read-is, read-join, read-separator}
use Rattle.aes3_cell.proofs.cell_text.skip_separators.Goals as goal

pub loop-i-init : goal.loop-i-init
loop-i-init c = read-none c.args.text.now

pub loop-i-preserved : goal.loop-i-preserved
loop-i-preserved c =
    let xs = c.args.piece.now in
    let i = c.loop-i.i in
    read-is (sym (take_more xs i 0 (omega arith))) refl
    (read-join c.loop-i.invariant
    (read-separator c.loop-i.text c.feed_byte.new.self (get_or xs i 0)
    (c.is_separator.ensures.0 c.if-not-is_separator.false) c.feed_byte.ensures.next))
