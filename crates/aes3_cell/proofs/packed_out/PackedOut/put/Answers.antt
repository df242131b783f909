use Rattle.std.proofs.Common.{◌+◌, ◌<◌, length, arith, refl, sym, ap, ◌∙◌}
use Rattle.std.specs.Int.{bytes_high_first}
use Rattle.aes3_cell.specs.Pending.{begun_after}
use Rattle.aes3_cell.specs.PackedPending.{octets_added}
use Rattle.aes3_cell.proofs.Growing.{grew-none, grew-is}
use Rattle.aes3_cell.proofs.Writing.{wrote-is, ok-always}
use Rattle.aes3_cell.proofs.PackedWords.{high_cells, length-high_cells, packed-short, packed-begun, packed-full}
use Rattle.aes3_cell.proofs.PackedWords.{packed-done}
use Rattle.aes3_cell.proofs.packed_out.PackedOut.put.Goals as goal

pub returns-then-self-lt-WORD_LEN-clause-wrote : goal.returns-then-self-lt-WORD_LEN-clause-wrote
returns-then-self-lt-WORD_LEN-clause-wrote g c =
    let v = c.self.inside in
    let cells = ap (λ x. x.cells) c.self.view_is in
    record {
      grew = grew-is (sym
          (packed-short _ v.len c.args.level (sym (ap length cells) ∙ length-high_cells v.len v.word)
          c.if-self-lt-WORD_LEN.true)) (grew-none refl);
      no_failure = refl;
      err = tt;
    }

pub returns-then-self-lt-WORD_LEN-clause-begun : goal.returns-then-self-lt-WORD_LEN-clause-begun
returns-then-self-lt-WORD_LEN-clause-begun g c =
    let v = c.self.inside in
    let cells = ap (λ x. x.cells) c.self.view_is in
    ap (high_cells (v.len + 1)) c.with_cell_behind-word.ensures
    ∙ packed-begun v.len v.word c.args.level c.if-self-lt-WORD_LEN.true
    ∙ ap (λ p. begun_after p c.args.level) cells

pub returns-clause-wrote : goal.returns-clause-wrote
returns-clause-wrote g c =
    let v = c.self.inside in
    let few : v.len < 64 = c.self.invariant.0 in
    let cells = ap (λ x. x.cells) c.self.view_is in
    wrote-is
    (c.to_be_bytes.ensures ∙ ap (bytes_high_first 8) c.with_cell_behind-word.ensures
    ∙ packed-full v.len v.word c.args.level (omega arith)
    ∙ ap (λ p. octets_added p c.args.level) cells) c.write_all-wrote.ensures

pub returns-clause-begun : goal.returns-clause-begun
returns-clause-begun g c =
    let v = c.self.inside in
    let few : v.len < 64 = c.self.invariant.0 in
    let cells = ap (λ x. x.cells) c.self.view_is in
    ok-always _
    (packed-done v.len v.word c.args.level (omega arith) ∙ ap (λ p. begun_after p c.args.level) cells)
