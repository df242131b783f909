use Rattle.std.proofs.Common.{◌%◌, sym, ◌∙◌, ap, arith, replicate, [], ◌∷◌, cond}
use Rattle.std.specs.Prelude.{not}
use Rattle.aes3_level.specs.Words.{level_of, low_cells}
use Rattle.aes3_capture_recovery.specs.Endings.{level_if}
use Rattle.aes3_spoil.specs.Errors.{errors_at}
use Rattle.aes3_spoil.specs.declared.kinds.ErrorKind.TheVariants.{Changed}
use Rattle.aes3_spoil.proofs.Taking.{inverted-one, one-cell, one-stands, took, turned-one}
use Rattle.aes3_spoil.proofs.spoiling.Spoiler.take_one.Goals as goal

pub returns : goal.returns
returns g c =
    let s = c.args.self.now in
    let w = c.args.word in
    let n = c.times-times.result in
    took g.T.Sink.taken g.T.Sink.failed c.args.sink.now c.put.new.sink s c.put.new.self _ _ _
    (level_of (w % 2) ∷ []) (low_cells n c.bits_of_cells.result) c.put.result c.put.ensures.form
    (λ d h.
    let i = inverted-one s d c.differ-inverted.result c.count-inversions.result h c.count-inversions.ensures
    (c.differ-inverted.ensures
    ∙ ap (λ b. cond b (not s.inverted) s.inverted) c.is_odd.ensures) in
    let t = turned-one s d c.differ-inverted.result c.differ-is_inverted.result c.count-changes.result h i
    (c.count-changes.ensures ∙ ap (errors_at s.errors Changed) (omega arith)) (c.differ-is_inverted.ensures
    ∙ ap (λ b. cond b (not c.differ-inverted.result) c.differ-inverted.result) c.is_odd-2.ensures) in
    one-cell s d c.differ-is_inverted.result n w h t c.times-times.ensures.times
    ∙ ap (λ b. replicate n (level_if b)) (sym (c.differ-high.ensures
    ∙ ap (λ b. cond c.differ-is_inverted.result (not b) b) c.is_odd-3.ensures)) ∙ sym c.bits_of_cells.ensures.cells)
    (λ d h.
    let i = inverted-one s d c.differ-inverted.result c.count-inversions.result h c.count-inversions.ensures
    (c.differ-inverted.ensures
    ∙ ap (λ b. cond b (not s.inverted) s.inverted) c.is_odd.ensures) in
    one-stands s d (level_of (w % 2)) c.differ-inverted.result c.clear_from-self.result h i c.clear_from-self.ensures)
    c.put.ensures.wrote c.put.ensures.held
