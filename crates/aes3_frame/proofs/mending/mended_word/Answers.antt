use Rattle.std.proofs.Common.{sym, ap, ◌∙◌}
use Rattle.aes3_slot.specs.ReadWords.{read_word}
use Rattle.aes3_frame.specs.Files.{payload_of}
use Rattle.aes3_frame.specs.Mending.{filling_payload}
use Rattle.aes3_frame.specs.declared.fill.Fill.{Fill}
use Rattle.aes3_frame.proofs.BlockLemmas.{zero-lawful}
use Rattle.aes3_frame.proofs.MendedBlocks.{mended-wrong, zero-payload}
use Rattle.aes3_frame.proofs.mending.mended_word.Goals as goal

pub returns-in-Zero-clause-lawful : goal.returns-in-Zero-clause-lawful
returns-in-Zero-clause-lawful c = zero-lawful

pub returns-in-Zero-clause-payload : goal.returns-in-Zero-clause-payload
returns-in-Zero-clause-payload c =
    zero-payload ∙ ap (λ (f : Fill). filling_payload f (payload_of c.args.held)) (sym c.in-Zero.is)
    ∙ sym (mended-wrong c.args.fill (payload_of c.args.held) (read_word c.args.cells)
    (sym c.has_odd_ones.ensures ∙ c.if-not-has_odd_ones.false))

pub returns-in-Hold-clause-payload : goal.returns-in-Hold-clause-payload
returns-in-Hold-clause-payload c =
    ap (λ (f : Fill). filling_payload f (payload_of c.args.held)) (sym c.in-Hold.is)
    ∙ sym (mended-wrong c.args.fill (payload_of c.args.held) (read_word c.args.cells)
    (sym c.has_odd_ones.ensures ∙ c.if-not-has_odd_ones.false))
