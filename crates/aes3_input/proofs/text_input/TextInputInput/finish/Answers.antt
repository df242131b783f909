use Rattle.std.proofs.Common.{arith, refl}
use Rattle.aes3_cell.specs.CellText.{cells_of_text}
use Rattle.aes3_cell.proofs.CellTexts.{length-cells_of_text}
use Rattle.aes3_input.specs.Forms.{text_reading}
use Rattle.aes3_input.proofs.text_input.TextInputInput.finish.Goals as goal

pub finish-requires-clause-following : goal.finish-requires-clause-following
finish-requires-clause-following g c =
    let h = c.requires.following in
    let l = h.1 in
    let n = length-cells_of_text h.0 in
    (cells_of_text h.0, omega arith, h.2.taker)

pub returns-in-Ok : goal.returns-in-Ok
unfolding text_reading
returns-in-Ok g c = (
  λ b h. (
    refl,
    record {
      reader = h.reader;
      lawful = h.lawful;
      count = h.count;
      taker
          = c.in-Ok.ensures.done (cells_of_text b) h.taker;
    },
    c.in-Ok.ensures.grew (cells_of_text b) h.taker,
  ),
  c.in-Ok.ensures.no_failure,
)

pub returns-in-Err : goal.returns-in-Err
unfolding text_reading
returns-in-Err g c = (λ b h. (refl, c.in-Err.ensures.err_grew (cells_of_text b) h.taker), c.in-Err.ensures.one_failure)
