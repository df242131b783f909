use Rattle.std.proofs.Common.{rules, arith, ◌∙◌, ◌*◌, ◌+◌, ◌-◌, ap, sym}
use Rattle.std.specs.List.{flat_map}
use Rattle.std.proofs.lemmas.List.{take_all}
use Rattle.std.proofs.lemmas.Slice.{overwrites}
use Rattle.aes3_level.specs.Words.{word_cells}
use Rattle.aes3_cell.specs.Packed.{octets_of}
use Rattle.aes3_cell.specs.declared.form.Form.TheVariants.{Packed}
use Rattle.aes3_cell.proofs.WrittenForms.{bytes-nothing}
use Rattle.aes3_c.proofs.BlockOctets.{octets-more}
use Rattle.aes3_c.proofs.block_form.put_octets.Goals as goal

pub loop-slot-init : goal.loop-slot-init
loop-slot-init c = record { len = c.requires; put = sym (bytes-nothing Packed) }

pub loop-slot-preserved : goal.loop-slot-preserved
loop-slot-preserved c = record {
  len = search (rules, overwrites);
  put = octets-more c.args.cells.now c.loop-slot.octets c.copy_from_slice.new.self c.loop-slot.slot
      (8 * c.loop-slot.slot + 8 - 8 * c.loop-slot.slot) (omega arith) (omega arith) c.loop-slot.invariant.put
      (c.copy_from_slice.ensures.after ∙ c.octets_of_word.ensures);
}

pub returns : goal.returns
returns c =
    let put = c.loop-slot.invariant.put in
    sym (take_all (8 * c.loop-slot.slot) c.loop-slot.octets (omega arith)) ∙ put
    ∙ ap (λ w. octets_of (flat_map word_cells w)) (take_all c.loop-slot.slot c.args.cells.now (omega arith))
