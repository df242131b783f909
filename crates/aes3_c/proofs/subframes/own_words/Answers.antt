use Rattle.std.proofs.Common.{◌∙◌, ◌*◌, ap, arith, length-set, sym}
use Rattle.std.specs.List.{flat_map}
use Rattle.std.proofs.lemmas.List.{take_all}
use Rattle.aes3_forms_words.specs.Forms.{own_word}
use Rattle.aes3_forms_words.specs.Lists.{each_word}
use Rattle.aes3_frame.specs.Files.{word_bytes}
use Rattle.aes3_c.proofs.BlockWords.{four-at, own-more}
use Rattle.aes3_c.proofs.subframes.own_words.Goals as goal

pub loop-slot-preserved : goal.loop-slot-preserved
loop-slot-preserved c =
    let slot = c.loop-slot.slot in
    let octets = c.args.octets.now in
    let w = c.word_of_sample.result in
    let test = c.loop-slot-test.true in
    let size = c.requires in
    let len = c.loop-slot.invariant.len in
    record {
      len = length-set c.loop-slot.own slot w ∙ len;
      read = own-more c.args.form c.loop-slot.own octets slot w (omega (arith, len, test)) test (omega (arith, size, test))
          c.loop-slot.invariant.read
          (c.word_of_sample.ensures ∙ c.read_word.ensures
          ∙ ap (each_word (own_word c.args.form) slot) (four-at octets (4 * slot) (omega (arith, size, test))));
    }

pub returns : goal.returns
returns c =
    let slot = c.loop-slot.slot in
    let size = c.requires in
    let len = c.loop-slot.invariant.len in
    sym (ap (flat_map word_bytes) (take_all slot c.loop-slot.own (omega (arith, len))))
    ∙ c.loop-slot.invariant.read
    ∙ ap (each_word (own_word c.args.form) 0) (take_all (4 * slot) c.args.octets.now (omega (arith, size)))
