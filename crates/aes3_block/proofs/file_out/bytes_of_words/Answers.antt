use Rattle.std.proofs.Common.{rules, arith, sym, ap, ◌∙◌, ◌+◌, ◌*◌, ◌-◌}
use Rattle.std.specs.List.{flat_map}
use Rattle.std.proofs.lemmas.List.{take_all}
use Rattle.std.proofs.lemmas.Slice.{overwrites}
use Rattle.aes3_frame.specs.Files.{word_bytes}
use Rattle.aes3_frame.proofs.Files.{bytes-word}
use Rattle.aes3_block.proofs.file_out.bytes_of_words.Goals as goal

pub loop-i-preserved : goal.loop-i-preserved
loop-i-preserved c = record {
  bytes = bytes-word c.args.words.now c.loop-i.bytes c.copy_from_slice.new.self c.loop-i.i
      (4 * c.loop-i.i + 4 - 4 * c.loop-i.i)
      (omega arith) (search rules) (omega arith) c.loop-i.invariant.bytes (c.copy_from_slice.ensures.after
      ∙ c.to_le_bytes.ensures);
  len = search (rules, overwrites);
}

pub returns-clause-bytes : goal.returns-clause-bytes
returns-clause-bytes c =
    let i = c.loop-i.i in
    let len = c.loop-i.invariant.len in
    let told = c.told-words in
    sym (take_all (4 * i) c.loop-i.bytes (omega (arith, len))) ∙ c.loop-i.invariant.bytes
    ∙ ap (flat_map word_bytes) (take_all i c.args.words.now (omega (arith, told)))
